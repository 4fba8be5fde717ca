-- New numbers for old ones.
use Rattle.std.specs.Prelude.{◌≡◌, ◌↔◌, ℕ, suc, ◌<◌, List, get_or, length, Contains, unwrap_or}
use Rattle.std.specs.List.Sorted.{IsStrictlySortedBy}
use Rattle.std.specs.Option.{option_map}
use Rattle.std.specs.Ordering.{eq_by_cmp, nat_cmp}
use Rattle.ts_model.specs.Birth.{first_place}
use Rattle.ts_plane.specs.declared.triple.IdTriple.{IdTriple}
use Rattle.ts_squash.specs.declared.renumber.Renumbered.{Renumbered}

-- the place of an old number in an order of them, counted from 1; 0 of a number that isn't there
abbrev pub new_number : List ℕ → ℕ → ℕ
new_number order id = unwrap_or (option_map suc (first_place (eq_by_cmp nat_cmp id) order)) 0

abbrev pub new_triple : List ℕ → List ℕ → IdTriple → IdTriple
new_triple terms predicates t = record { s = new_number terms t.s; p = new_number predicates t.p; o = new_number terms t.o }

-- the different numbers of a list, rising
pub record AreDifferent (ids different : List ℕ) : Type 0 where
  pub rise : IsStrictlySortedBy nat_cmp different
  pub same : (id : ℕ) → Contains ids id ↔ Contains different id

-- as many numbers, with each of these among them
pub record AreSameNumbers (these those : List ℕ) : Type 0 where
  pub has : (id : ℕ) → Contains these id → Contains those id
  pub counted : length those ≡ length these

-- old numbers, rising, and the new number of each by an order of them
pub record AreNumbered (numbers : Renumbered) (order : List ℕ) : Type 0 where
  pub rise : IsStrictlySortedBy nat_cmp numbers.old.items
  pub same : AreSameNumbers numbers.old.items order
  pub counted : length numbers.new.items ≡ length numbers.old.items
  pub each : (i : ℕ) → i < length numbers.old.items → get_or numbers.new.items i 0 ≡ new_number order (get_or numbers.old.items i 0)
