-- Finite sets in an order. Each has one list of its members, in that order.
use Rattle.std.specs.Prelude.{ℕ, Bool, not, List, ◌++◌, map, length}
use Rattle.std.specs.declared.cmp.Ordering.{Ordering}
use Rattle.std.specs.FinMap as finmap

-- a map to nothing
abbrev pub SetOf : {K : Type 0} → (K → K → Ordering) → Type 0
SetOf R = finmap.FinMap R (Unit {0})

abbrev pub unit_entries : {K : Type 0} → List K → List (K × Unit {0})
unit_entries keys = map (λ key. (key, tt)) keys

module _ {K : Type 0} {R : K → K → Ordering} where
  abbrev pub contains : SetOf R → K → Bool
  contains set key = finmap.contains_key set key

  -- the members, each once and in order
  abbrev pub members : SetOf R → List K
  members set = finmap.keys set

  -- how many there are
  abbrev pub size : SetOf R → ℕ
  size set = length (members set)

  abbrev pub from_list : List K → SetOf R
  from_list keys = finmap.from_entries (unit_entries keys)

  -- the members that pass a test
  abbrev pub retain : SetOf R → (K → Bool) → SetOf R
  retain set test = finmap.retain_keys set test

  abbrev pub union : SetOf R → SetOf R → SetOf R
  union set other = from_list (members set ++ members other)

  abbrev pub intersection : SetOf R → SetOf R → SetOf R
  intersection set other = retain set (contains other)

  abbrev pub difference : SetOf R → SetOf R → SetOf R
  difference set other = retain set (λ key. not (contains other key))
