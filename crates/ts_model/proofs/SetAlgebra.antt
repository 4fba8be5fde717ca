-- What unions, differences and rising lists contain, as sets.
use Rattle.std.proofs.Common.{◌≡◌, false, not, ◌&&◌, ◌||◌, List, ◌++◌, sym, ap, ◌∙◌}
use Rattle.std.specs.Option.{is_some}
use Rattle.std.specs.declared.cmp.Ordering.{Ordering}
use Rattle.std.specs.Ordering.{eq_by_cmp}
use Rattle.std.specs.Cmp.{IsTotalOrder}
use Rattle.std.specs.List.Sorted.{IsStrictlySortedBy}
use Rattle.std.specs.FinMap.{IsAntisymmetric, empty, get-empty}
use Rattle.std.proofs.lemmas.List.Folds.{list_any-append}
use Rattle.ts_model.specs.Sets.{SetOf, contains, members, from_list, union, difference}
use Rattle.ts_model.proofs.SetLaws.{contains-members, contains-retain, contains-from_list, members_are}

module _ {K : Type 0} (R : K → K → Ordering) where
  pub contains-empty : (q : K) → contains (empty {X = Unit {0}} {R = R}) q ≡ false
  contains-empty q = ap is_some (get-empty R q)

  module _ (o : IsTotalOrder R) where
    pub contains-union : (set other : SetOf R) (q : K) → contains (union set other) q ≡ (contains set q || contains other q)
    contains-union set other q =
        contains-from_list R o (members set ++ members other) q
        ∙ list_any-append (eq_by_cmp R q) (members set) (members other)
        ∙ (λ i. sym (contains-members R set q) i || sym (contains-members R other q) i)

    module _ (same : IsAntisymmetric R) where
      pub contains-difference : (set other : SetOf R) (q : K) → contains (difference set other) q ≡ (contains set q && not (contains other q))
      contains-difference set other q = contains-retain R set (λ k. not (contains other k)) q (λ x e. ap (λ k. not (contains other k)) (sym (same q x e)))

      -- a rising list is the list of members of the set that it makes
      pub members-from_rising : (keys : List K) → IsStrictlySortedBy R keys → members (from_list {R = R} keys) ≡ keys
      members-from_rising keys rising = sym (members_are R o same (from_list keys) keys rising (λ q. sym (contains-from_list R o keys q)))
