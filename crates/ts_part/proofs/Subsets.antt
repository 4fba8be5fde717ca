-- The members of a set, those of a part of it and the others.
use Rattle.std.proofs.Common.{◌≡◌, ◌+◌, Bool, true, false, not, ◌&&◌, ◌||◌, cond, List, [], ◌∷◌, filter, ◌++◌, refl, sym, ap, ◌∙◌, subst}
use Rattle.std.specs.declared.cmp.Ordering.{Ordering}
use Rattle.std.specs.Ordering.{eq_by_cmp}
use Rattle.std.specs.Cmp.{IsTotalOrder, Equal-is}
use Rattle.std.specs.List.{list_any, count_by}
use Rattle.std.specs.List.Sorted.{IsPermutation}
use Rattle.std.specs.FinMap.{IsAntisymmetric}
use Rattle.std.proofs.lemmas.List.Kept.{IsStrictlySortedBy-filter}
use Rattle.std.proofs.lemmas.List.Sorted.{IsPermutation-filter_both}
use Rattle.ts_model.specs.Sets.{SetOf, contains, members, retain, difference}
use Rattle.ts_model.proofs.SetLaws.{IsStrictlySortedBy-members, contains-members, contains-retain, same_set, members_are}
use Rattle.ts_part.proofs.Ranks.{count-append, count-moved}

module _ {K : Type 0} (R : K → K → Ordering) (o : IsTotalOrder R) (same : IsAntisymmetric R) where
  -- what a filter leaves
  pub among_filter : (test : K → Bool) (xs : List K) (q : K) → list_any (eq_by_cmp R q) (filter test xs) ≡ (list_any (eq_by_cmp R q) xs && test q)
  among_filter test [] q = refl
  among_filter test (x ∷ xs) q =
      elim (eq_by_cmp R q x) as (λ b. eq_by_cmp R q x ≡ b → list_any (eq_by_cmp R q) (cond (test x) (x ∷ filter test xs) (filter test xs)) ≡ ((b || list_any (eq_by_cmp R q) xs) && test q)) [
        | true ↦ λ e. here (test x) e (ap test (sym (same q x ((Equal-is (R q x)).0 e)))) (among_filter test xs q)
        | false ↦ λ e. there (test x) e ∙ among_filter test xs q
      ] refl
    where
      and_itself : (a b : Bool) → b ≡ false → (a && b) ≡ b
      and_itself true b e = refl
      and_itself false b e = sym e

      here : (b : Bool) → eq_by_cmp R q x ≡ true → b ≡ test q → list_any (eq_by_cmp R q) (filter test xs) ≡ (list_any (eq_by_cmp R q) xs && test q)
          → list_any (eq_by_cmp R q) (cond b (x ∷ filter test xs) (filter test xs)) ≡ test q
      here true e is later = ap (λ c. c || list_any (eq_by_cmp R q) (filter test xs)) e ∙ is
      here false e is later = later ∙ and_itself (list_any (eq_by_cmp R q) xs) (test q) (sym is)

      there : (b : Bool) → eq_by_cmp R q x ≡ false → list_any (eq_by_cmp R q) (cond b (x ∷ filter test xs) (filter test xs)) ≡ list_any (eq_by_cmp R q) (filter test xs)
      there true e = ap (λ c. c || list_any (eq_by_cmp R q) (filter test xs)) e
      there false e = refl

  pub members-retain : (set : SetOf R) (test : K → Bool) → filter test (members set) ≡ members (retain set test)
  members-retain set test =
      members_are R o same (retain set test) (filter test (members set))
      (IsStrictlySortedBy-filter R test (members set) (IsStrictlySortedBy-members R set))
      (λ q.
      among_filter test (members set) q
      ∙ ap (λ b. b && test q) (sym (contains-members R set q))
      ∙ sym (contains-retain R set test q (λ x e. ap test (sym (same q x e)))))

  -- a part of a set and the others
  module _ (set part : SetOf R) (within : (q : K) → contains part q ≡ true → contains set q ≡ true) where
    and_part : (a b : Bool) → (b ≡ true → a ≡ true) → (a && b) ≡ b
    and_part true b h = refl
    and_part false false h = refl
    and_part false true h = h refl

    part_is : retain set (contains part) ≡ part
    part_is =
        same_set R o same (retain set (contains part)) part (λ q.
        contains-retain R set (contains part) q (λ x e. ap (contains part) (sym (same q x e)))
        ∙ and_part (contains set q) (contains part q) (within q))

    -- they are its members, in another order
    pub parts_moved : IsPermutation (members set) (members part ++ members (difference set part))
    parts_moved =
        subst (λ l. IsPermutation (members set) l)
        ((λ i. members-retain set (contains part) i ++ members-retain set (λ q. not (contains part q)) i) ∙ ap (λ s. members s ++ members (difference set part)) part_is)
        (IsPermutation-filter_both (contains part) (λ q. not (contains part q)) (λ q. refl) (members set))

    pub count-parts : (p : K → Bool) → count_by p (members set) ≡ count_by p (members part) + count_by p (members (difference set part))
    count-parts p = sym (count-moved p (members set) (members part ++ members (difference set part)) parts_moved) ∙ count-append p (members part) (members (difference set part))
