-- Sets of terms: those that pass a test, and how many some of them are.
use Rattle.std.proofs.Common.{◌≡◌, ◌≤◌, Bool, true, false, not, cond, ◌&&◌, ◌||◌, List, [], ◌∷◌, filter, length, refl, sym, ap, ◌∙◌, arith}
use Rattle.std.specs.Cmp.{Equal-is}
use Rattle.std.specs.List.{list_any}
use Rattle.std.proofs.lemmas.List.Filters.{length-filter_both}
use Rattle.std.proofs.lemmas.List.Kept.{IsStrictlySortedBy-filter}
use Rattle.ts_model.specs.TextTerm.{TextTerm}
use Rattle.ts_model.specs.Birth.{is_term}
use Rattle.ts_model.specs.Order.{term_cmp, term_cmp_total, term_cmp-IsAntisymmetric}
use Rattle.ts_model.specs.Sets.{SetOf, contains, members, retain, size}
use Rattle.ts_model.proofs.SetLaws.{contains-members, contains-retain, members_are, IsStrictlySortedBy-members}

among_filter : (p : TextTerm → Bool) (terms : List TextTerm) (q : TextTerm) → list_any (is_term q) (filter p terms) ≡ (list_any (is_term q) terms && p q)
among_filter p [] q = refl
among_filter p (x ∷ xs) q = by (among_filter p xs q) (p x) refl (is_term q x) refl
  where
    own : is_term q x ≡ true → p q ≡ p x
    own at = ap p (term_cmp-IsAntisymmetric q x ((Equal-is (term_cmp q x)).0 at))

    neither : (a b : Bool) → b ≡ false → (a && b) ≡ false
    neither true b e = e
    neither false b e = refl

    by : list_any (is_term q) (filter p xs) ≡ (list_any (is_term q) xs && p q) → (passes : Bool) → p x ≡ passes → (here : Bool) → is_term q x ≡ here
        → list_any (is_term q) (cond passes (x ∷ filter p xs) (filter p xs)) ≡ ((here || list_any (is_term q) xs) && p q)
    by below true is true at = ap (λ b. b || list_any (is_term q) (filter p xs)) at ∙ sym (own at ∙ is)
    by below true is false at = ap (λ b. b || list_any (is_term q) (filter p xs)) at ∙ below
    by below false is true at = below ∙ neither (list_any (is_term q) xs) (p q) (own at ∙ is) ∙ sym (own at ∙ is)
    by below false is false at = below

pub filtered_members : (p : TextTerm → Bool) (set : SetOf term_cmp) → filter p (members set) ≡ members (retain set p)
filtered_members p set =
    members_are term_cmp term_cmp_total term_cmp-IsAntisymmetric (retain set p) (filter p (members set))
    (IsStrictlySortedBy-filter term_cmp p (members set) (IsStrictlySortedBy-members term_cmp set))
    (λ q. among_filter p (members set) q ∙ ap (λ b. b && p q) (sym (contains-members term_cmp set q))
    ∙ sym (contains-retain term_cmp set p q (λ x e. ap p (sym (term_cmp-IsAntisymmetric q x e)))))

-- some of the members are no more than all
pub size_within : (set other : SetOf term_cmp) → ((q : TextTerm) → contains set q ≡ true → contains other q ≡ true) → size set ≤ size other
size_within set other within =
    let kept : filter (contains set) (members other) ≡ members set =
    members_are term_cmp term_cmp_total term_cmp-IsAntisymmetric set (filter (contains set) (members other))
    (IsStrictlySortedBy-filter term_cmp (contains set) (members other) (IsStrictlySortedBy-members term_cmp other))
    (λ q. among_filter (contains set) (members other) q ∙ ap (λ b. b && contains set q) (sym (contains-members term_cmp other q)) ∙ both (contains other q) (contains set q) (within q)) in
    omega (arith, ap length kept, length-filter_both (contains set) (λ x. not (contains set x)) (λ x. refl) (members other))
  where
    both : (a b : Bool) → (b ≡ true → a ≡ true) → (a && b) ≡ b
    both true b gives = refl
    both false true gives = gives refl
    both false false gives = refl
