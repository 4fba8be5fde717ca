-- Lists of terms that rise by their spellings, and hold exactly the new terms of a kind, are the lists that a part is to have.
use Rattle.std.proofs.Common.{◌≡◌, ℕ, true, List, [], ◌∷◌, Option, sym, ap, ◌∙◌}
use Rattle.std.specs.declared.cmp.Ordering.{Ordering}
use Rattle.std.specs.declared.cmp.Ordering.TheVariants.{Less}
use Rattle.std.specs.Ordering.{nat_cmp, ordering_then}
use Rattle.std.specs.Cmp.{both_ways}
use Rattle.std.specs.Cmp.Lexicographic.{slice_cmp}
use Rattle.std.specs.List.{AllByRecursion}
use Rattle.std.specs.List.Sorted.{IsStrictlySortedBy}
use Rattle.ts_model.specs.declared.term.TermKind.{TermKind}
use Rattle.ts_model.specs.TextTerm.{TextTerm}
use Rattle.ts_model.specs.Order.{kind_place, term_cmp, term_cmp_total, term_cmp-IsAntisymmetric}
use Rattle.ts_model.specs.Sets.{from_list}
use Rattle.ts_model.specs.History.{History, IsWellKept}
use Rattle.ts_model.proofs.SetLaws.{contains-from_list, members_are}
use Rattle.ts_part.specs.Facts.{spellings}
use Rattle.ts_part.specs.Rules.{TermsRule}
use Rattle.ts_part.specs.Step.{new_terms, IsNewTerm}
use Rattle.ts_part.proofs.Births.{IsOver}
use Rattle.ts_part.proofs.NewTerms.{is_in, listed_is_new, new_is_listed}
use Rattle.ts_part.proofs.TermRules.{terms_keep}

less_first : (r s : Ordering) → r ≡ Less → ordering_then r s ≡ Less
less_first r s is = ap (λ r. ordering_then r s) is

-- terms whose spellings rise do too
pub terms_rise : (terms : List TextTerm) → IsStrictlySortedBy (slice_cmp nat_cmp) (spellings terms) → IsStrictlySortedBy term_cmp terms
unfolding IsStrictlySortedBy
terms_rise [] h = tt
terms_rise (x ∷ xs) h = (above xs h.0, terms_rise xs h.1)
  where
    above : (ys : List TextTerm) → AllByRecursion (λ text. slice_cmp nat_cmp x.spelling text ≡ Less) (spellings ys) → AllByRecursion (λ y. term_cmp x y ≡ Less) ys
    above [] h = tt
    above (y ∷ ys) h = (less_first (slice_cmp nat_cmp x.spelling y.spelling) (nat_cmp (kind_place x.kind) (kind_place y.kind)) h.0, above ys h.1)

-- rising terms with the same members are the same list
pub same_terms_listed : (xs ys : List TextTerm) → IsStrictlySortedBy term_cmp xs → IsStrictlySortedBy term_cmp ys
    → ((term : TextTerm) → is_in xs term ≡ true → is_in ys term ≡ true) → ((term : TextTerm) → is_in ys term ≡ true → is_in xs term ≡ true) → xs ≡ ys
same_terms_listed xs ys rise others to from =
    let has = contains-from_list term_cmp term_cmp_total ys in
    members_are term_cmp term_cmp_total term_cmp-IsAntisymmetric (from_list ys) xs rise
    (λ term. both_ways (is_in xs term) (is_in ys term) (to term) (from term) ∙ sym (has term))
    ∙ sym (members_are term_cmp term_cmp_total term_cmp-IsAntisymmetric (from_list ys) ys others (λ term. sym (has term)))

module _ (history : History) (kept : IsWellKept history) (from : Option ℕ) (k : ℕ) (over : IsOver history from k) where
  pub terms_are_new : (kind : TermKind) (terms : List TextTerm) → TermsRule kind terms
      → ((term : TextTerm) → is_in terms term ≡ true → (term.kind ≡ kind) × IsNewTerm history from k term)
      → ((term : TextTerm) → term.kind ≡ kind → IsNewTerm history from k term → is_in terms term ≡ true)
      → terms ≡ new_terms kind history from k
  terms_are_new kind terms rule are all =
      let keeps = terms_keep history kept from k over kind in
      same_terms_listed terms (new_terms kind history from k) (terms_rise terms rule.rising) (terms_rise (new_terms kind history from k) keeps.rising)
      (λ term there. let is = are term there in new_is_listed history kept from k over kind term is.0 is.1)
      (λ term there. let is = listed_is_new history kept from k over kind term there in all term is.0 is.1)
