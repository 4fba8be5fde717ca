use Rattle.std.proofs.Common.{◌≡◌, ℕ, Bor, Some, List, slice_get, sym, ap, ◌∙◌, subst}
use Rattle.std.specs.List.{AllZip}
use Rattle.ts_model.specs.Order.{term_cmp}
use Rattle.ts_model.specs.Sets.{from_list, members}
use Rattle.ts_model.specs.TextTerm.{TextTerm}
use Rattle.ts_builder.specs.Lookups.{found_terms}
use Rattle.ts_builder.proofs.RankLemmas.{now}
use Rattle.ts_builder.proofs.terms.occurrences_of.Goals as goal

pub returns : goal.returns
returns c =
    let given : c.deref.result.now ≡ c.args.terms.items = c.deref.ensures.value in
    let same : found_terms c.in_ok-ask.field-0.items ≡ now c.in_ok-ranked.ranked.terms.items = c.in_ok-ask.ensures.terms ∙ ap now c.deref-2.ensures.value in
    record {
      distinct = same ∙ c.in_ok-ranked.ensures.distinct ∙ ap (λ (terms : List (Bor TextTerm)). members (from_list {R = term_cmp} (now terms))) given;
      ids = c.in_ok-ask.ensures.ids;
      places = subst (λ terms. AllZip (λ (term : TextTerm) (place : ℕ). slice_get terms place ≡ Some term) (now c.args.terms.items) c.in_ok-ranked.ranked.places.items) (sym same)
          (subst (λ (given : List (Bor TextTerm)). AllZip (λ (term : TextTerm) (place : ℕ). slice_get (now c.in_ok-ranked.ranked.terms.items) place ≡ Some term) (now given) c.in_ok-ranked.ranked.places.items) given
          c.in_ok-ranked.ensures.places);
    }
