-- The facts of a layer's file stand for its step.
use Rattle.std.proofs.Common.{◌≡◌, ℕ, ◌+◌, ◌⊎◌, inl, inr, Bool, List, [], ◌∷◌, slice_get, Option, Some, IsTrue, refl, sym, ap, ◌∙◌, arith}
use Rattle.std.specs.Prelude.{◌↔◌}
use Rattle.std.specs.FinMap.{contains_key}
use Rattle.std.specs.List.{count_by}
use Rattle.std.specs.List.Sorted.{IsStrictlySortedBy}
use Rattle.ts_model.specs.declared.term.TermKind.{TermKind}
use Rattle.ts_model.specs.declared.term.TermKind.TheVariants.{Node, Predicate, Value}
use Rattle.ts_model.specs.TextTerm.{TextTerm}
use Rattle.ts_model.specs.Order.{term_cmp, term_cmp_total, term_cmp-IsAntisymmetric}
use Rattle.ts_model.specs.Sets.{size}
use Rattle.ts_model.specs.History.{History, IsWellKept, parent_at}
use Rattle.ts_model.specs.Listing.{key_cmp}
use Rattle.ts_model.proofs.BirthOrder.{key_cmp_total}
use Rattle.ts_model.proofs.HistoryLaws.{Found, found}
use Rattle.ts_part.specs.Numbers.{numbered_with, number_of, totals_at, id_triples}
use Rattle.ts_part.specs.Facts.{HasTerm, HasPredicate, all_predicates, all_terms}
use Rattle.ts_part.specs.Step.{new_terms, layer_facts, IsNewTerm, StandsForStep}
use Rattle.ts_part.proofs.Ranks.{among_at, place_of, rank_of}
use Rattle.ts_part.proofs.Births.{IsOver, over_parent_of}
use Rattle.ts_part.proofs.Numbered.{number-new, new_of, lesser}
use Rattle.ts_part.proofs.NewTerms.{entries, listed_is_new, new_is_listed, entry_is_new, new_is_entry}
use Rattle.ts_part.proofs.EntryCounts.{predicates_are_new, count-entries, entry_total, predicate_total}
use Rattle.ts_part.proofs.EntryOrder.{entries_rise, kind_rises}
use Rattle.ts_part.proofs.ContentStep.{additions_gained, removals_lost}

module _ (history : History) (kept : IsWellKept history) (from : Option ℕ) (k : ℕ) (over : IsOver history from k) (top : ℕ) (one : over.front ≡ top ∷ []) where
  -- a new term's number by its place among all new terms that are numbered with it
  by_place : (kind : TermKind) (xs : List TextTerm) (i : ℕ) (term : TextTerm) → ((p : TextTerm → Bool) → count_by p (new_of history kept from k over kind) ≡ count_by p xs)
      → IsStrictlySortedBy (key_cmp history k) xs → slice_get xs i ≡ Some term → IsNewTerm history from k term
      → size (numbered_with term.kind history from) ≡ size (numbered_with kind history from)
      → new_of history kept from k over term.kind ≡ new_of history kept from k over kind
      → number_of history k term ≡ size (numbered_with kind history from) + 1 + i
  by_place kind xs i term all rise at new before same =
      let is = number-new history kept from k over term new in
      let place : count_by (lesser history kept from k over term) (new_of history kept from k over term.kind) ≡ i =
      ap (count_by (lesser history kept from k over term)) same ∙ all (lesser history kept from k over term) ∙ rank_of (key_cmp history k) (key_cmp_total history k) xs i term rise at in
      omega arith

  entry_number : (i : ℕ) (term : TextTerm) → slice_get (entries history kept from k over) i ≡ Some term → (term.kind ≡ Node) ⊎ (term.kind ≡ Value) → IsNewTerm history from k term
      → number_of history k term ≡ (totals_at history from).0 + 1 + i
  entry_number i term at (inl node) new =
      by_place Node (entries history kept from k over) i term (count-entries history kept from k over) (entries_rise history kept from k over top one) at new
      (ap (λ kind. size (numbered_with kind history from)) node) (ap (λ kind. new_of history kept from k over kind) node)
  entry_number i term at (inr value) new =
      by_place Node (entries history kept from k over) i term (count-entries history kept from k over) (entries_rise history kept from k over top one) at new
      (ap (λ kind. size (numbered_with kind history from)) value) (ap (λ kind. new_of history kept from k over kind) value)

  predicate_number : (i : ℕ) (term : TextTerm) → slice_get (new_terms Predicate history from k) i ≡ Some term → term.kind ≡ Predicate → IsNewTerm history from k term
      → number_of history k term ≡ (totals_at history from).1 + 1 + i
  predicate_number i term at is new =
      by_place Predicate (new_terms Predicate history from k) i term (λ p. ap (count_by p) (sym (predicates_are_new history kept from k over)))
      (kind_rises history kept from k over top one Predicate) at new
      (ap (λ kind. size (numbered_with kind history from)) is) (ap (λ kind. new_of history kept from k over kind) is)

module _ (history : History) (kept : IsWellKept history) (k : ℕ) (stands : IsTrue (contains_key history k)) where
  abbrev from : Option ℕ
  from = parent_at history k

  over : IsOver history from k
  over = (over_parent_of history kept k stands).0

  one : over.front ≡ k ∷ []
  unfolding over
  one = (over_parent_of history kept k stands).1

  layer_terms : (number : ℕ) (term : TextTerm) → HasTerm (layer_facts history k) number term
      ↔ (((term.kind ≡ Node) ⊎ (term.kind ≡ Value)) × IsNewTerm history from k term × (number ≡ number_of history k term))
  unfolding layer_facts
  layer_terms number term = (has, had)
    where
      has : HasTerm (layer_facts history k) number term → ((term.kind ≡ Node) ⊎ (term.kind ≡ Value)) × IsNewTerm history from k term × (number ≡ number_of history k term)
      has h =
          let new = entry_is_new history kept from k over term (among_at term_cmp term_cmp_total (entries history kept from k over) h.entry term h.stands) in
          (new.0, new.1, h.numbered ∙ sym (entry_number history kept from k over k one h.entry term h.stands new.0 new.1))

      had : ((term.kind ≡ Node) ⊎ (term.kind ≡ Value)) × IsNewTerm history from k term × (number ≡ number_of history k term) → HasTerm (layer_facts history k) number term
      had h =
          let place = place_of term_cmp term_cmp_total term_cmp-IsAntisymmetric (entries history kept from k over) term (new_is_entry history kept from k over term h.0 h.1) in
          record { entry = place.0; stands = place.1; numbered = h.2 ∙ entry_number history kept from k over k one place.0 term place.1 h.0 h.1 }

  layer_predicates : (number : ℕ) (term : TextTerm) → HasPredicate (layer_facts history k) number term
      ↔ ((term.kind ≡ Predicate) × IsNewTerm history from k term × (number ≡ number_of history k term))
  unfolding layer_facts
  layer_predicates number term = (has, had)
    where
      has : HasPredicate (layer_facts history k) number term → (term.kind ≡ Predicate) × IsNewTerm history from k term × (number ≡ number_of history k term)
      has h =
          let new = listed_is_new history kept from k over Predicate term (among_at term_cmp term_cmp_total (new_terms Predicate history from k) h.entry term h.stands) in
          (new.0, new.1, h.numbered ∙ sym (predicate_number history kept from k over k one h.entry term h.stands new.0 new.1))

      had : (term.kind ≡ Predicate) × IsNewTerm history from k term × (number ≡ number_of history k term) → HasPredicate (layer_facts history k) number term
      had h =
          let place = place_of term_cmp term_cmp_total term_cmp-IsAntisymmetric (new_terms Predicate history from k) term (new_is_listed history kept from k over Predicate term h.0 h.1) in
          record { entry = place.0; stands = place.1; numbered = h.2 ∙ predicate_number history kept from k over k one place.0 term place.1 h.0 h.1 }

  pub layer_stands : StandsForStep history (parent_at history k) k (layer_facts history k)
  unfolding layer_facts
  layer_stands =
      let it : Found history k = found history k stands in
      record {
        number = refl;
        parent = refl;
        before = refl;
        terms = layer_terms;
        predicates = layer_predicates;
        additions = ap (id_triples history k) (additions_gained history kept k it.0 it.1);
        removals = ap (id_triples history k) (removals_lost history kept k it.0 it.1);
      }

  -- by them the totals add up
  pub layer_totals : (all_terms (layer_facts history k), all_predicates (layer_facts history k)) ≡ totals_at history (Some k)
  unfolding layer_facts
  layer_totals = λ i. (entry_total history kept from k over i, predicate_total history kept from k over i)
