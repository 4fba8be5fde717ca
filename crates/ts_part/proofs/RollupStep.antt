-- The facts of a rollup stand for its step.
use Rattle.std.proofs.Common.{◌≡◌, ℕ, zero, suc, ◌+◌, ◌-◌, ◌<◌, ◌⊎◌, List, [], ◌∷◌, map, slice_get, Option, Some, refl, sym, ap, ◌∙◌, arith}
use Rattle.std.specs.Prelude.{slice_index, ◌↔◌}
use Rattle.std.specs.Option.{unwrap_or}
use Rattle.ts_model.specs.declared.term.TermKind.TheVariants.{Node, Predicate, Value}
use Rattle.ts_model.specs.TextTerm.{TextTerm}
use Rattle.ts_model.specs.Order.{term_cmp, term_cmp_total, term_cmp-IsAntisymmetric}
use Rattle.ts_model.specs.Sets.{size}
use Rattle.ts_model.specs.History.{History, IsWellKept}
use Rattle.ts_part.specs.Numbers.{numbered_with, number_of, totals_at}
use Rattle.ts_part.specs.Facts.{HasTerm, HasPredicate, all_predicates, all_terms}
use Rattle.ts_part.specs.Step.{new_terms, number_after, rollup_facts, IsNewTerm, StandsForStep}
use Rattle.ts_part.proofs.Ranks.{among_at, place_of}
use Rattle.ts_part.proofs.Births.{IsOver}
use Rattle.ts_part.proofs.Mentioned.{numbered_as_node}
use Rattle.ts_part.proofs.NewNumbers.{new_beyond}
use Rattle.ts_part.proofs.EntryCounts.{entry_total, predicate_total}
use Rattle.ts_part.proofs.NewTerms.{entries, listed_is_new, new_is_listed, entry_is_new, new_is_entry}

-- what a map of the entries has at the place of one
mapped_at : (f : TextTerm → ℕ) (xs : List TextTerm) (i : ℕ) (x : TextTerm) → slice_get xs i ≡ Some x → slice_index (map f xs) i ≡ f x
mapped_at f [] i x e = let none : ⊥ = cc in absurd none
mapped_at f (y ∷ ys) zero x e = ap f (ap (λ o. unwrap_or o x) e)
mapped_at f (y ∷ ys) (suc i) x e = mapped_at f ys i x e

module _ (history : History) (kept : IsWellKept history) (from : Option ℕ) (k : ℕ) (over : IsOver history from k) where
  total_before : (term : TextTerm) → (term.kind ≡ Node) ⊎ (term.kind ≡ Value) → size (numbered_with term.kind history from) ≡ (totals_at history from).0
  total_before term kind = ap size (numbered_as_node history from term.kind kind)

  numbered_so : (before : ℕ) (xs : List TextTerm) (i : ℕ) (term : TextTerm) → slice_get xs i ≡ Some term → before < number_of history k term
      → number_of history k term ≡ before + 1 + slice_index (map (number_after before history k) xs) i
  numbered_so before xs i term at more =
      let is : slice_index (map (number_after before history k) xs) i ≡ number_of history k term - before - 1 = mapped_at (number_after before history k) xs i term at in
      omega arith

  rollup_terms : (number : ℕ) (term : TextTerm) → HasTerm (rollup_facts history from k) number term
      ↔ (((term.kind ≡ Node) ⊎ (term.kind ≡ Value)) × IsNewTerm history from k term × (number ≡ number_of history k term))
  unfolding rollup_facts
  rollup_terms number term = (has, had)
    where
      has : HasTerm (rollup_facts history from k) number term → ((term.kind ≡ Node) ⊎ (term.kind ≡ Value)) × IsNewTerm history from k term × (number ≡ number_of history k term)
      has h =
          let new = entry_is_new history kept from k over term (among_at term_cmp term_cmp_total (entries history kept from k over) h.entry term h.stands) in
          let total = total_before term new.0 in
          let more = new_beyond history kept from k over term new.1 in
          (new.0, new.1, h.numbered ∙ sym (numbered_so (totals_at history from).0 (entries history kept from k over) h.entry term h.stands (omega arith)))

      had : ((term.kind ≡ Node) ⊎ (term.kind ≡ Value)) × IsNewTerm history from k term × (number ≡ number_of history k term) → HasTerm (rollup_facts history from k) number term
      had h =
          let place = place_of term_cmp term_cmp_total term_cmp-IsAntisymmetric (entries history kept from k over) term (new_is_entry history kept from k over term h.0 h.1) in
          let total = total_before term h.0 in
          let more = new_beyond history kept from k over term h.1 in
          record { entry = place.0; stands = place.1; numbered = h.2 ∙ numbered_so (totals_at history from).0 (entries history kept from k over) place.0 term place.1 (omega arith) }

  rollup_predicates : (number : ℕ) (term : TextTerm) → HasPredicate (rollup_facts history from k) number term
      ↔ ((term.kind ≡ Predicate) × IsNewTerm history from k term × (number ≡ number_of history k term))
  unfolding rollup_facts
  rollup_predicates number term = (has, had)
    where
      total : term.kind ≡ Predicate → size (numbered_with term.kind history from) ≡ (totals_at history from).1
      total is = ap (λ other. size (numbered_with other history from)) is

      has : HasPredicate (rollup_facts history from k) number term → (term.kind ≡ Predicate) × IsNewTerm history from k term × (number ≡ number_of history k term)
      has h =
          let new = listed_is_new history kept from k over Predicate term (among_at term_cmp term_cmp_total (new_terms Predicate history from k) h.entry term h.stands) in
          let before = total new.0 in
          let more = new_beyond history kept from k over term new.1 in
          (new.0, new.1, h.numbered ∙ sym (numbered_so (totals_at history from).1 (new_terms Predicate history from k) h.entry term h.stands (omega arith)))

      had : (term.kind ≡ Predicate) × IsNewTerm history from k term × (number ≡ number_of history k term) → HasPredicate (rollup_facts history from k) number term
      had h =
          let place = place_of term_cmp term_cmp_total term_cmp-IsAntisymmetric (new_terms Predicate history from k) term (new_is_listed history kept from k over Predicate term h.0 h.1) in
          let before = total h.0 in
          let more = new_beyond history kept from k over term h.1 in
          record { entry = place.0; stands = place.1; numbered = h.2 ∙ numbered_so (totals_at history from).1 (new_terms Predicate history from k) place.0 term place.1 (omega arith) }

  pub rollup_stands : StandsForStep history from k (rollup_facts history from k)
  unfolding rollup_facts
  rollup_stands = record {
    number = refl;
    parent = refl;
    before = refl;
    terms = rollup_terms;
    predicates = rollup_predicates;
    additions = refl;
    removals = refl;
  }

  -- by them the totals add up
  pub rollup_totals : (all_terms (rollup_facts history from k), all_predicates (rollup_facts history from k)) ≡ totals_at history (Some k)
  unfolding rollup_facts
  rollup_totals = λ i. (entry_total history kept from k over i, predicate_total history kept from k over i)
