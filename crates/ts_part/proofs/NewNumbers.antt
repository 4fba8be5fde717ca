-- The numbers of new terms are those after the total before, up to the layer's.
use Rattle.std.proofs.Common.{◌≡◌, ℕ, ◌<◌, ◌≤◌, Bool, true, false, Option, Some, None, IfSome, refl, sym, ap, ◌∙◌, true≢false, arith}
use Rattle.ts_model.specs.declared.term.TermKind.{TermKind}
use Rattle.ts_model.specs.TextTerm.{TextTerm}
use Rattle.ts_model.specs.Sets.{contains, size}
use Rattle.ts_model.specs.History.{History, IsAncestor, IsWellKept}
use Rattle.ts_part.specs.Numbers.{IsTermAt, numbered_with, number_of}
use Rattle.ts_part.specs.Step.{IsNewTerm}
use Rattle.ts_part.proofs.Births.{IsOver, over_none, over_ancestor}
use Rattle.ts_part.proofs.Mentioned.{numbered_nowhere, numbered_together}
use Rattle.ts_part.proofs.Numbered.{own_term, number-new, number-stays, totals-of}
use Rattle.ts_part.proofs.Places.{number-taken, number-within}

module _ (history : History) (kept : IsWellKept history) where
  -- over an ancestor, or over none
  pub over_from : (from : Option ℕ) (k : ℕ) → IfSome from (λ a. IsAncestor history a k) → IsOver history from k
  over_from None k h = over_none history k
  over_from (Some a) k h = over_ancestor history kept a k h

  pub old_within : (from : Option ℕ) (k : ℕ) → IsOver history from k → (term : TextTerm) → IsTermAt history from term → number_of history k term ≤ size (numbered_with term.kind history from)
  old_within None k over term was = absurd (true≢false (sym was ∙ numbered_nowhere history kept term.kind term))
  old_within (Some a) k over term was =
      let same : number_of history k term ≡ number_of history a term = number-stays history kept a k over term was in
      let within = number-within history kept a term.kind term was in
      omega arith

  module _ (from : Option ℕ) (k : ℕ) (over : IsOver history from k) where
    -- the number of a new term is more than the total before
    pub new_beyond : (term : TextTerm) → IsNewTerm history from k term → size (numbered_with term.kind history from) < number_of history k term
    new_beyond term new = let is = number-new history kept from k over term new in omega arith

    -- and that of no other is
    pub beyond_is_new : (term : TextTerm) → IsTermAt history (Some k) term → size (numbered_with term.kind history from) < number_of history k term → IsNewTerm history from k term
    beyond_is_new term there beyond = by (contains (numbered_with term.kind history from) term) refl
      where
        by : (b : Bool) → contains (numbered_with term.kind history from) term ≡ b → IsNewTerm history from k term
        by true was = let within = old_within from k over term was in absurd (omega arith)
        by false new = record { there = there; before = new }

    -- each number between the totals is a new term's
    pub beyond_taken : (kind : TermKind) (number : ℕ) → size (numbered_with kind history from) < number → number ≤ size (numbered_with kind history (Some k))
        → (term : TextTerm) × (contains (numbered_with kind history (Some k)) term ≡ true) × IsNewTerm history from k term × (number_of history k term ≡ number)
    beyond_taken kind number beyond within =
        let taken = number-taken history kept k kind number (omega arith) within in
        let same : size (numbered_with taken.0.kind history from) ≡ size (numbered_with kind history from) =
        ap size (sym (numbered_together history kept kind (Some k) taken.0 taken.1 from)) in
        let number_is = taken.2 in
        (taken.0, taken.1, beyond_is_new taken.0 (own_term history kept kind (Some k) taken.0 taken.1) (omega arith), taken.2)

    pub totals_rise : (kind : TermKind) → size (numbered_with kind history from) ≤ size (numbered_with kind history (Some k))
    totals_rise kind = let is = totals-of history kept from k over kind in omega arith
