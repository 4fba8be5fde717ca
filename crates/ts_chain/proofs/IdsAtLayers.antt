-- The numbers that parts tell are those of the layer that they stand for.
use Rattle.std.proofs.Common.{◌≡◌, ℕ, inl, inr, Bool, true, false, List, [], ◌∷◌, Option, None, Some, IfSome, refl, sym, ◌∙◌, subst, true≢false}
use Rattle.std.proofs.lemmas.List.Elements.{All-head, All-tail}
use Rattle.ts_model.specs.declared.term.TermKind.{TermKind}
use Rattle.ts_model.specs.declared.term.TermKind.TheVariants.{Node, Predicate, Value}
use Rattle.ts_model.specs.TextTerm.{TextTerm}
use Rattle.ts_model.specs.Sets.{contains}
use Rattle.ts_model.specs.History.{History, IsProperAncestor, IsWellKept}
use Rattle.ts_part.specs.Facts.{Facts}
use Rattle.ts_part.specs.Numbers.{IsTermAt, number_of, numbered_with}
use Rattle.ts_part.specs.Step.{IsNewTerm, StandsForStep}
use Rattle.ts_part.proofs.Births.{over_ancestor}
use Rattle.ts_part.proofs.Mentioned.{numbered_nowhere}
use Rattle.ts_part.proofs.Numbered.{number-stays, still_there}
use Rattle.ts_chain.specs.Ids.{HasId, HasNew, HasOfKind, Lacks, LacksNew}
use Rattle.ts_chain.specs.Stands.{AreStepsTo, StandsFor}

-- a part that stands for a step has the new terms of the step, by their numbers
pub new_in_step : (history : History) (from : Option ℕ) (k : ℕ) (part : Facts) (term : TextTerm) (id : ℕ) → StandsForStep history from k part → HasNew part term id
    → IsNewTerm history from k term × (id ≡ number_of history k term)
new_in_step history from k part term id step has = by_kind term.kind refl has
  where
    by_kind : (kind : TermKind) → term.kind ≡ kind → HasOfKind kind part id term → IsNewTerm history from k term × (id ≡ number_of history k term)
    by_kind Node is has = let found = (step.terms id term).0 has in (found.1, found.2)
    by_kind Predicate is has = let found = (step.predicates id term).0 has in (found.1, found.2)
    by_kind Value is has = let found = (step.terms id term).0 has in (found.1, found.2)

pub step_has_new : (history : History) (from : Option ℕ) (k : ℕ) (part : Facts) (term : TextTerm) → StandsForStep history from k part → IsNewTerm history from k term
    → HasNew part term (number_of history k term)
step_has_new history from k part term step new = by_kind term.kind refl
  where
    by_kind : (kind : TermKind) → term.kind ≡ kind → HasOfKind kind part (number_of history k term) term
    by_kind Node is = (step.terms (number_of history k term) term).1 (inl is, new, refl)
    by_kind Predicate is = (step.predicates (number_of history k term) term).1 (is, new, refl)
    by_kind Value is = (step.terms (number_of history k term) term).1 (inr is, new, refl)

module _ (history : History) (kept : IsWellKept history) (term : TextTerm) where
  -- a term of an ancestor keeps its number
  pub from_parent : (parent : Option ℕ) (k id : ℕ) → IfSome parent (λ a. IsProperAncestor history a k) → IsTermAt history parent term → IfSome parent (λ a. id ≡ number_of history a term)
      → IsTermAt history (Some k) term × (id ≡ number_of history k term)
  from_parent None k id under there is = absurd (true≢false (sym there ∙ numbered_nowhere history kept term.kind term))
  from_parent (Some a) k id under there is =
      let over = over_ancestor history kept a k under.0 in
      (still_there history kept (Some a) k over term.kind term there, is ∙ sym (number-stays history kept a k over term there))

  id_in : (parts : List Facts) (at : Option ℕ) (id : ℕ) → AreStepsTo history at parts → HasId parts term id → IsTermAt history at term × IfSome at (λ k. id ≡ number_of history k term)
  id_in [] at id steps has = absurd has
  id_in (part ∷ parts) None id steps has = absurd steps
  id_in (part ∷ parts) (Some k) id steps (inl new) =
      let found = new_in_step history part.parent k part term id steps.0.step new in
      (found.0.there, found.1)
  id_in (part ∷ parts) (Some k) id steps (inr later) =
      let found = id_in parts part.parent id steps.1 later.1 in
      from_parent part.parent k id steps.0.from found.0 found.1

  lacks_in : (parts : List Facts) (at : Option ℕ) → AreStepsTo history at parts → Lacks parts term → IsTermAt history at term → ⊥
  lacks_in parts None steps lacks there = true≢false (sym there ∙ numbered_nowhere history kept term.kind term)
  lacks_in [] (Some k) steps lacks there = steps
  lacks_in (part ∷ parts) (Some k) steps lacks there =
      by (All-tail (λ part. LacksNew part term) part parts lacks) (λ rest was. lacks_in parts part.parent steps.1 rest was)
      (contains (numbered_with term.kind history part.parent) term) refl
    where
      by : Lacks parts term → (Lacks parts term → IsTermAt history part.parent term → ⊥) → (before : Bool) → contains (numbered_with term.kind history part.parent) term ≡ before → ⊥
      by rest below true was = below rest was
      by rest below false new =
          All-head (λ part. LacksNew part term) part parts lacks (number_of history k term)
          (step_has_new history part.parent k part term steps.0.step (record { there = there; before = new }))

  abbrev HasAt : List Facts → Option ℕ → Type 0
  HasAt parts at = IfSome at (λ k. HasId parts term (number_of history k term))

  lower : (parts : List Facts) (parent : Option ℕ) (k : ℕ) → IfSome parent (λ a. IsProperAncestor history a k) → IsTermAt history parent term → HasAt parts parent → HasId parts term (number_of history k term)
  lower parts None k under there has = absurd (true≢false (sym there ∙ numbered_nowhere history kept term.kind term))
  lower parts (Some a) k under there has =
      subst (HasId parts term) (sym (number-stays history kept a k (over_ancestor history kept a k under.0) term there)) has

  has_id_in : (parts : List Facts) (at : Option ℕ) → AreStepsTo history at parts → IsTermAt history at term → HasAt parts at
  has_id_in parts None steps there = tt
  has_id_in [] (Some k) steps there = absurd steps
  has_id_in (part ∷ parts) (Some k) steps there =
      by (λ was. has_id_in parts part.parent steps.1 was) (contains (numbered_with term.kind history part.parent) term) refl
    where
      by : (IsTermAt history part.parent term → HasAt parts part.parent) → (before : Bool) → contains (numbered_with term.kind history part.parent) term ≡ before
          → HasId (part ∷ parts) term (number_of history k term)
      by below false new = inl (step_has_new history part.parent k part term steps.0.step (record { there = there; before = new }))
      by below true was = inr (
        λ number has. true≢false (sym was ∙ (new_in_step history part.parent k part term number steps.0.step has).0.before),
        lower parts part.parent k steps.0.from was (below was),
      )

pub id_at : (history : History) (k : ℕ) (parts : List Facts) (term : TextTerm) (id : ℕ) → StandsFor parts history k → HasId parts term id
    → IsTermAt history (Some k) term × (id ≡ number_of history k term)
id_at history k parts term id stands has = id_in history stands.kept term parts (Some k) id stands.steps has

pub lacks_at : (history : History) (k : ℕ) (parts : List Facts) (term : TextTerm) → StandsFor parts history k → Lacks parts term → ¬ IsTermAt history (Some k) term
lacks_at history k parts term stands lacks there = lacks_in history stands.kept term parts (Some k) stands.steps lacks there

pub has_id_at : (history : History) (k : ℕ) (parts : List Facts) (term : TextTerm) → StandsFor parts history k → IsTermAt history (Some k) term
    → HasId parts term (number_of history k term)
has_id_at history k parts term stands there = has_id_in history stands.kept term parts (Some k) stands.steps there
