-- The terms that parts name by number are those of the layer that they stand for.
use Rattle.std.proofs.Common.{◌≡◌, ◌≢◌, ℕ, ◌⊎◌, inl, inr, List, [], ◌∷◌, Contains, Option, None, Some, IfSome, sym, ap, ◌∙◌, subst, arith}
use Rattle.std.specs.Prelude.{◌↔◌}
use Rattle.ts_model.specs.declared.term.TermKind.{TermKind}
use Rattle.ts_model.specs.declared.term.TermKind.TheVariants.{Node, Predicate, Value}
use Rattle.ts_model.specs.TextTerm.{TextTerm}
use Rattle.ts_model.specs.Order.{kind_place}
use Rattle.ts_model.specs.History.{History, IsWellKept}
use Rattle.ts_part.specs.Facts.{Facts}
use Rattle.ts_part.specs.Numbers.{IsTermAt, number_of}
use Rattle.ts_part.specs.Step.{StandsForStep}
use Rattle.ts_chain.specs.Ids.{HasId, HasNew, HasOfKind}
use Rattle.ts_chain.specs.Stands.{AreStepsTo, StandsFor}
use Rattle.ts_chain.specs.Views.{IsNodeId, IsNodeOf, IsPredicateOf, IsTermOf, NamesPredicate, NamesTerm}
use Rattle.ts_chain.proofs.Elements.{contains_first, contains_head, contains_rest}
use Rattle.ts_chain.proofs.IdsAtLayers.{from_parent, has_id_at}

-- ---- kinds and lists

pub node_or_value : (kind : TermKind) → (kind ≡ Node) ⊎ (kind ≡ Value) → kind ≢ Predicate
node_or_value kind (inl node) e = let places : kind_place Node ≡ kind_place Predicate = ap kind_place (sym node ∙ e) in absurd (omega arith)
node_or_value kind (inr value) e = let places : kind_place Value ≡ kind_place Predicate = ap kind_place (sym value ∙ e) in absurd (omega arith)

-- ---- what is said of each new term of a part holds of the layer

module _ (history : History) (kept : IsWellKept history) (term : TextTerm) (id : ℕ) where
  abbrev IsNumberedAt : Option ℕ → Type 0
  IsNumberedAt at = IsTermAt history at term × IfSome at (λ k. id ≡ number_of history k term)

  -- what a part of the steps has at its own layer, the layer has
  numbered_in : (parts : List Facts) (at : Option ℕ) (part : Facts) → AreStepsTo history at parts → Contains parts part
      → ((from : Option ℕ) (k : ℕ) → StandsForStep history from k part → IsNumberedAt (Some k)) → IsNumberedAt at
  numbered_in [] at part steps among new = absurd (omega (arith, among.1))
  numbered_in (newest ∷ parts) None part steps among new = absurd steps
  numbered_in (newest ∷ parts) (Some k) part steps among new = by (contains_first newest parts part among) (λ later. numbered_in parts newest.parent part steps.1 later new)
    where
      by : (newest ≡ part) ⊎ Contains parts part → (Contains parts part → IsNumberedAt newest.parent) → IsNumberedAt (Some k)
      by (inl is) below = new newest.parent k (subst (StandsForStep history newest.parent k) is steps.0.step)
      by (inr later) below = let found = below later in from_parent history kept term newest.parent k id steps.0.from found.0 found.1

  -- a part that has the number for the term is one of those that tell its number
  pub named_in : (parts : List Facts) → HasId parts term id → (part : Facts) × Contains parts part × HasNew part term id
  named_in [] has = absurd has
  named_in (part ∷ parts) (inl new) = (part, contains_head part parts, new)
  named_in (part ∷ parts) (inr later) = let found = named_in parts later.1 in (found.0, contains_rest part parts found.0 found.1, found.2)

some_step : (parts : List Facts) (history : History) (at : Option ℕ) (part : Facts) → AreStepsTo history at parts → Contains parts part → (from : Option ℕ) × (k : ℕ) × StandsForStep history from k part
some_step [] history at part steps among = absurd (omega (arith, among.1))
some_step (newest ∷ parts) history None part steps among = absurd steps
some_step (newest ∷ parts) history (Some k) part steps among = by (contains_first newest parts part among) (λ later. some_step parts history newest.parent part steps.1 later)
  where
    by : (newest ≡ part) ⊎ Contains parts part → (Contains parts part → (from : Option ℕ) × (k : ℕ) × StandsForStep history from k part) → (from : Option ℕ) × (k : ℕ) × StandsForStep history from k part
    by (inl is) below = (newest.parent, k, subst (StandsForStep history newest.parent k) is steps.0.step)
    by (inr later) below = below later

pub names_term_at : (history : History) (k : ℕ) (parts : List Facts) (id : ℕ) (term : TextTerm) → StandsFor parts history k → NamesTerm parts id term → IsTermOf history k id term
names_term_at history k parts id term stands names =
    let some = some_step parts history (Some k) names.part stands.steps names.among in
    let found = numbered_in history stands.kept term id parts (Some k) names.part stands.steps names.among (λ from j step.
    let new = (step.terms id term).0 names.has in (new.1.there, new.2)) in
    record { kind = node_or_value term.kind ((some.2.terms id term).0 names.has).0; there = found.0; number = sym found.1 }

pub names_predicate_at : (history : History) (k : ℕ) (parts : List Facts) (id : ℕ) (term : TextTerm) → StandsFor parts history k → NamesPredicate parts id term
    → IsPredicateOf history k id term
names_predicate_at history k parts id term stands names =
    let some = some_step parts history (Some k) names.part stands.steps names.among in
    let found = numbered_in history stands.kept term id parts (Some k) names.part stands.steps names.among (λ from j step.
    let new = (step.predicates id term).0 names.has in (new.1.there, new.2)) in
    record { kind = ((some.2.predicates id term).0 names.has).0; there = found.0; number = sym found.1 }

node_named : (history : History) (k : ℕ) (parts : List Facts) (id : ℕ) (term : TextTerm) → StandsFor parts history k → IsTermOf history k id term → term.kind ≡ Node → NamesTerm parts id term
node_named history k parts id term stands is node =
    let found = named_in history stands.kept term id parts (subst (HasId parts term) is.number (has_id_at history k parts term stands is.there)) in
    record { part = found.0; among = found.1; has = subst (λ kind. HasOfKind kind found.0 id term) node found.2 }

pub node_at : (history : History) (k : ℕ) (parts : List Facts) (id : ℕ) → StandsFor parts history k → IsNodeId parts id ↔ IsNodeOf history k id
node_at history k parts id stands = (
  λ node. (node.0, names_term_at history k parts id node.0 stands node.1, node.2),
  λ node. (node.0, node_named history k parts id node.0 stands node.1 node.2, node.2),
)
