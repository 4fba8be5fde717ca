-- The parts that a layer is read from stand for it.
use Rattle.std.proofs.Common.{◌≡◌, ℕ, List, [], ◌∷◌, map, Option, None, Some, IfSome, IsTrue, refl, sym, ap, ◌∙◌, subst}
use Rattle.std.specs.FinMap.{contains_key}
use Rattle.std.specs.List.{AllByRecursion}
use Rattle.std.proofs.lemmas.List.Elements.{recursion_from_All}
use Rattle.ts_model.specs.History.{History, IsAncestor, IsProperAncestor, IsWellKept, parent_at}
use Rattle.ts_part.specs.declared.header.PartKind.{PartKind}
use Rattle.ts_part.specs.declared.header.PartKind.TheVariants.{Layer, Rollup}
use Rattle.ts_part.specs.Descent.{AreParents, AreRolled, LeadDown, facts_by, facts_of}
use Rattle.ts_part.specs.Facts.{Facts, all_predicates, all_terms}
use Rattle.ts_part.specs.Loaded.{LoadedPart}
use Rattle.ts_part.specs.Numbers.{totals_at}
use Rattle.ts_part.specs.Part.{PartSays}
use Rattle.ts_part.specs.PartNames.{Parents, PartName, parts_of}
use Rattle.ts_part.specs.Step.{StandsForStep, layer_facts, rollup_facts}
use Rattle.ts_part.proofs.Births.{ancestor_stands}
use Rattle.ts_part.proofs.DescentLaws.{parts_lead_down, parts_stand}
use Rattle.ts_part.proofs.FactsRead.{one_facts}
use Rattle.ts_part.proofs.LayerStep.{layer_stands, layer_totals}
use Rattle.ts_part.proofs.NewNumbers.{over_from}
use Rattle.ts_part.proofs.RollupStep.{rollup_stands, rollup_totals}
use Rattle.ts_chain.specs.Named.{AreReadFrom, IsFromFile, SaysOf, as_name, name_of, named_by}
use Rattle.ts_chain.specs.Stands.{AreStepsTo, IsStepTo, StandsFor}

module _ (history : History) (kept : IsWellKept history) where
  -- facts that stand for a step are a step from their own parent
  is_step : (from : Option ℕ) (k : ℕ) (facts part : Facts) → StandsForStep history from k facts → (all_terms facts, all_predicates facts) ≡ totals_at history (Some k) → facts ≡ part
      → IfSome part.parent (λ a. IsProperAncestor history a k) → IsStepTo history k part
  is_step from k facts part stands totals is proper =
      let step : StandsForStep history from k part = subst (StandsForStep history from k) is stands in
      record {
        from = proper;
        step = subst (λ o. StandsForStep history o k part) (sym step.parent) step;
        totals = subst (λ f. (all_terms f, all_predicates f) ≡ totals_at history (Some k)) is totals;
      }

  is_ancestor : (k : ℕ) (from : Option ℕ) → IfSome from (λ a. IsProperAncestor history a k) → IfSome from (λ a. IsAncestor history a k)
  is_ancestor k None h = tt
  is_ancestor k (Some a) h = h.0

  -- what the file of a part says is a step
  file_steps : (kind : PartKind) (k : ℕ) (part : Facts) → IsTrue (contains_key history k) → facts_by kind history part.parent k ≡ part → IfSome part.parent (λ a. IsProperAncestor history a k)
      → IsStepTo history k part
  file_steps Layer k part there is proper = is_step (parent_at history k) k (layer_facts history k) part (layer_stands history kept k there) (layer_totals history kept k there) is proper
  file_steps Rollup k part there is proper =
      let over = over_from history kept part.parent k (is_ancestor k part.parent proper) in
      is_step part.parent k (rollup_facts history part.parent k) part (rollup_stands history kept part.parent k over) (rollup_totals history kept part.parent k over) is proper

  says_by : (kind : PartKind) (file : List ℕ) (parent : Option ℕ) (k : ℕ) → SaysOf kind file history parent k → PartSays file (facts_by kind history parent k)
  says_by Layer file parent k says = says
  says_by Rollup file parent k says = says

  loaded_steps : (k : ℕ) (part : LoadedPart) → IsFromFile history part → IsTrue (contains_key history k) → part.facts.number ≡ k → IfSome part.facts.parent (λ a. IsProperAncestor history a k)
      → IsStepTo history k part.facts
  loaded_steps k part file there number proper =
      let facts = part.facts in
      let is : facts_by facts.kind history facts.parent facts.number ≡ facts =
      one_facts part.file (facts_by facts.kind history facts.parent facts.number) facts (says_by facts.kind part.file facts.parent facts.number file.says) file.loaded.says in
      file_steps facts.kind k facts there (ap (facts_by facts.kind history facts.parent) (sym number) ∙ is) proper

  still_there : (k : ℕ) (from : Option ℕ) → IsTrue (contains_key history k) → IfSome from (λ a. IsProperAncestor history a k) → IfSome from (λ a. IsTrue (contains_key history a))
  still_there k None there h = tt
  still_there k (Some a) there h = ancestor_stands history kept a k h.0 there

  steps : (parts : List LoadedPart) (at : Option ℕ) → IfSome at (λ k. IsTrue (contains_key history k)) → LeadDown history at (map (λ part. named_by part.facts) parts)
      → AllByRecursion (IsFromFile history) parts → AreStepsTo history at (map (λ part. part.facts) parts)
  steps [] None there down files = tt
  steps [] (Some k) there down files = absurd down
  steps (part ∷ parts) None there down files = absurd down
  steps (part ∷ parts) (Some k) there down files =
      (loaded_steps k part files.0 there down.0 down.1, steps parts part.facts.parent (still_there k part.facts.parent there down.1) down.2 files.1)

  named_steps : (parts : List PartName) (at : Option ℕ) → IfSome at (λ k. IsTrue (contains_key history k)) → LeadDown history at parts
      → AllByRecursion (λ (part : PartName). StandsForStep history part.parent part.number (facts_of history part)) parts → AreStepsTo history at (map (facts_of history) parts)
  named_steps [] None there down stand = tt
  named_steps [] (Some k) there down stand = absurd down
  named_steps (part ∷ parts) None there down stand = absurd down
  named_steps (part ∷ parts) (Some k) there down stand =
      let facts = facts_of history part in
      let parent : facts.parent ≡ part.parent = stand.0.parent in
      let proper : IfSome facts.parent (λ a. IsProperAncestor history a k) = subst (λ o. IfSome o (λ a. IsProperAncestor history a k)) (sym parent) down.1 in
      let is : facts_by part.kind history facts.parent k ≡ facts = ap (λ o. facts_by part.kind history o k) parent ∙ ap (facts_by part.kind history part.parent) (sym down.0) in (
        file_steps part.kind k facts there is proper,
        subst (λ o. AreStepsTo history o (map (facts_of history) parts)) (sym parent) (named_steps parts part.parent (still_there k part.parent there down.1) down.2 stand.1),
      )

-- the facts of the parts that a layer is read from
pub layers_stand : (history : History) (parents rolled : Parents) (k : ℕ) → IsWellKept history → IsTrue (contains_key history k) → AreParents history parents → AreRolled history rolled
    → StandsFor (map (facts_of history) (parts_of parents rolled (Some k))) history k
layers_stand history parents rolled k kept there told rolled_up = record {
  kept = kept;
  there = there;
  steps = named_steps history kept (parts_of parents rolled (Some k)) (Some k) there (parts_lead_down history kept parents rolled told rolled_up (Some k) there)
      (recursion_from_All (λ (part : PartName). StandsForStep history part.parent part.number (facts_of history part)) (parts_of parents rolled (Some k)) (parts_stand history kept parents rolled told rolled_up (Some k) there));
}

pub read_stands : (history : History) (parents rolled : Parents) (k : ℕ) (parts : List LoadedPart) → IsWellKept history → IsTrue (contains_key history k)
    → AreReadFrom history parents rolled k parts → StandsFor (map (λ part. part.facts) parts) history k
read_stands history parents rolled k parts kept there read = record {
  kept = kept;
  there = there;
  steps = steps history kept parts (Some k) there
      (subst (LeadDown history (Some k)) (sym read.named) (parts_lead_down history kept parents rolled read.told read.rolled_up (Some k) there))
      (recursion_from_All (IsFromFile history) parts read.files);
}

named_twice : (parts : List LoadedPart) → map as_name (map name_of (map (λ part. part.facts) parts)) ≡ map (λ part. named_by part.facts) parts
named_twice [] = refl
named_twice (part ∷ parts) = ap (λ names. named_by part.facts ∷ names) (named_twice parts)

pub read_names : (history : History) (parents rolled : Parents) (k : ℕ) (parts : List LoadedPart) → AreReadFrom history parents rolled k parts
    → map as_name (map name_of (map (λ part. part.facts) parts)) ≡ parts_of parents rolled (Some k)
read_names history parents rolled k parts read = named_twice parts ∙ read.named
