-- The parts of a layer go down to none, and by their steps come to its triples and to the numbers of its terms.
use Rattle.std.proofs.Common.{◌≡◌, ℕ, zero, suc, ◌<◌, ◌≤◌, All, Bool, true, false, not, ◌&&◌, ◌||◌, List, [], ◌∷◌, ◌++◌, Contains, Option, Some, None, IfSome, IsTrue, refl, sym, ap, ◌∙◌, subst, true≢false, arith}
use Rattle.std.specs.Option.{option_and_then, option_map}
use Rattle.std.specs.FinMap.{contains_key, get}
use Rattle.std.specs.List.{AllByRecursion}
use Rattle.std.proofs.lemmas.List.Elements.{All-contains, All-from_recursion}
use Rattle.std.proofs.lemmas.List.{append_assoc}
use Rattle.ts_model.specs.declared.term.TermKind.{TermKind}
use Rattle.ts_model.specs.TextTerm.{TextTerm}
use Rattle.ts_model.specs.TextTriple.{TextTriple}
use Rattle.ts_model.specs.Order.{triple_cmp, triple_cmp_total, triple_cmp-IsAntisymmetric}
use Rattle.ts_model.specs.Sets.{contains, size}
use Rattle.ts_model.specs.History.{LayerRecord, History, IsAncestor, IsProperAncestor, IsWellKept, chain_of, content_at, content_at_parent, parent_at}
use Rattle.ts_model.proofs.HistoryLaws.{Found, found}
use Rattle.ts_model.proofs.SetAlgebra.{contains-difference, contains-empty}
use Rattle.ts_part.specs.PartNames.{Parents, PartName, part_of, parts_of, parts_within}
use Rattle.ts_part.specs.Descent.{AreParents, AreRolled, LeadDown, facts_of, is_held}
use Rattle.ts_part.specs.Numbers.{IsTermAt, number_of, numbered_with}
use Rattle.ts_part.specs.Step.{IsNewTerm, StandsForStep, layer_facts}
use Rattle.ts_part.proofs.Births.{IsOver, ancestor_bound, ancestor_stands, over_ancestor, parent_is_ancestor}
use Rattle.ts_part.proofs.Ranks.{each_weaker}
use Rattle.ts_part.proofs.Places.{number-taken, number-within}
use Rattle.ts_part.proofs.Mentioned.{numbered_nowhere, numbered_together}
use Rattle.ts_part.proofs.NewNumbers.{beyond_taken, new_beyond, over_from}
use Rattle.ts_part.proofs.LayerStep.{layer_stands}
use Rattle.ts_part.proofs.RollupStep.{rollup_stands}
use Rattle.ts_part.proofs.Numbered.{number-stays, own_term}

-- ---- the triples

decided : (here before : Bool) → here ≡ ((here && not before) || (not (before && not here) && before))
decided true true = refl
decided true false = refl
decided false true = refl
decided false false = refl

module _ (history : History) where
  -- what the parts hold is what the layer has
  pub held_is : (at : Option ℕ) (parts : List PartName) → LeadDown history at parts → (q : TextTriple) → contains (content_at_parent history at) q ≡ is_held history parts q
  held_is None [] down q = contains-empty triple_cmp q
  held_is None (part ∷ parts) down q = absurd down
  held_is (Some k) [] down q = absurd down
  held_is (Some k) (part ∷ parts) down q =
      ap (λ k. contains (content_at history k) q) (sym down.0)
      ∙ decided (contains (content_at history part.number) q) (contains (content_at_parent history part.parent) q)
      ∙ (λ i. sym (contains-difference triple_cmp triple_cmp_total triple_cmp-IsAntisymmetric (content_at history part.number) (content_at_parent history part.parent) q) i
      || (not (sym (contains-difference triple_cmp triple_cmp_total triple_cmp-IsAntisymmetric (content_at_parent history part.parent) (content_at history part.number) q) i)
      && held_is part.parent parts down.2 q i))

  module _ (kept : IsWellKept history) where
    -- ---- the terms

    abbrev FoundIn : List PartName → ℕ → TextTerm → Type 0
    FoundIn parts k term = (part : PartName) × Contains parts part × IsNewTerm history part.parent part.number term × (number_of history k term ≡ number_of history part.number term)

    deeper : (part : PartName) (parts : List PartName) (a : ℕ) (term : TextTerm) → FoundIn parts a term → FoundIn (part ∷ parts) a term
    deeper part parts a term h = (h.0, (suc h.1.0, omega (arith, h.1.1), h.1.2), h.2, h.3)

    further : (k : ℕ) (part : PartName) (parts : List PartName) (parent : Option ℕ) → IfSome parent (λ a. IsProperAncestor history a k) → (term : TextTerm) → IsTermAt history parent term
        → ((a : ℕ) → parent ≡ Some a → IsTermAt history (Some a) term → FoundIn parts a term) → FoundIn (part ∷ parts) k term
    further k part parts None proper term was below = absurd (true≢false (sym was ∙ numbered_nowhere history kept term.kind term))
    further k part parts (Some a) proper term was below =
        let found = deeper part parts a term (below a refl was) in
        (found.0, found.1, found.2, number-stays history kept a k (over_ancestor history kept a k proper.0) term was ∙ found.3)

    -- a term of the layer is new in one of the parts, and has its number there
    pub found_in : (parts : List PartName) (k : ℕ) → LeadDown history (Some k) parts → (term : TextTerm) → IsTermAt history (Some k) term → FoundIn parts k term
    found_in [] k down term there = absurd down
    found_in (part ∷ parts) k down term there =
        (elim (contains (numbered_with term.kind history part.parent) term) as (λ b. contains (numbered_with term.kind history part.parent) term ≡ b → FoundIn (part ∷ parts) k term) [
          | true ↦ λ was. further k part parts part.parent down.1 term was (λ a is. found_in parts a (subst (λ o. LeadDown history o parts) is down.2) term)
          | false ↦ λ new.
              (part, (0, omega arith, refl), record { there = subst (λ n. IsTermAt history (Some n) term) (sym down.0) there; before = new }, ap (λ n. number_of history n term) (sym down.0))
        ]) refl

    -- ---- the numbers

    -- a part of the layer's: the layer is over it, and it goes down to a proper ancestor or to none
    pub record IsOfLayer (k : ℕ) (part : PartName) : Type 0 where
      pub over : IsOver history (Some part.number) k
      pub down : IfSome part.parent (λ a. IsProperAncestor history a part.number)

    joined : (k a : ℕ) → IsOver history (Some a) k → (part : PartName) → IsOfLayer a part → IsOfLayer k part
    joined k a over part h = record {
      over = record {
        front = over.front ++ h.over.front;
        chain = over.chain ∙ ap (λ c. over.front ++ c) h.over.chain ∙ sym (append_assoc over.front h.over.front (chain_of history part.number));
      };
      down = h.down;
    }

    of_rest : (k : ℕ) (parts : List PartName) (parent : Option ℕ) → IfSome parent (λ a. IsProperAncestor history a k) → LeadDown history parent parts
        → ((a : ℕ) → LeadDown history (Some a) parts → AllByRecursion (IsOfLayer a) parts) → AllByRecursion (IsOfLayer k) parts
    of_rest k [] None proper down each = tt
    of_rest k (part ∷ parts) None proper down each = absurd down
    of_rest k parts (Some a) proper down each = each_weaker (IsOfLayer a) (IsOfLayer k) (joined k a (over_ancestor history kept a k proper.0)) parts (each a down)

    each_of_layer : (parts : List PartName) (k : ℕ) → LeadDown history (Some k) parts → AllByRecursion (IsOfLayer k) parts
    each_of_layer [] k down = tt
    each_of_layer (part ∷ parts) k down = (
      record { over = record { front = []; chain = ap (chain_of history) (sym down.0) }; down = subst (λ n. IfSome part.parent (λ a. IsProperAncestor history a n)) (sym down.0) down.1 },
      of_rest k parts part.parent down.1 down.2 (λ a below. each_of_layer parts a below),
    )

    ancestor_of : (k : ℕ) (from : Option ℕ) → IfSome from (λ a. IsProperAncestor history a k) → IfSome from (λ a. IsAncestor history a k)
    ancestor_of k None h = tt
    ancestor_of k (Some a) h = h.0

    -- a number after a part's total before, up to its total, is that of a term which is new in the part
    pub number_in : (parts : List PartName) (k : ℕ) → LeadDown history (Some k) parts → (part : PartName) → Contains parts part → (kind : TermKind) (number : ℕ)
        → size (numbered_with kind history part.parent) < number → number ≤ size (numbered_with kind history (Some part.number))
        → (term : TextTerm) × IsTrue (contains (numbered_with kind history (Some part.number)) term) × IsNewTerm history part.parent part.number term × (number_of history k term ≡ number)
    number_in parts k down part there kind number beyond within =
        let of_layer = All-contains (IsOfLayer k) parts part (All-from_recursion (IsOfLayer k) parts (each_of_layer parts k down)) there in
        let taken = beyond_taken history kept part.parent part.number (over_from history kept part.parent part.number (ancestor_of part.number part.parent of_layer.down)) kind number beyond within in
        (taken.0, taken.1, taken.2, number-stays history kept part.number k of_layer.over taken.0 taken.2.there ∙ taken.3)

    -- each number of the layer's lies so in one of the parts
    pub number_lies : (parts : List PartName) (k : ℕ) → LeadDown history (Some k) parts → (kind : TermKind) (number : ℕ) → 1 ≤ number → number ≤ size (numbered_with kind history (Some k))
        → (part : PartName) × Contains parts part × (size (numbered_with kind history part.parent) < number) × (number ≤ size (numbered_with kind history (Some part.number)))
    number_lies parts k down kind number positive within =
        let taken = number-taken history kept k kind number positive within in
        let found = found_in parts k down taken.0 (own_term history kept kind (Some k) taken.0 taken.1) in
        let of_layer = All-contains (IsOfLayer k) parts found.0 (All-from_recursion (IsOfLayer k) parts (each_of_layer parts k down)) found.1 in
        let same : (at : Option ℕ) → size (numbered_with kind history at) ≡ size (numbered_with taken.0.kind history at) = λ at. ap size (numbered_together history kept kind (Some k) taken.0 taken.1 at) in
        let before = same found.0.parent in
        let total = same (Some found.0.number) in
        let beyond = new_beyond history kept found.0.parent found.0.number (over_from history kept found.0.parent found.0.number (ancestor_of found.0.number found.0.parent of_layer.down)) taken.0 found.2 in
        let most = (number-within history kept found.0.number taken.0.kind taken.0 found.2.there).1 in
        let number_is : number_of history k taken.0 ≡ number = taken.2 in
        let number_there = found.3 in
        (found.0, found.1, omega arith, omega arith)

    -- ---- they go down

    module _ (parents rolled : Parents) (are : AreParents history parents) (up : AreRolled history rolled) where
      -- a part goes down to a proper ancestor that stands, or to none
      abbrev StepsDown : ℕ → PartName → Type 0
      StepsDown k part = (part.number ≡ k) × IfSome part.parent (λ a. IsProperAncestor history a k × IsTrue (contains_key history a))

      to_parent : (k : ℕ) (layer : LayerRecord) → get history k ≡ Some layer → (parent : Option ℕ) → layer.parent ≡ parent → IfSome parent (λ p. (p < k) × IsTrue (contains_key history p))
          → StepsDown k (part_of (Some parent) None k)
      to_parent k layer is None none h = (refl, tt)
      to_parent k layer is (Some p) parent h =
          let below : p < k = h.0 in
          (refl, ((parent_is_ancestor history kept k p layer is parent h.1, λ same. omega arith), h.1))

      to_upto : (k : ℕ) → IsTrue (contains_key history k) → (upto : Option ℕ) → IfSome upto (λ a. IsProperAncestor history a k) → StepsDown k (part_of (get parents k) (Some upto) k)
      to_upto k stands None h = (refl, tt)
      to_upto k stands (Some a) h = (refl, (h, ancestor_stands history kept a k h.0 stands))

      steps_down : (k : ℕ) → IsTrue (contains_key history k) → StepsDown k (part_of (get parents k) (get rolled k) k)
      steps_down k stands = by_rolled (get rolled k) refl
        where
          by_rolled : (r : Option (Option ℕ)) → get rolled k ≡ r → StepsDown k (part_of (get parents k) r k)
          by_rolled (Some upto) is = to_upto k stands upto (up k upto is).1
          by_rolled None is =
              let it : Found history k = found history k stands in
              let parent : get parents k ≡ Some it.0.parent = are k ∙ ap (option_map (λ (layer : LayerRecord). layer.parent)) it.1 in
              subst (λ o. StepsDown k (part_of o None k)) (sym parent) (to_parent k it.0 it.1 it.0.parent refl (kept k it.0 it.1).parent)

      go_on : (k most : ℕ) (part : PartName) → k ≤ suc most → StepsDown k part
          → ((at : Option ℕ) → IfSome at (λ k. IsTrue (contains_key history k) × (k ≤ most)) → LeadDown history at (parts_within most (get parents) (get rolled) at))
          → LeadDown history (Some k) (part ∷ parts_within most (get parents) (get rolled) part.parent)
      go_on k most part small steps below = (steps.0, proper part.parent steps.1, below part.parent (smaller part.parent steps.1))
        where
          proper : (o : Option ℕ) → IfSome o (λ a. IsProperAncestor history a k × IsTrue (contains_key history a)) → IfSome o (λ a. IsProperAncestor history a k)
          proper None h = tt
          proper (Some a) h = h.0

          smaller : (o : Option ℕ) → IfSome o (λ a. IsProperAncestor history a k × IsTrue (contains_key history a)) → IfSome o (λ a. IsTrue (contains_key history a) × (a ≤ most))
          smaller None h = tt
          smaller (Some a) h =
              let bound = ancestor_bound history kept a k h.0.0 in
              let other = h.0.1 in
              (h.1, omega arith)

      within : (most : ℕ) (at : Option ℕ) → IfSome at (λ k. IsTrue (contains_key history k) × (k ≤ most)) → LeadDown history at (parts_within most (get parents) (get rolled) at)
      within zero None h = tt
      within (suc most) None h = tt
      within zero (Some k) h =
          let it : Found history k = found history k h.0 in
          let positive = (kept k it.0 it.1).number.0 in
          let small = h.1 in
          absurd (omega arith)
      within (suc most) (Some k) h = go_on k most (part_of (get parents k) (get rolled k) k) h.1 (steps_down k h.0) (λ at there. within most at there)

      pub parts_lead_down : (at : Option ℕ) → IfSome at (λ k. IsTrue (contains_key history k)) → LeadDown history at (parts_of parents rolled at)
      parts_lead_down None h = tt
      parts_lead_down (Some k) h = within k (Some k) (h, omega arith)

      -- ---- their facts stand for their steps

      abbrev Stands : PartName → Type 0
      Stands part = StandsForStep history part.parent part.number (facts_of history part)

      part_stands : (k : ℕ) → IsTrue (contains_key history k) → Stands (part_of (get parents k) (get rolled k) k)
      part_stands k stands = by_rolled (get rolled k) refl
        where
          to_layer : (parent : Option ℕ) → parent_at history k ≡ parent → Stands (part_of (Some parent) None k)
          to_layer parent is = subst (λ o. StandsForStep history o k (layer_facts history k)) is (layer_stands history kept k stands)

          by_rolled : (r : Option (Option ℕ)) → get rolled k ≡ r → Stands (part_of (get parents k) r k)
          by_rolled (Some upto) is = rollup_stands history kept upto k (over_from history kept upto k (ancestor_of k upto (up k upto is).1))
          by_rolled None is =
              let it : Found history k = found history k stands in
              let parent : get parents k ≡ Some it.0.parent = are k ∙ ap (option_map (λ (layer : LayerRecord). layer.parent)) it.1 in
              subst (λ o. Stands (part_of o None k)) (sym parent) (to_layer it.0.parent (ap (option_and_then (λ (layer : LayerRecord). layer.parent)) it.1))

      each_stands : (most : ℕ) (at : Option ℕ) → IfSome at (λ k. IsTrue (contains_key history k)) → AllByRecursion Stands (parts_within most (get parents) (get rolled) at)
      each_stands zero None h = tt
      each_stands (suc most) None h = tt
      each_stands zero (Some k) h = tt
      each_stands (suc most) (Some k) h =
          let part : PartName = part_of (get parents k) (get rolled k) k in
          (part_stands k h, each_stands most part.parent (standing part.parent (steps_down k h).1))
        where
          standing : (o : Option ℕ) → IfSome o (λ a. IsProperAncestor history a k × IsTrue (contains_key history a)) → IfSome o (λ a. IsTrue (contains_key history a))
          standing None h = tt
          standing (Some a) h = h.1

      pub parts_stand : (at : Option ℕ) → IfSome at (λ k. IsTrue (contains_key history k)) → All Stands (parts_of parents rolled at)
      parts_stand None h = All-from_recursion Stands [] tt
      parts_stand (Some k) h = All-from_recursion Stands (parts_within k (get parents) (get rolled) (Some k)) (each_stands k (Some k) h)
