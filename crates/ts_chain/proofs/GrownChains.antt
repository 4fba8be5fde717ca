-- Parts that stand for a layer stand for it in a history that has grown, and its listing is as it was.
use Rattle.std.proofs.Common.{◌≡◌, ℕ, ◌-◌, ◌++◌, List, [], ◌∷◌, map, filter, false, Option, None, Some, IfSome, IsTrue, Contains, sym, ap, ◌∙◌, subst}
use Rattle.std.specs.FinMap.{contains_key}
use Rattle.std.specs.Ordering.{on, then_cmp}
use Rattle.std.specs.Option.{option_and_then, option_map}
use Rattle.ts_model.specs.declared.term.TermKind.{TermKind}
use Rattle.ts_model.specs.declared.term.TermKind.TheVariants.{Node, Predicate, Value}
use Rattle.ts_part.specs.declared.header.PartKind.TheVariants.{Layer, Rollup}
use Rattle.ts_model.specs.declared.pattern.Pattern.{Pattern}
use Rattle.ts_model.specs.Fits.{fits}
use Rattle.ts_model.specs.History.{History, IsLayerKept, IsProperAncestor, IsWellKept, LayerRecord, additions_at, parent_at, removals_at, set_or_none}
use Rattle.ts_model.specs.Listing.{birth_cmp, in_birth_order, listing, select}
use Rattle.ts_model.specs.Order.{triple_cmp}
use Rattle.ts_model.specs.Sets.{SetOf, contains, difference, from_list, members}
use Rattle.ts_model.specs.TextTerm.{TextTerm}
use Rattle.ts_part.specs.Facts.{Facts}
use Rattle.ts_part.specs.Numbers.{id_triple, id_triples, number_of, totals_at}
use Rattle.ts_part.specs.Step.{IsNewTerm, StandsForStep, gained, is_of_kind, layer_facts, lost, new_terms, rollup_facts}
use Rattle.ts_part.proofs.Births.{ancestor_stands}
use Rattle.ts_chain.specs.Stands.{AreStepsTo, StandsFor}
use Rattle.ts_chain.proofs.GrownHistories.{IsWellKept-grown, ParentStands, get-old, grown, parent_of_standing, same_chain_of, same_content_at, same_content_at_parent, same_keys, same_numbers, same_terms, same_totals, stands_still}

module _ (history : History) (kept : IsWellKept history) (n : ℕ) (fresh : contains_key history n ≡ false) (layer : LayerRecord) where
  abbrev Grown : History
  Grown = grown history kept n fresh layer

  module _ (k : ℕ) (stands : IsTrue (contains_key history k)) where
    same_birth_order : birth_cmp Grown k ≡ birth_cmp history k
    same_birth_order = λ i.
        then_cmp (on (λ triple. triple.subject) (same_keys history kept n fresh layer k stands i))
        (then_cmp (on (λ triple. triple.predicate) (same_keys history kept n fresh layer k stands i)) (on (λ triple. triple.object) (same_keys history kept n fresh layer k stands i)))

    same_in_order : (set : SetOf triple_cmp) → in_birth_order Grown k set ≡ in_birth_order history k set
    same_in_order set = λ i. members (from_list {R = same_birth_order i} (members set))

    pub same_listing : listing Grown k ≡ listing history k
    same_listing = λ i. members (from_list {R = same_birth_order i} (members (same_content_at history kept n fresh layer k stands i)))

    pub same_select : (pattern : Pattern) → select Grown k pattern ≡ select history k pattern
    same_select pattern = ap (filter (fits pattern)) same_listing

    same_id_triple : id_triple Grown k ≡ id_triple history k
    unfolding id_triple
    same_id_triple = λ i. λ triple. record {
      s = same_numbers history kept n fresh layer k triple.subject stands i;
      p = same_numbers history kept n fresh layer k triple.predicate stands i;
      o = same_numbers history kept n fresh layer k triple.object stands i;
    }

    same_id_triples : (set other : SetOf triple_cmp) → set ≡ other → id_triples Grown k set ≡ id_triples history k other
    unfolding id_triples
    same_id_triples set other is = λ i. map (same_id_triple i) (members (from_list {R = same_birth_order i} (members (is i))))

    module _ (from : Option ℕ) (below : ParentStands history from) where
      newer : (term : TextTerm) → IsNewTerm history from k term → IsNewTerm Grown from k term
      newer term new = record {
        there = ap (λ set. contains set term) (same_terms history kept n fresh layer term.kind (Some k) stands) ∙ new.there;
        before = ap (λ set. contains set term) (same_terms history kept n fresh layer term.kind from below) ∙ new.before;
      }

      older : (term : TextTerm) → IsNewTerm Grown from k term → IsNewTerm history from k term
      older term new = record {
        there = ap (λ set. contains set term) (sym (same_terms history kept n fresh layer term.kind (Some k) stands)) ∙ new.there;
        before = ap (λ set. contains set term) (sym (same_terms history kept n fresh layer term.kind from below)) ∙ new.before;
      }

      same_gained : gained Grown from k ≡ gained history from k
      same_gained = λ i. difference (same_content_at history kept n fresh layer k stands i) (same_content_at_parent history kept n fresh layer from below i)

      same_lost : lost Grown from k ≡ lost history from k
      same_lost = λ i. difference (same_content_at_parent history kept n fresh layer from below i) (same_content_at history kept n fresh layer k stands i)

      same_step : (facts : Facts) → StandsForStep history from k facts → StandsForStep Grown from k facts
      same_step facts step = record {
        number = step.number;
        parent = step.parent;
        before = step.before ∙ sym (same_totals history kept n fresh layer from below);
        terms = λ number term.
            let is = same_numbers history kept n fresh layer k term stands in
            (λ has. let new = (step.terms number term).0 has in (new.0, newer term new.1, new.2 ∙ sym is), λ new. (step.terms number term).1 (new.0, older term new.1, new.2 ∙ is));
        predicates = λ number term.
            let is = same_numbers history kept n fresh layer k term stands in
            (λ has. let new = (step.predicates number term).0 has in (new.0, newer term new.1, new.2 ∙ sym is), λ new. (step.predicates number term).1 (new.0, older term new.1, new.2 ∙ is));
        additions = step.additions ∙ sym (same_id_triples (gained Grown from k) (gained history from k) same_gained);
        removals = step.removals ∙ sym (same_id_triples (lost Grown from k) (lost history from k) same_lost);
      }

    same_ancestor : (o : Option ℕ) → IfSome o (λ a. IsProperAncestor history a k) → IfSome o (λ a. IsProperAncestor Grown a k)
    same_ancestor None h = tt
    same_ancestor (Some a) h = (subst (λ chain. Contains chain a) (sym (same_chain_of history kept n fresh layer k stands)) h.0, h.1)

    parent_stands : (o : Option ℕ) → IfSome o (λ a. IsProperAncestor history a k) → ParentStands history o
    parent_stands None h = tt
    parent_stands (Some a) h = ancestor_stands history kept a k h.0 stands

  same_steps : (parts : List Facts) (at : Option ℕ) → ParentStands history at → AreStepsTo history at parts → AreStepsTo Grown at parts
  same_steps [] None stands steps = tt
  same_steps [] (Some k) stands steps = absurd steps
  same_steps (part ∷ parts) None stands steps = absurd steps
  same_steps (part ∷ parts) (Some k) stands steps =
      let below = parent_stands k stands part.parent steps.0.from in (
        record {
          from = same_ancestor k stands part.parent steps.0.from;
          step = same_step k stands part.parent below part steps.0.step;
          totals = steps.0.totals ∙ sym (same_totals history kept n fresh layer (Some k) stands);
        },
        same_steps parts part.parent below steps.1,
      )

  -- ---- the facts of the files

  module _ (k : ℕ) (stands : IsTrue (contains_key history k)) where
    same_new : (kind : TermKind) (from : Option ℕ) → ParentStands history from → new_terms kind Grown from k ≡ new_terms kind history from k
    same_new kind from below = λ i. filter (is_of_kind kind) (members (difference (same_terms history kept n fresh layer kind (Some k) stands i) (same_terms history kept n fresh layer kind from below i)))

    abbrev layer_facts_from : History → Option ℕ → Facts
    layer_facts_from h from = record {
      kind = Layer;
      number = k;
      parent = from;
      terms_before = (totals_at h from).0;
      predicates_before = (totals_at h from).1;
      nodes = new_terms Node h from k;
      predicates = new_terms Predicate h from k;
      values = new_terms Value h from k;
      additions = id_triples h k (additions_at h k);
      removals = id_triples h k (removals_at h k);
      term_map = [];
      predicate_map = [];
    }

    same_from : (from : Option ℕ) → ParentStands history from → layer_facts_from Grown from ≡ layer_facts_from history from
    same_from from below =
        let additions : additions_at Grown k ≡ additions_at history k = ap (λ o. set_or_none (option_map (λ (layer : LayerRecord). layer.additions) o)) (get-old history kept n fresh layer k stands) in
        let removals : removals_at Grown k ≡ removals_at history k = ap (λ o. set_or_none (option_map (λ (layer : LayerRecord). layer.removals) o)) (get-old history kept n fresh layer k stands) in
        λ i. record {
          kind = Layer;
          number = k;
          parent = from;
          terms_before = (same_totals history kept n fresh layer from below i).0;
          predicates_before = (same_totals history kept n fresh layer from below i).1;
          nodes = same_new Node from below i;
          predicates = same_new Predicate from below i;
          values = same_new Value from below i;
          additions = same_id_triples k stands (additions_at Grown k) (additions_at history k) additions i;
          removals = same_id_triples k stands (removals_at Grown k) (removals_at history k) removals i;
          term_map = [];
          predicate_map = [];
        }

    pub same_layer_facts : layer_facts Grown k ≡ layer_facts history k
    unfolding layer_facts
    same_layer_facts =
        ap (λ o. layer_facts_from Grown (option_and_then (λ (layer : LayerRecord). layer.parent) o)) (get-old history kept n fresh layer k stands)
        ∙ same_from (parent_at history k) (parent_of_standing history kept k stands)

    pub same_rollup_facts : (from : Option ℕ) → ParentStands history from → rollup_facts Grown from k ≡ rollup_facts history from k
    unfolding rollup_facts
    same_rollup_facts from below =
        let totals = same_totals history kept n fresh layer from below in
        let numbers : number_of Grown k ≡ number_of history k = λ i. λ term. same_numbers history kept n fresh layer k term stands i in
        λ i. record {
          kind = Rollup;
          number = k;
          parent = from;
          terms_before = (totals i).0;
          predicates_before = (totals i).1;
          nodes = same_new Node from below i;
          predicates = same_new Predicate from below i;
          values = same_new Value from below i;
          additions = same_id_triples k stands (gained Grown from k) (gained history from k) (same_gained k stands from below) i;
          removals = same_id_triples k stands (lost Grown from k) (lost history from k) (same_lost k stands from below) i;
          term_map = map (λ term. numbers i term - (totals i).0 - 1) (same_new Node from below i ++ same_new Value from below i);
          predicate_map = map (λ term. numbers i term - (totals i).1 - 1) (same_new Predicate from below i);
        }

  pub stands_grown : (parts : List Facts) (k : ℕ) → IsLayerKept Grown n layer → StandsFor parts history k → StandsFor parts Grown k
  stands_grown parts k new stands = record {
    kept = IsWellKept-grown history kept n fresh layer new;
    there = stands_still history kept n fresh layer k stands.there;
    steps = same_steps parts (Some k) stands.there stands.steps;
  }
