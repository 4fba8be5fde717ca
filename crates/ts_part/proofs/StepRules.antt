-- The facts of a layer's file and those of a rollup keep all rules of a part.
use Rattle.std.proofs.Common.{◌≡◌, ◌≢◌, ℕ, ◌+◌, ◌<◌, ◌≤◌, inl, inr, true, ◌||◌, List, [], ◌∷◌, ◌++◌, length, Contains, Option, Some, None, IfSome, IsTrue, refl, sym, ap, ◌∙◌, subst, true≢false, arith, length-append}
use Rattle.std.specs.Option.{option_and_then}
use Rattle.std.specs.FinMap.{empty, contains_key}
use Rattle.std.specs.List.{list_any}
use Rattle.std.proofs.lemmas.Bool.{or_cases}
use Rattle.std.proofs.lemmas.List.{length-map}
use Rattle.ts_model.specs.declared.term.TermKind.{TermKind}
use Rattle.ts_model.specs.declared.term.TermKind.TheVariants.{Node, Predicate, Value}
use Rattle.ts_model.specs.Limits.{number_limit}
use Rattle.ts_model.specs.TextTerm.{TextTerm}
use Rattle.ts_model.specs.TextTriple.{TextTriple}
use Rattle.ts_model.specs.Order.{kind_place, triple_cmp, term_cmp}
use Rattle.ts_model.specs.Sets.{contains, size}
use Rattle.ts_model.specs.History.{LayerRecord, History, IsAncestor, IsProperAncestor, IsWellKept, additions_at, chain_of, content_at_parent, parent_at}
use Rattle.ts_model.specs.Birth.{has_term, mentions}
use Rattle.ts_model.proofs.HistoryLaws.{Found, chain_from, found}
use Rattle.ts_model.proofs.SetLaws.{contains-members}
use Rattle.ts_model.proofs.SetAlgebra.{contains-empty}
use Rattle.ts_part.specs.declared.header.PartKind.TheVariants.{Layer, Rollup}
use Rattle.ts_plane.specs.declared.triple.IdTriple.{IdTriple}
use Rattle.ts_part.specs.Facts.{Facts, all_predicates, all_terms}
use Rattle.ts_part.specs.Header.{KeepsHeaderRules, header_of}
use Rattle.ts_part.specs.Numbers.{id_triple, number_of, numbered_with, totals_at}
use Rattle.ts_part.specs.Rules.{AreApart, AreUsed, HasNumber, KeepsFactRules, KeepsListRules, KeepsRules, MapsRule, PredicatesUsed, SubjectsAreNodes, TermsRule, TermsUsed, TriplesRule}
use Rattle.ts_part.specs.Step.{IsNewTerm, StandsForStep, gained, layer_facts, lost, new_terms, number_after, rollup_facts}
use Rattle.ts_part.proofs.Births.{IsOver, ancestor_bound, over_parent_of}
use Rattle.ts_part.proofs.Mentioned.{is_numbered, node_or_value_of, numbered_as_node, predicate_of}
use Rattle.ts_part.proofs.OrderStays.{nothing}
use Rattle.ts_part.proofs.NewNumbers.{beyond_is_new, beyond_taken, over_from}
use Rattle.ts_part.proofs.EntryCounts.{entry_total, predicate_total}
use Rattle.ts_part.proofs.ContentStep.{additions_gained}
use Rattle.ts_part.proofs.LayerStep.{layer_stands}
use Rattle.ts_part.proofs.RollupStep.{rollup_stands}
use Rattle.ts_part.proofs.IdOrder.{from_set, to_set}
use Rattle.ts_part.proofs.TermRules.{terms_keep}
use Rattle.ts_part.proofs.TripleRules.{gained_here, gained_keep, keep_apart, lost_before, lost_keep}
use Rattle.ts_part.proofs.MapRules.{predicate_map_permutes, term_map_permutes}
use Rattle.ts_part.proofs.TripleTerms.{IsTripleAt, mentioned_in, term_stands}

-- ---- of any facts that stand for a step

module _ (history : History) (kept : IsWellKept history) (from : Option ℕ) (k : ℕ) (over : IsOver history from k) (facts : Facts) (stand : StandsForStep history from k facts) where
  come_from : (triple : IdTriple) → Contains facts.additions triple → (q : TextTriple) × (contains (gained history from k) q ≡ true) × (id_triple history k q ≡ triple)
  come_from triple there = from_set history kept k (gained history from k) triple (subst (λ l. Contains l triple) stand.additions there)

  subjects_are_nodes : SubjectsAreNodes facts
  unfolding id_triple
  subjects_are_nodes triple there beyond =
      let come = come_from triple there in
      let here = gained_here history kept from k over come.0 come.1 in
      let number : number_of history k come.0.subject ≡ triple.s = ap (λ (t : IdTriple). t.s) come.2 in
      let before : facts.terms_before ≡ (totals_at history from).0 = ap (λ (t : ℕ × ℕ). t.0) stand.before in
      let total : size (numbered_with come.0.subject.kind history from) ≡ (totals_at history from).0 = ap size (numbered_as_node history from come.0.subject.kind (inl here.is.0.0)) in
      let new : IsNewTerm history from k come.0.subject = beyond_is_new history kept from k over come.0.subject here.subject (omega arith) in
      (come.0.subject, (stand.terms triple.s come.0.subject).1 (inl here.is.0.0, new, sym number), here.is.0.0)

  apart : AreApart facts.additions facts.removals
  apart triple comes goes =
      keep_apart history kept from k over triple (subst (λ l. Contains l triple) stand.additions comes) (subst (λ l. Contains l triple) stand.removals goes)

  pub fact_rules : (facts.kind ≡ Layer → AreUsed facts) → KeepsFactRules facts
  fact_rules used = record { subjects = subjects_are_nodes; used = used; apart = apart }

-- ---- the header

-- the layer stands over what it goes up from
abbrev IsBelow : ℕ → Option ℕ → Type 0
IsBelow k from = IfSome from (λ p. (1 ≤ p) × (p < k))

module _ (history : History) (kept : IsWellKept history) where
  pub parent_below : (k : ℕ) → IsTrue (contains_key history k) → (1 ≤ k) × IsBelow k (parent_at history k)
  parent_below k stands =
      let it : Found history k = found history k stands in (
        (kept k it.0 it.1).number.0,
        subst (IsBelow k) (sym (ap (option_and_then (λ (layer : LayerRecord). layer.parent)) it.1)) (of_parent it.0.parent (kept k it.0 it.1).parent),
      )
    where
      of_parent : (parent : Option ℕ) → IfSome parent (λ p. (p < k) × IsTrue (contains_key history p)) → IsBelow k parent
      of_parent None h = tt
      of_parent (Some p) h = let there : Found history p = found history p h.1 in ((kept p there.0 there.1).number.0, h.0)

  pub ancestor_below : (k : ℕ) (from : Option ℕ) → IfSome from (λ a. IsProperAncestor history a k) → IsBelow k from
  ancestor_below k None h = tt
  ancestor_below k (Some a) h =
      let bound = ancestor_bound history kept a k h.0 in
      let other = h.1 in
      (bound.0, omega arith)

  pub under : (k : ℕ) (from : Option ℕ) → IfSome from (λ a. IsProperAncestor history a k) → IfSome from (λ a. IsAncestor history a k)
  under k None h = tt
  under k (Some a) h = h.0

-- ---- the lists

no_elements : {X : Type 0} (xs : List X) → ((x : X) → Contains xs x → ⊥) → length xs ≡ 0
no_elements [] none = refl
no_elements (x ∷ xs) none = absurd (none x (0, omega arith, refl))

no_members : size (empty {X = Unit {0}} {R = term_cmp}) ≡ 0
no_members = ap length nothing

module _ (history : History) (kept : IsWellKept history) (from : Option ℕ) (k : ℕ) (over : IsOver history from k) (facts : Facts) (stand : StandsForStep history from k facts)
    (nodes : facts.nodes ≡ new_terms Node history from k) (predicates : facts.predicates ≡ new_terms Predicate history from k) (values : facts.values ≡ new_terms Value history from k) where
  before_terms : facts.terms_before ≡ (totals_at history from).0
  before_terms = ap (λ (t : ℕ × ℕ). t.0) stand.before

  before_predicates : facts.predicates_before ≡ (totals_at history from).1
  before_predicates = ap (λ (t : ℕ × ℕ). t.1) stand.before

  pub terms_total : all_terms facts ≡ (totals_at history (Some k)).0
  terms_total = (λ i. before_terms i + length (nodes i) + length (values i)) ∙ entry_total history kept from k over

  pub predicates_total : all_predicates facts ≡ (totals_at history (Some k)).1
  predicates_total = (λ i. before_predicates i + length (predicates i)) ∙ predicate_total history kept from k over

  none_goes : from ≡ None → length facts.removals ≡ 0
  none_goes none =
      no_elements facts.removals (λ triple goes.
      let lost_there = from_set history kept k (lost history from k) triple (subst (λ l. Contains l triple) stand.removals goes) in
      true≢false (sym (lost_before history kept from k over lost_there.0 lost_there.1) ∙ ap (λ o. contains (content_at_parent history o) lost_there.0) none ∙ contains-empty triple_cmp lost_there.0))

  header_rules : 1 ≤ k → IsBelow k from → (totals_at history (Some k)).0 < number_limit → (totals_at history (Some k)).1 < number_limit → KeepsHeaderRules (header_of facts 0)
  header_rules positive below fits fits_too =
      record {
        number = subst (λ n. 1 ≤ n) (sym stand.number) positive;
        placed = record {
          parent = subst (λ (t : Option ℕ × ℕ). IfSome t.0 (λ p. (1 ≤ p) × (p < t.1))) (λ i. (sym stand.parent i, sym stand.number i)) below;
          base = λ none.
              let is : from ≡ None = sym stand.parent ∙ none in
              (before_terms ∙ ap (λ o. (totals_at history o).0) is ∙ no_members, before_predicates ∙ ap (λ o. (totals_at history o).1) is ∙ no_members, none_goes is);
        };
        terms = subst (λ n. n < number_limit) (sym terms_total) fits;
        predicates = subst (λ n. n < number_limit) (sym predicates_total) fits_too;
      }

  pub list_rules : 1 ≤ k → IsBelow k from → (totals_at history (Some k)).0 < number_limit → (totals_at history (Some k)).1 < number_limit → MapsRule facts.kind facts → KeepsListRules facts
  list_rules positive below fits fits_too maps = record {
    header = header_rules positive below fits fits_too;
    nodes = subst (TermsRule Node) (sym nodes) (terms_keep history kept from k over Node);
    predicates = subst (TermsRule Predicate) (sym predicates) (terms_keep history kept from k over Predicate);
    values = subst (TermsRule Value) (sym values) (terms_keep history kept from k over Value);
    additions = subst (λ (t : ℕ × ℕ × List IdTriple). TriplesRule t.0 t.1 t.2) (λ i. (sym terms_total i, sym predicates_total i, sym stand.additions i)) (gained_keep history kept from k over);
    removals = subst (λ (t : ℕ × ℕ × List IdTriple). TriplesRule t.0 t.1 t.2) (λ i. (sym before_terms i, sym before_predicates i, sym stand.removals i)) (lost_keep history kept from k over);
    maps = maps;
  }

  -- ---- the new terms of one layer over its parent stand in its additions

  module _ (step : chain_of history k ≡ k ∷ chain_from history from) (added : additions_at history k ≡ gained history from k) where
    mentioned_here : (term : TextTerm) → IsNewTerm history from k term → mentions history term k ≡ true
    mentioned_here term new =
        let there : (mentions history term k || list_any (mentions history term) (chain_from history from)) ≡ true =
        sym (ap (list_any (mentions history term)) step) ∙ sym (is_numbered history kept (Some k) term) ∙ new.there in
        elim (or_cases (mentions history term k) (list_any (mentions history term) (chain_from history from)) there) as (λ _. mentions history term k ≡ true) [
          | inl here ↦ here
          | inr before ↦ absurd (true≢false (sym before ∙ sym (is_numbered history kept from term) ∙ new.before))
        ]

    stands_in : (term : TextTerm) → IsNewTerm history from k term → (q : TextTriple) × IsTripleAt history (Some k) q × Contains facts.additions (id_triple history k q) × (has_term term q ≡ true)
    stands_in term new =
        let found = mentioned_in history kept term k (mentioned_here term new) in
        let is : contains (gained history from k) found.0 ≡ true = ap (λ set. contains set found.0) (sym added) ∙ contains-members triple_cmp (additions_at history k) found.0 ∙ found.1 in (
          found.0,
          gained_here history kept from k over found.0 is,
          subst (λ l. Contains l (id_triple history k found.0)) (sym stand.additions) (to_set history kept k (gained history from k) found.0 is),
          found.2,
        )

    kinds_differ : (term : TextTerm) (one other : TermKind) → term.kind ≡ one → term.kind ≡ other → kind_place one ≢ kind_place other → ⊥
    kinds_differ term one other is is_too differ = differ (ap kind_place (sym is ∙ is_too))

    ends_used : TermsUsed facts
    unfolding id_triple
    ends_used number beyond within =
        let before = before_terms in
        let total = terms_total in
        let taken = beyond_taken history kept from k over Node number (omega arith) (omega arith) in
        let found = stands_in taken.0 taken.2 in
        let kind = node_or_value_of history kept (Some k) taken.0 taken.1 in (
          id_triple history k found.0,
          found.2,
          elim (term_stands history kept found.0 taken.0 found.3) as (λ _. HasNumber number (id_triple history k found.0)) [
            | inl subject ↦ inl (ap (number_of history k) (sym subject) ∙ taken.3)
            | inr (inl predicate) ↦ absurd (elim kind as (λ _. ⊥) [
              | inl node ↦ kinds_differ taken.0 Node Predicate node (ap (λ (term : TextTerm). term.kind) predicate ∙ found.1.is.0.1) (λ e. omega arith)
              | inr value ↦ kinds_differ taken.0 Value Predicate value (ap (λ (term : TextTerm). term.kind) predicate ∙ found.1.is.0.1) (λ e. omega arith)
            ])
            | inr (inr object) ↦ inr (ap (number_of history k) (sym object) ∙ taken.3)
          ],
        )

    relations_used : PredicatesUsed facts
    unfolding id_triple
    relations_used number beyond within =
        let before = before_predicates in
        let total = predicates_total in
        let taken = beyond_taken history kept from k over Predicate number (omega arith) (omega arith) in
        let found = stands_in taken.0 taken.2 in
        let kind = predicate_of history kept (Some k) taken.0 taken.1 in (
          id_triple history k found.0,
          found.2,
          elim (term_stands history kept found.0 taken.0 found.3) as (λ _. number_of history k found.0.predicate ≡ number) [
            | inl subject ↦ absurd (kinds_differ taken.0 Predicate Node kind (ap (λ (term : TextTerm). term.kind) subject ∙ found.1.is.0.0) (λ e. omega arith))
            | inr (inl predicate) ↦ ap (number_of history k) (sym predicate) ∙ taken.3
            | inr (inr object) ↦ absurd (elim found.1.is.0.2 as (λ _. ⊥) [
              | inl node ↦ kinds_differ taken.0 Predicate Node kind (ap (λ (term : TextTerm). term.kind) object ∙ node) (λ e. omega arith)
              | inr value ↦ kinds_differ taken.0 Predicate Value kind (ap (λ (term : TextTerm). term.kind) object ∙ value) (λ e. omega arith)
            ])
          ],
        )

    pub all_used : AreUsed facts
    all_used = record { terms = ends_used; predicates = relations_used }

-- ---- the two kinds of part

module _ (history : History) (kept : IsWellKept history) (k : ℕ) (stands : IsTrue (contains_key history k)) (fits : (totals_at history (Some k)).0 < number_limit)
    (fits_too : (totals_at history (Some k)).1 < number_limit) where
  pub layer_rules : KeepsRules (layer_facts history k)
  unfolding layer_facts
  layer_rules =
      let from = parent_at history k in
      let over : IsOver history from k = (over_parent_of history kept k stands).0 in
      let front : over.front ≡ k ∷ [] = (over_parent_of history kept k stands).1 in
      let it : Found history k = found history k stands in
      let stand : StandsForStep history from k (layer_facts history k) = layer_stands history kept k stands in
      let below = parent_below history kept k stands in
      record {
        lists = list_rules history kept from k over (layer_facts history k) stand refl refl refl below.0 below.1 fits fits_too (refl, refl);
        together = fact_rules history kept from k over (layer_facts history k) stand (λ _.
            all_used history kept from k over (layer_facts history k) stand refl refl refl (over.chain ∙ ap (λ front. front ++ chain_from history from) front) (additions_gained history kept k it.0 it.1));
      }

  pub rollup_rules : (from : Option ℕ) → IfSome from (λ a. IsProperAncestor history a k) → KeepsRules (rollup_facts history from k)
  unfolding rollup_facts
  rollup_rules from proper =
      let over : IsOver history from k = over_from history kept from k (under history kept k from proper) in
      let stand : StandsForStep history from k (rollup_facts history from k) = rollup_stands history kept from k over in
      let positive : 1 ≤ k = (parent_below history kept k stands).0 in
      let entries_long = length-map (new_terms Node history from k ++ new_terms Value history from k) (number_after (totals_at history from).0 history k) in
      record {
        lists = list_rules history kept from k over (rollup_facts history from k) stand refl refl refl positive (ancestor_below history kept k from proper) fits fits_too (
          term_map_permutes history kept k from over,
          entries_long ∙ length-append (new_terms Node history from k) (new_terms Value history from k),
          predicate_map_permutes history kept k from over,
          length-map (new_terms Predicate history from k) (number_after (totals_at history from).1 history k),
        );
        together = fact_rules history kept from k over (rollup_facts history from k) stand (λ is. absurd (not_a_layer is));
      }
    where
      not_a_layer : Rollup ≡ Layer → ⊥
      not_a_layer e = cc
