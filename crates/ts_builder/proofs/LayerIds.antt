-- The numbers that a layer gives to the terms of its net change are those of its history.
use Rattle.std.proofs.Common.{◌≡◌, ℕ, ◌⊎◌, inl, inr, Bool, true, false, not, List, [], ◌∷◌, length, map, filter, All, Option, None, Some, refl, sym, ap, ◌∙◌, subst}
use Rattle.std.specs.FinMap.{empty}
use Rattle.std.specs.Ordering.{eq_by_cmp}
use Rattle.std.specs.List.{AllZip, list_any}
use Rattle.std.specs.List.Sorted.{IsStrictlySortedBy}
use Rattle.std.specs.Option.{option_map}
use Rattle.std.proofs.lemmas.Bool.{or_left}
use Rattle.std.proofs.lemmas.List.Elements.{All-contains, All-head, All-tail}
use Rattle.std.proofs.lemmas.List.Sorted.{list_any-IsPermutation}
use Rattle.ts_model.specs.declared.term.TermKind.{TermKind}
use Rattle.ts_model.specs.declared.term.TermKind.TheVariants.{Node, Predicate, Value}
use Rattle.ts_model.specs.TextTerm.{TextTerm}
use Rattle.ts_model.specs.TextTriple.{TextTriple, IsTriple}
use Rattle.ts_model.specs.Birth.{is_term}
use Rattle.ts_model.specs.Order.{term_cmp, term_cmp_total, term_cmp-IsAntisymmetric, triple_cmp, triple_cmp_total, triple_cmp-IsAntisymmetric}
use Rattle.ts_model.specs.Sets.{contains, from_list, members, size}
use Rattle.ts_model.specs.History.{History, IsWellKept, LayerRecord, additions_at, removals_at, set_or_none}
use Rattle.ts_model.specs.Listing.{in_birth_order}
use Rattle.ts_model.proofs.HistoryLaws.{chain_of-parent}
use Rattle.ts_model.proofs.ListLaws.{list_any-map}
use Rattle.ts_model.proofs.SetLaws.{contains-from_list, contains-members, members_are}
use Rattle.ts_model.proofs.SetAlgebra.{members-from_rising}
use Rattle.ts_plane.specs.declared.triple.IdTriple.{IdTriple}
use Rattle.ts_plane.specs.Triple.{triple_cmp as id_cmp}
use Rattle.ts_part.specs.Facts.{Facts}
use Rattle.ts_part.specs.Numbers.{IsTermAt, id_triple, id_triples, number_of, numbered_with, totals_at}
use Rattle.ts_part.specs.Step.{is_of_kind, layer_facts, new_terms}
use Rattle.ts_part.proofs.Births.{IsOver, over_ancestor, parent_is_ancestor}
use Rattle.ts_part.proofs.IdOrder.{id_triples-plane, only_order}
use Rattle.ts_part.proofs.Numbered.{number-stays, still_there}
use Rattle.ts_part.proofs.TripleTerms.{IsTripleAt, added_at, is_added_along}
use Rattle.ts_chain.specs.Chain.{predicates_in, terms_in}
use Rattle.ts_chain.specs.Holds.{Holds}
use Rattle.ts_chain.specs.Ids.{HasId, HasNew, HasOfKind, Lacks}
use Rattle.ts_chain.specs.Stands.{StandsForOption}
use Rattle.ts_chain.proofs.GrownHistories.{ParentStands, get-new, same_numbers, same_totals, stands_still}
use Rattle.ts_chain.proofs.IdOrder.{triple_cmp_total as id_cmp_total, triple_cmp-IsAntisymmetric as id_cmp-IsAntisymmetric}
use Rattle.ts_chain.proofs.IdsAtLayers.{id_at, new_in_step, step_has_new}
use Rattle.ts_chain.proofs.StepsLink.{steps_total}
use Rattle.ts_builder.specs.Layer.{IsNewLayer, layer_of_net, with_layer}
use Rattle.ts_builder.specs.Net.{NetTriples}
use Rattle.ts_builder.specs.NewTerms.{new_predicates_of, new_terms_of, numbered_by}
use Rattle.ts_builder.specs.Numbering.{AreIdsBy, AreNumbersBy, IsNumberBy, new_facts}
use Rattle.ts_builder.proofs.GrownLayer.{each_of, kept, kept_grown, parent_is, step_new, stood}
use Rattle.ts_builder.proofs.LayerTerms.{below, new_at_layer, nodes_are, relations_are, values_are}
use Rattle.ts_builder.proofs.NetLemmas.{among_from_contains, each_contained}
use Rattle.ts_builder.proofs.TermLemmas.{new_entry, new_where_lacked, not_both}

-- ---- lists

zip_map : {X Y : Type 0} (R : X → Y → Type 0) (f : X → Y) (xs : List X) (ys : List Y) → AllZip R xs ys → All (λ x. (y : Y) → R x y → y ≡ f x) xs → ys ≡ map f xs
zip_map R f [] [] all each = refl
zip_map R f [] (y ∷ ys) all each = absurd all
zip_map R f (x ∷ xs) [] all each = absurd all
zip_map {X} {Y} R f (x ∷ xs) (y ∷ ys) all each = λ i.
    All-head (λ x. (y : Y) → R x y → y ≡ f x) x xs each y all.0 i ∷ zip_map R f xs ys all.1 (All-tail (λ x. (y : Y) → R x y → y ≡ f x) x xs each) i

false_where_not : (b : Bool) → not b ≡ true → b ≡ false
false_where_not true e = sym e
false_where_not false e = refl

no_members : size (empty {X = Unit {0}} {R = term_cmp}) ≡ 0
unfolding IsStrictlySortedBy
no_members = ap length (members-from_rising term_cmp term_cmp_total term_cmp-IsAntisymmetric [] tt)

-- what stands before a new layer
totals_before : (history : History) (from : Option ℕ) (parts : List Facts) → StandsForOption parts history from → (terms_in parts, predicates_in parts) ≡ totals_at history from
totals_before history None parts stands = ap (λ parts. (terms_in parts, predicates_in parts)) stands.1 ∙ (λ i. (sym no_members i, sym no_members i))
totals_before history (Some k) parts stands = steps_total history k parts stands

-- terms of the chain keep their numbers
module _ (history grown : History) (kept_grown : IsWellKept grown) (number : ℕ) (term : TextTerm) (id : ℕ) where
  known_at : (from : Option ℕ) (parts : List Facts) → StandsForOption parts history from → ((p : ℕ) → from ≡ Some p → IsOver grown (Some p) number × (number_of grown p term ≡ number_of history p term))
      → numbered_with term.kind grown from ≡ numbered_with term.kind history from → HasId parts term id → IsTermAt grown (Some number) term × (id ≡ number_of grown number term)
  known_at None parts stands over same has = absurd (subst (λ parts. HasId parts term id) stands.1 has)
  known_at (Some p) parts stands over same has =
      let at = id_at history p parts term id stands has in
      let goes = over p refl in
      let there : IsTermAt grown (Some p) term = ap (λ set. contains set term) same ∙ at.0 in
      (still_there grown kept_grown (Some p) number goes.0 term.kind term there, at.1 ∙ sym goes.1 ∙ sym (number-stays grown kept_grown p number goes.0 term there))

module _ (history : History) (from : Option ℕ) (parts : List Facts) (number : ℕ) (net : NetTriples) (new : IsNewLayer history from parts number net) where
  abbrev grown : History
  grown = with_layer history number from net

  abbrev layer : LayerRecord
  layer = layer_of_net from net

  abbrev Here : TextTriple → Type 0
  Here q = IsTripleAt grown (Some number) q

  -- the new terms behind those of the chain
  abbrev pub made : Facts
  made =
      new_facts (terms_in parts) (predicates_in parts) (filter (is_of_kind Node) (members (new_terms_of parts net.additions))) (members (new_predicates_of parts net.additions))
      (filter (is_of_kind Value) (members (new_terms_of parts net.additions)))

  abbrev facts : Facts
  facts = layer_facts grown number

  pub before_is : (terms_in parts, predicates_in parts) ≡ totals_at grown from
  before_is =
      totals_before history from parts new.stands
      ∙ sym (same_totals history (kept history from parts number net new) number new.fresh layer from (stood history from parts number net new))

  -- they are those of the layer's file
  pub made_is : made ≡ new_facts (totals_at grown from).0 (totals_at grown from).1 (new_terms Node grown from number) (new_terms Predicate grown from number) (new_terms Value grown from number)
  made_is = λ i. new_facts (before_is i).0 (before_is i).1 (nodes_are history from parts number net new i) (relations_are history from parts number net new i) (values_are history from parts number net new i)

  from_made : (term : TextTerm) (id : ℕ) → HasNew made term id → HasNew facts term id
  unfolding layer_facts
  from_made term id has =
      by term.kind (subst (λ o. HasNew (new_facts (totals_at grown o).0 (totals_at grown o).1 (new_terms Node grown o number) (new_terms Predicate grown o number) (new_terms Value grown o number)) term id)
      (sym (parent_is history from parts number net new)) (subst (λ made. HasNew made term id) made_is has))
    where
      by : (kind : TermKind)
          → HasOfKind kind (new_facts facts.terms_before facts.predicates_before facts.nodes facts.predicates facts.values) id term → HasOfKind kind facts id term
      by Node has = record { entry = has.entry; stands = has.stands; numbered = has.numbered }
      by Predicate has = record { entry = has.entry; stands = has.stands; numbered = has.numbered }
      by Value has = record { entry = has.entry; stands = has.stands; numbered = has.numbered }

  entries_are : (kind : TermKind) → numbered_by kind facts ≡ numbered_by kind made
  unfolding layer_facts
  entries_are kind =
      by kind ∙ ap (λ o. numbered_by kind (new_facts (totals_at grown o).0 (totals_at grown o).1 (new_terms Node grown o number) (new_terms Predicate grown o number) (new_terms Value grown o number)))
      (parent_is history from parts number net new) ∙ sym (ap (numbered_by kind) made_is)
    where
      by : (kind : TermKind) → numbered_by kind facts ≡ numbered_by kind (new_facts facts.terms_before facts.predicates_before facts.nodes facts.predicates facts.values)
      by Node = refl
      by Predicate = refl
      by Value = refl

  over_parent : (p : ℕ) → from ≡ Some p → IsOver grown (Some p) number
  over_parent p e =
      let stands = stands_still history (kept history from parts number net new) number new.fresh layer p (subst (ParentStands history) e (stood history from parts number net new)) in
      over_ancestor grown (kept_grown history from parts number net new) p number
      (parent_is_ancestor grown (kept_grown history from parts number net new) number p layer (get-new history (kept history from parts number net new) number new.fresh layer) e stands)

  known_here : (term : TextTerm) (id : ℕ) → HasId parts term id → IsTermAt grown (Some number) term × (id ≡ number_of grown number term)
  known_here term id has =
      known_at history grown (kept_grown history from parts number net new) number term id from parts new.stands
      (λ p e. (over_parent p e, same_numbers history (kept history from parts number net new) number new.fresh layer p term (subst (ParentStands history) e (stood history from parts number net new))))
      (below history from parts number net new term.kind) has

  -- a term of the layer that the chain lacks is among the new ones
  new_among : (term : TextTerm) → IsTermAt grown (Some number) term → Lacks parts term → list_any (is_term term) (numbered_by term.kind made) ≡ true
  new_among term there lacks =
      let before : contains (numbered_with term.kind grown from) term ≡ false =
      false_where_not (contains (numbered_with term.kind grown from) term)
      (ap (λ set. not (contains set term)) (below history from parts number net new term.kind) ∙ sym (new_at_layer history from parts term new.stands) ∙ new_where_lacked parts term lacks) in
      let has = step_has_new grown from number facts term (step_new history from parts number net new) (record { there = there; before = before }) in
      ap (list_any (is_term term)) (sym (entries_are term.kind)) ∙ new_entry facts term (number_of grown number term) has

  number_is : (term : TextTerm) (id : ℕ) → IsNumberBy parts made term id → (Lacks parts term → list_any (is_term term) (numbered_by term.kind made) ≡ true) → id ≡ number_of grown number term
  number_is term id (inl has) among = (known_here term id has).1
  number_is term id (inr lacks) among =
      (new_in_step grown from number facts term id (step_new history from parts number net new) (from_made term id (lacks.1 (among lacks.0)))).1

  triple_is : (q : TextTriple) (t : IdTriple) → AreNumbersBy parts made q t → ((term : TextTerm) → (term ≡ q.subject) ⊎ ((term ≡ q.predicate) ⊎ (term ≡ q.object)) → Lacks parts term → list_any (is_term term) (numbered_by term.kind made) ≡ true)
      → t ≡ id_triple grown number q
  unfolding id_triple
  triple_is q t are among = λ i. record {
    s = number_is q.subject t.s are.subject (among q.subject (inl refl)) i;
    p = number_is q.predicate t.p are.predicate (among q.predicate (inr (inl refl))) i;
    o = number_is q.object t.o are.object (among q.object (inr (inr refl))) i;
  }

  -- ---- the triples that come, and those that go

  pub additions_new : additions_at grown number ≡ from_list net.additions
  additions_new = ap (λ o. set_or_none (option_map (λ (layer : LayerRecord). layer.additions) o)) (get-new history (kept history from parts number net new) number new.fresh layer)

  pub removals_new : removals_at grown number ≡ from_list net.removals
  removals_new = ap (λ o. set_or_none (option_map (λ (layer : LayerRecord). layer.removals) o)) (get-new history (kept history from parts number net new) number new.fresh layer)

  added_here : (q : TextTriple) → contains (from_list {R = triple_cmp} net.additions) q ≡ true → Here q
  added_here q is =
      let own : list_any (eq_by_cmp triple_cmp q) (members (additions_at grown number)) ≡ true = sym (contains-members triple_cmp (additions_at grown number) q) ∙ ap (λ set. contains set q) additions_new ∙ is in
      let chain = chain_of-parent grown (kept_grown history from parts number net new) number layer (get-new history (kept history from parts number net new) number new.fresh layer) in
      added_at grown (kept_grown history from parts number net new) (Some number) q (ap (λ chain. is_added_along grown (kept_grown history from parts number net new) chain q) chain ∙ or_left _ _ own)

  removed_here : (q : TextTriple) → IsTriple q → Holds parts q → Here q
  removed_here q is holds = record {
    is = is;
    subject = (known_here q.subject holds.ids.s holds.has.subject).0;
    predicate = (known_here q.predicate holds.ids.p holds.has.predicate).0;
    object = (known_here q.object holds.ids.o holds.has.object).0;
  }

  -- the numbers of rising triples of the layer, rising
  ids_rise : (triples : List TextTriple) → IsStrictlySortedBy triple_cmp triples → ((q : TextTriple) → contains (from_list {R = triple_cmp} triples) q ≡ true → Here q)
      → members (from_list {R = id_cmp} (map (id_triple grown number) triples)) ≡ id_triples grown number (from_list triples)
  unfolding id_triples
  ids_rise triples rise here =
      let f = id_triple grown number in
      let order = in_birth_order grown number (from_list triples) in
      sym (members_are id_cmp id_cmp_total id_cmp-IsAntisymmetric (from_list (map f triples)) (map f order)
      (id_triples-plane grown (kept_grown history from parts number net new) number (from_list triples) here).rising (λ t.
      list_any-map (eq_by_cmp id_cmp t) f order
      ∙ sym (list_any-IsPermutation (λ q. eq_by_cmp id_cmp t (f q)) (members (from_list {R = triple_cmp} triples)) order (only_order grown (kept_grown history from parts number net new) number (from_list triples)))
      ∙ ap (list_any (λ q. eq_by_cmp id_cmp t (f q))) (members-from_rising triple_cmp triple_cmp_total triple_cmp-IsAntisymmetric triples rise)
      ∙ sym (list_any-map (eq_by_cmp id_cmp t) f triples)
      ∙ sym (contains-from_list id_cmp id_cmp_total (map f triples) t)))

  term_of : (q : TextTriple) → Here q → (term : TextTerm) → (term ≡ q.subject) ⊎ ((term ≡ q.predicate) ⊎ (term ≡ q.object)) → IsTermAt grown (Some number) term
  term_of q here term (inl is) = subst (IsTermAt grown (Some number)) (sym is) here.subject
  term_of q here term (inr (inl is)) = subst (IsTermAt grown (Some number)) (sym is) here.predicate
  term_of q here term (inr (inr is)) = subst (IsTermAt grown (Some number)) (sym is) here.object

  none_lacked : (q : TextTriple) → Holds parts q → (term : TextTerm) → (term ≡ q.subject) ⊎ ((term ≡ q.predicate) ⊎ (term ≡ q.object)) → Lacks parts term → ⊥
  none_lacked q holds term (inl is) lacks = not_both parts q.subject holds.ids.s holds.has.subject (subst (Lacks parts) is lacks)
  none_lacked q holds term (inr (inl is)) lacks = not_both parts q.predicate holds.ids.p holds.has.predicate (subst (Lacks parts) is lacks)
  none_lacked q holds term (inr (inr is)) lacks = not_both parts q.object holds.ids.o holds.has.object (subst (Lacks parts) is lacks)

  abbrev IsIdOf : TextTriple → Type 0
  IsIdOf q = (t : IdTriple) → AreNumbersBy parts made q t → t ≡ id_triple grown number q

  ids_by : (triples : List TextTriple) (ids : List IdTriple) → AreIdsBy parts made triples ids → All IsIdOf triples → IsStrictlySortedBy triple_cmp triples
      → ((q : TextTriple) → contains (from_list {R = triple_cmp} triples) q ≡ true → Here q) → ids ≡ id_triples grown number (from_list triples)
  ids_by triples ids are each rise here =
      are.rising ∙ ap (λ ts. members (from_list {R = id_cmp} ts)) (zip_map (AreNumbersBy parts made) (id_triple grown number) triples are.given are.each each) ∙ ids_rise triples rise here

  pub added_ids : (ids : List IdTriple) → AreIdsBy parts made net.additions ids → ids ≡ id_triples grown number (additions_at grown number)
  added_ids ids are =
      ids_by net.additions ids are (each_contained IsIdOf net.additions (λ q there t numbers.
      let here = added_here q (contains-from_list triple_cmp triple_cmp_total net.additions q ∙ among_from_contains net.additions q there) in
      triple_is q t numbers (λ term which lacks. new_among term (term_of q here term which) lacks))) new.change.rise.additions added_here
      ∙ ap (id_triples grown number) (sym additions_new)

  pub removed_ids : (ids : List IdTriple) → AreIdsBy parts made net.removals ids → ids ≡ id_triples grown number (removals_at grown number)
  removed_ids ids are =
      ids_by net.removals ids are (each_contained IsIdOf net.removals (λ q there t numbers.
      let holds = All-contains (Holds parts) net.removals q new.change.has there in
      triple_is q t numbers (λ term which lacks. absurd (none_lacked q holds term which lacks)))) new.change.rise.removals
      (λ q is. removed_here q (each_of IsTriple net.removals q new.removed is) (each_of (Holds parts) net.removals q new.change.has is))
      ∙ ap (id_triples grown number) (sym removals_new)
