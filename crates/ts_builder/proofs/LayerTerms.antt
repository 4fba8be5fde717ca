-- The new terms of a layer are those of its additions that the chain lacks.
use Rattle.std.proofs.Common.{◌≡◌, ℕ, Bool, true, false, not, nat_eq, ◌&&◌, ◌||◌, List, [], ◌∷◌, ◌++◌, map, filter, flat_map, cond, Option, None, Some, refl, sym, ap, ◌∙◌, true≢false}
use Rattle.std.specs.List.{AllByRecursion, list_any}
use Rattle.std.proofs.lemmas.Bool.{and_parts, or_left}
use Rattle.std.proofs.lemmas.Grind.{flat_map-append}
use Rattle.std.proofs.lemmas.List.{map-append}
use Rattle.std.proofs.lemmas.List.Folds.{list_any-append}
use Rattle.ts_model.specs.declared.term.TermKind.{TermKind}
use Rattle.ts_model.specs.declared.term.TermKind.TheVariants.{Node, Predicate, Value}
use Rattle.ts_model.specs.TextTerm.{TextTerm}
use Rattle.ts_model.specs.TextTriple.{TextTriple}
use Rattle.ts_model.specs.Birth.{is_term}
use Rattle.ts_model.specs.Order.{kind_place, term_cmp, term_cmp_total, term_cmp-IsAntisymmetric, triple_cmp, triple_cmp_total, triple_cmp-IsAntisymmetric}
use Rattle.ts_model.specs.Sets.{SetOf, contains, difference, members, retain}
use Rattle.ts_model.specs.Totals.{predicates_of, terms_of}
use Rattle.ts_model.specs.ChainTotals.{added_along}
use Rattle.ts_model.specs.History.{History}
use Rattle.ts_model.proofs.SetLaws.{contains-from_list, contains-members, contains-retain, same_set}
use Rattle.ts_model.proofs.SetAlgebra.{contains-difference, contains-empty, members-from_rising}
use Rattle.ts_part.specs.Facts.{Facts}
use Rattle.ts_part.specs.Numbers.{numbered_with}
use Rattle.ts_part.specs.Step.{is_of_kind, new_terms}
use Rattle.ts_part.proofs.Mentioned.{node_or_value_of, numbered_as_node, numbered_nowhere, predicate_of}
use Rattle.ts_part.proofs.Ranks.{each_among}
use Rattle.ts_chain.specs.Stands.{StandsForOption}
use Rattle.ts_chain.proofs.GrownHistories.{added_along-new, added_from, same_terms}
use Rattle.ts_chain.proofs.IdsAtLayers.{has_id_at, id_at}
use Rattle.ts_builder.specs.Layer.{IsNewLayer, layer_of_net, with_layer}
use Rattle.ts_builder.specs.Net.{NetTriples}
use Rattle.ts_builder.specs.NewTerms.{is_new_to, new_predicates_of, new_terms_of}
use Rattle.ts_builder.proofs.GrownLayer.{above, kept, kept_grown, stood}
use Rattle.ts_builder.proofs.TermLemmas.{has_some, id_where_some, known_is_not_new}

-- ---- what the parts lack, the layer lacks

pub new_at_layer : (history : History) (from : Option ℕ) (parts : List Facts) (q : TextTerm) → StandsForOption parts history from → is_new_to parts q ≡ not (contains (numbered_with q.kind history from) q)
new_at_layer history None parts q stands =
    ap (λ parts. is_new_to parts q) stands.1 ∙ ap not (sym (numbered_nowhere history stands.0 q.kind q))
new_at_layer history (Some k) parts q stands = by (contains (numbered_with q.kind history (Some k)) q) refl (has_some parts q) refl
  where
    by : (there : Bool) → contains (numbered_with q.kind history (Some k)) q ≡ there → (known : Bool) → has_some parts q ≡ known → not (has_some parts q) ≡ not (contains (numbered_with q.kind history (Some k)) q)
    by true there known is = known_is_not_new parts q _ (has_id_at history k parts q stands there) ∙ ap not (sym there)
    by false there true is = let found = id_where_some parts q is in absurd (true≢false (sym (id_at history k parts q found.0 stands found.1).0 ∙ there))
    by false there false is = ap not is ∙ ap not (sym there)

-- ---- sets

parted : (x n y : Bool) → (x ≡ true → n ≡ not y) → (x && n) ≡ ((x || y) && not y)
parted true n y is = is refl
parted false n true is = refl
parted false n false is = refl

contains_terms : (xs ys : List TextTriple) (q : TextTerm) → contains (terms_of (xs ++ ys)) q ≡ (contains (terms_of xs) q || contains (terms_of ys) q)
contains_terms xs ys q =
    contains-from_list term_cmp term_cmp_total (flat_map (λ (triple : TextTriple). triple.subject ∷ triple.object ∷ []) (xs ++ ys)) q
    ∙ ap (list_any (is_term q)) (flat_map-append (λ (triple : TextTriple). triple.subject ∷ triple.object ∷ []) xs ys)
    ∙ list_any-append (is_term q) (flat_map (λ (triple : TextTriple). triple.subject ∷ triple.object ∷ []) xs) (flat_map (λ (triple : TextTriple). triple.subject ∷ triple.object ∷ []) ys)
    ∙ (λ i. sym (contains-from_list term_cmp term_cmp_total (flat_map (λ (triple : TextTriple). triple.subject ∷ triple.object ∷ []) xs) q) i
    || sym (contains-from_list term_cmp term_cmp_total (flat_map (λ (triple : TextTriple). triple.subject ∷ triple.object ∷ []) ys) q) i)

contains_predicates : (xs ys : List TextTriple) (q : TextTerm) → contains (predicates_of (xs ++ ys)) q ≡ (contains (predicates_of xs) q || contains (predicates_of ys) q)
contains_predicates xs ys q =
    contains-from_list term_cmp term_cmp_total (map (λ (triple : TextTriple). triple.predicate) (xs ++ ys)) q
    ∙ ap (list_any (is_term q)) (map-append (λ (triple : TextTriple). triple.predicate) xs ys)
    ∙ list_any-append (is_term q) (map (λ (triple : TextTriple). triple.predicate) xs) (map (λ (triple : TextTriple). triple.predicate) ys)
    ∙ (λ i. sym (contains-from_list term_cmp term_cmp_total (map (λ (triple : TextTriple). triple.predicate) xs) q) i
    || sym (contains-from_list term_cmp term_cmp_total (map (λ (triple : TextTriple). triple.predicate) ys) q) i)

contains-kept : (set : SetOf term_cmp) (p : TextTerm → Bool) (q : TextTerm) → contains (retain set p) q ≡ (contains set q && p q)
contains-kept set p q = contains-retain term_cmp set p q (λ x e. ap p (sym (term_cmp-IsAntisymmetric q x e)))

all_pass : (p : TextTerm → Bool) (terms : List TextTerm) → AllByRecursion (λ term. p term ≡ true) terms → filter p terms ≡ terms
all_pass p [] all = refl
all_pass p (x ∷ xs) all = ap (λ b. cond b (x ∷ filter p xs) (filter p xs)) all.0 ∙ ap (λ xs. x ∷ xs) (all_pass p xs all.1)

module _ (history : History) (from : Option ℕ) (parts : List Facts) (number : ℕ) (net : NetTriples) (new : IsNewLayer history from parts number net) where
  abbrev grown : History
  grown = with_layer history number from net

  -- what the layer and those below it add
  added_are : added_along grown number ≡ net.additions ++ added_from history from
  added_are =
      added_along-new history (kept history from parts number net new) number new.fresh (layer_of_net from net) new.over.some (above history from parts number net new) (stood history from parts number net new)
      ∙ ap (λ triples. triples ++ added_from history from) (members-from_rising triple_cmp triple_cmp_total triple_cmp-IsAntisymmetric net.additions new.change.rise.additions)

  pub below : (kind : TermKind) → numbered_with kind grown from ≡ numbered_with kind history from
  below kind = same_terms history (kept history from parts number net new) number new.fresh (layer_of_net from net) kind from (stood history from parts number net new)

  terms_below : (o : Option ℕ) (q : TextTerm) → contains (terms_of (added_from history o)) q ≡ contains (numbered_with Node history o) q
  terms_below None q = contains-from_list term_cmp term_cmp_total [] q ∙ sym (contains-empty term_cmp q)
  terms_below (Some p) q = refl

  predicates_below : (o : Option ℕ) (q : TextTerm) → contains (predicates_of (added_from history o)) q ≡ contains (numbered_with Predicate history o) q
  predicates_below None q = contains-from_list term_cmp term_cmp_total [] q ∙ sym (contains-empty term_cmp q)
  predicates_below (Some p) q = refl

  terms_here : (q : TextTerm) → contains (numbered_with Node grown (Some number)) q ≡ (contains (terms_of net.additions) q || contains (numbered_with Node grown from) q)
  terms_here q =
      ap (λ triples. contains (terms_of triples) q) added_are ∙ contains_terms net.additions (added_from history from) q
      ∙ ap (λ b. contains (terms_of net.additions) q || b) (terms_below from q ∙ ap (λ set. contains set q) (sym (below Node)))

  predicates_here : (q : TextTerm) → contains (numbered_with Predicate grown (Some number)) q ≡ (contains (predicates_of net.additions) q || contains (numbered_with Predicate grown from) q)
  predicates_here q =
      ap (λ triples. contains (predicates_of triples) q) added_are ∙ contains_predicates net.additions (added_from history from) q
      ∙ ap (λ b. contains (predicates_of net.additions) q || b) (predicates_below from q ∙ ap (λ set. contains set q) (sym (below Predicate)))

  new_term : (q : TextTerm) → contains (terms_of net.additions) q ≡ true → is_new_to parts q ≡ not (contains (numbered_with Node grown from) q)
  new_term q is =
      let here : contains (numbered_with Node grown (Some number)) q ≡ true = terms_here q ∙ or_left (contains (terms_of net.additions) q) (contains (numbered_with Node grown from) q) is in
      let kind = node_or_value_of grown (kept_grown history from parts number net new) (Some number) q here in
      new_at_layer history from parts q new.stands ∙ ap (λ set. not (contains set q)) (numbered_as_node history from q.kind kind ∙ sym (below Node))

  new_predicate : (q : TextTerm) → contains (predicates_of net.additions) q ≡ true → is_new_to parts q ≡ not (contains (numbered_with Predicate grown from) q)
  new_predicate q is =
      let here : contains (numbered_with Predicate grown (Some number)) q ≡ true =
      predicates_here q ∙ or_left (contains (predicates_of net.additions) q) (contains (numbered_with Predicate grown from) q) is in
      let kind = predicate_of grown (kept_grown history from parts number net new) (Some number) q here in
      new_at_layer history from parts q new.stands ∙ ap (λ kind. not (contains (numbered_with kind history from) q)) kind ∙ ap (λ set. not (contains set q)) (sym (below Predicate))

  pub terms_are : new_terms_of parts net.additions ≡ difference (numbered_with Node grown (Some number)) (numbered_with Node grown from)
  terms_are =
      same_set term_cmp term_cmp_total term_cmp-IsAntisymmetric (new_terms_of parts net.additions) (difference (numbered_with Node grown (Some number)) (numbered_with Node grown from)) (λ q.
      contains-kept (terms_of net.additions) (is_new_to parts) q
      ∙ parted (contains (terms_of net.additions) q) (is_new_to parts q) (contains (numbered_with Node grown from) q) (new_term q)
      ∙ ap (λ b. b && not (contains (numbered_with Node grown from) q)) (sym (terms_here q))
      ∙ sym (contains-difference term_cmp term_cmp_total term_cmp-IsAntisymmetric (numbered_with Node grown (Some number)) (numbered_with Node grown from) q))

  pub predicates_are : new_predicates_of parts net.additions ≡ difference (numbered_with Predicate grown (Some number)) (numbered_with Predicate grown from)
  predicates_are =
      same_set term_cmp term_cmp_total term_cmp-IsAntisymmetric (new_predicates_of parts net.additions) (difference (numbered_with Predicate grown (Some number)) (numbered_with Predicate grown from)) (λ q.
      contains-kept (predicates_of net.additions) (is_new_to parts) q
      ∙ parted (contains (predicates_of net.additions) q) (is_new_to parts q) (contains (numbered_with Predicate grown from) q) (new_predicate q)
      ∙ ap (λ b. b && not (contains (numbered_with Predicate grown from) q)) (sym (predicates_here q))
      ∙ sym (contains-difference term_cmp term_cmp_total term_cmp-IsAntisymmetric (numbered_with Predicate grown (Some number)) (numbered_with Predicate grown from) q))

  pub nodes_are : filter (is_of_kind Node) (members (new_terms_of parts net.additions)) ≡ new_terms Node grown from number
  nodes_are = ap (λ set. filter (is_of_kind Node) (members set)) terms_are

  pub values_are : filter (is_of_kind Value) (members (new_terms_of parts net.additions)) ≡ new_terms Value grown from number
  values_are = ap (λ set. filter (is_of_kind Value) (members set)) terms_are

  pub relations_are : members (new_predicates_of parts net.additions) ≡ new_terms Predicate grown from number
  relations_are =
      let set = difference (numbered_with Predicate grown (Some number)) (numbered_with Predicate grown from) in
      ap members predicates_are
      ∙ sym (all_pass (is_of_kind Predicate) (members set) (each_among term_cmp term_cmp_total (λ term. is_of_kind Predicate term ≡ true) (members set) (λ q among.
      let both = and_parts (contains (numbered_with Predicate grown (Some number)) q) (not (contains (numbered_with Predicate grown from) q))
      (sym (contains-difference term_cmp term_cmp_total term_cmp-IsAntisymmetric (numbered_with Predicate grown (Some number)) (numbered_with Predicate grown from) q)
      ∙ contains-members term_cmp set q ∙ among) in
      ap (λ kind. nat_eq (kind_place kind) (kind_place Predicate)) (predicate_of grown (kept_grown history from parts number net new) (Some number) q both.0))))
