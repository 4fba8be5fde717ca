-- What two chains tell makes up the facts of a rollup.
use Rattle.std.proofs.Common.{◌≡◌, ℕ, zero, suc, ◌+◌, ◌⊎◌, inl, inr, true, not, List, [], ◌∷◌, ◌++◌, filter, map, length, Option, Some, None, IfSome, refl, sym, ap, ◌∙◌, true≢false, arith}
use Rattle.std.specs.Prelude.{slice_get, ◌≢◌}
use Rattle.std.specs.Option.{unwrap_or}
use Rattle.std.specs.Ordering.{eq_by_cmp}
use Rattle.std.specs.FinMap.{empty}
use Rattle.std.proofs.lemmas.Bool.{or_cases}
use Rattle.std.proofs.lemmas.List.Elements.{All-contains}
use Rattle.std.proofs.lemmas.List.Folds.{list_any-append}
use Rattle.std.proofs.lemmas.Map.Views.{Contains-from_any}
use Rattle.std.specs.Cmp.{Equal-is}
use Rattle.ts_model.specs.declared.term.TermKind.{TermKind}
use Rattle.ts_model.specs.declared.term.TermKind.TheVariants.{Node, Predicate, Value}
use Rattle.ts_model.specs.TextTerm.{TextTerm}
use Rattle.ts_model.specs.Order.{term_cmp, term_cmp_total, term_cmp-IsAntisymmetric, triple_cmp as text_cmp}
use Rattle.ts_model.specs.Sets.{size}
use Rattle.ts_model.proofs.SetAlgebra.{contains-empty}
use Rattle.ts_model.specs.History.{History, IsProperAncestor, IsWellKept, content_at, content_at_parent}
use Rattle.ts_part.specs.Facts.{Facts, entries_of}
use Rattle.ts_part.specs.Numbers.{id_triples, numbered_with, totals_at}
use Rattle.ts_part.specs.Rules.{TermsRule}
use Rattle.ts_part.specs.Step.{IsNewTerm, gained, lost, new_terms, number_after, rollup_facts}
use Rattle.ts_part.proofs.Births.{IsOver, over_ancestor}
use Rattle.ts_part.proofs.IdOrder.{id_triples-plane}
use Rattle.ts_part.proofs.NewNumbers.{over_from}
use Rattle.ts_part.proofs.NewTerms.{is_in}
use Rattle.ts_part.proofs.OrderStays.{nothing}
use Rattle.ts_part.proofs.Ranks.{place_of}
use Rattle.ts_part.proofs.StepRules.{under}
use Rattle.ts_part.proofs.TripleStays.{id_triples-stay}
use Rattle.ts_part.proofs.TripleTerms.{content_terms}
use Rattle.ts_chain.specs.Chain.{layer_of, predicates_in, terms_in}
use Rattle.ts_chain.specs.Content.{has, triples_of}
use Rattle.ts_chain.specs.Stands.{StandsFor, StandsForOption}
use Rattle.ts_chain.specs.Views.{IsPredicateOf, IsTermOf, NamesPredicate, NamesTerm}
use Rattle.ts_chain.proofs.NamesAtLayers.{names_predicate_at, names_term_at}
use Rattle.ts_chain.proofs.NewLists.{terms_are_new}
use Rattle.ts_chain.proofs.StepsContent.{here_before, here_now, stay, steps_content}
use Rattle.ts_chain.proofs.StepsLink.{steps_total}
use Rattle.ts_rollup.specs.Rolled.{AreSpelled, IsRolled}
use Rattle.ts_rollup.specs.Upto.{StandForBoth}
use Rattle.ts_rollup.proofs.NumberedTerms.{IsNamed, entry_new, new_entry, places_are}
use Rattle.ts_rollup.proofs.TriplesApart.{ids_apart, same_triples}
use Rattle.ts_rollup.proofs.WholeWalks.{none_rise, none_stands}

nowhere : (history : History) (kept : IsWellKept history) (k : ℕ) → triples_of [] ≡ id_triples history k empty
nowhere history kept k =
    same_triples (triples_of []) (id_triples history k empty) none_rise
    (id_triples-plane history kept k empty (λ q there. absurd (true≢false (sym there ∙ contains-empty text_cmp q)))).rising
    (λ t. none_stands t ∙ stay history kept None k tt t)

-- a chain that stands for a layer has it as its own
pub layer_is : (history : History) (k : ℕ) (parts : List Facts) → StandsFor parts history k → layer_of parts ≡ Some k
layer_is history k [] stands = absurd stands.steps
layer_is history k (part ∷ parts) stands = ap (λ n. Some n) stands.steps.0.step.number

pub layer_is_option : (history : History) (from : Option ℕ) (parts : List Facts) → StandsForOption parts history from → layer_of parts ≡ from
layer_is_option history None parts stands = ap layer_of stands.1
layer_is_option history (Some a) parts stands = layer_is history a parts stands

pub totals_option : (history : History) (from : Option ℕ) (parts : List Facts) → StandsForOption parts history from → (terms_in parts, predicates_in parts) ≡ totals_at history from
totals_option history None parts stands =
    ap (λ parts. (terms_in parts, predicates_in parts)) stands.1 ∙ (λ i. (length (sym nothing i), length (sym nothing i)))
totals_option history (Some a) parts stands = steps_total history a parts stands

in_front : {X : Type 0} (xs ys : List X) (i : ℕ) (x : X) → slice_get xs i ≡ Some x → slice_get (xs ++ ys) i ≡ Some x
in_front [] ys i x e = let none : ⊥ = cc in absurd none
in_front (y ∷ xs) ys zero x e = e
in_front (y ∷ xs) ys (suc i) x e = in_front xs ys i x e

behind : {X : Type 0} (xs ys : List X) (i : ℕ) (x : X) → slice_get ys i ≡ Some x → slice_get (xs ++ ys) (length xs + i) ≡ Some x
behind {X} [] ys i x e = let same : length {A = X} [] + i ≡ i = omega arith in ap (slice_get ys) same ∙ e
behind (y ∷ xs) ys i x e =
    let same : length (y ∷ xs) + i ≡ suc (length xs + i) = omega arith in ap (slice_get (y ∷ xs ++ ys)) same ∙ behind xs ys i x e

-- the kind of a term of a list of terms of one kind
kind_in : (kind : TermKind) (terms : List TextTerm) → TermsRule kind terms → (term : TextTerm) → is_in terms term ≡ true → term.kind ≡ kind
kind_in kind terms rule term there =
    All-contains (λ t. t.kind ≡ kind) terms term rule.kinds
    (Contains-from_any (λ x y e. term_cmp-IsAntisymmetric x y ((Equal-is (term_cmp x y)).0 e)) term terms there)

module _ (history : History) (from : Option ℕ) (k : ℕ) (lower upper : List Facts) (facts : Facts)
    (both : StandForBoth history from k lower upper) (rolled : IsRolled lower upper facts) where
  kept : IsWellKept history
  kept = both.layer.kept

  over : IsOver history from k
  over = over_from history kept from k (under history kept k from both.ancestor)

  spelled : AreSpelled facts
  spelled = rolled.spelled history k both.layer

  lower_totals : (terms_in lower, predicates_in lower) ≡ totals_at history from
  lower_totals = totals_option history from lower both.below

  upper_totals : (terms_in upper, predicates_in upper) ≡ totals_at history (Some k)
  upper_totals = steps_total history k upper both.layer

  -- ---- nodes and values

  together : (term : TextTerm) → term.kind ≢ Predicate → (layer : Option ℕ) → numbered_with term.kind history layer ≡ numbered_with Node history layer
  together term other layer = by term.kind refl
    where
      by : (kind : TermKind) → term.kind ≡ kind → numbered_with term.kind history layer ≡ numbered_with Node history layer
      by Node is = ap (λ kind. numbered_with kind history layer) is
      by Predicate is = absurd (other is)
      by Value is = ap (λ kind. numbered_with kind history layer) is

  term_named : (id : ℕ) (term : TextTerm) → NamesTerm upper id term → IsNamed history kept from k over Node (NamesTerm upper) id term
  term_named id term names =
      let is : IsTermOf history k id term = names_term_at history k upper id term both.layer names in
      record { there = is.there; number = is.number; together = together term is.kind }

  low_terms : terms_in lower ≡ size (numbered_with Node history from)
  low_terms = ap (λ totals. totals.0) lower_totals

  high_terms : terms_in upper ≡ size (numbered_with Node history (Some k))
  high_terms = ap (λ totals. totals.0) upper_totals

  entry_is_new : (i : ℕ) (term : TextTerm) → slice_get (entries_of facts) i ≡ Some term → IsNewTerm history from k term
  entry_is_new i term at =
      entry_new history kept from k over Node (NamesTerm upper) (terms_in lower) (terms_in upper) (entries_of facts) facts.term_map rolled.terms term_named low_terms high_terms i term at

  new_is_entry : (term : TextTerm) → term.kind ≢ Predicate → IsNewTerm history from k term → is_in (entries_of facts) term ≡ true
  new_is_entry term other new =
      new_entry history kept from k over Node (NamesTerm upper) (terms_in lower) (terms_in upper) (entries_of facts) facts.term_map rolled.terms term_named low_terms high_terms term (together term other) new

  entry_cases : (term : TextTerm) → is_in (entries_of facts) term ≡ true → (is_in facts.nodes term ≡ true) ⊎ (is_in facts.values term ≡ true)
  entry_cases term there = or_cases (is_in facts.nodes term) (is_in facts.values term) (sym (list_any-append (eq_by_cmp term_cmp term) facts.nodes facts.values) ∙ there)

  nodes_are : facts.nodes ≡ new_terms Node history from k
  nodes_are =
      terms_are_new history kept from k over Node facts.nodes spelled.nodes
      (λ term there.
      let place = place_of term_cmp term_cmp_total term_cmp-IsAntisymmetric facts.nodes term there in
      (kind_in Node facts.nodes spelled.nodes term there, entry_is_new place.0 term (in_front facts.nodes facts.values place.0 term place.1)))
      (λ term is new.
      elim (entry_cases term (new_is_entry term (λ other. let e : Node ≡ Predicate = sym is ∙ other in let none : ⊥ = cc in none) new)) as (λ _. is_in facts.nodes term ≡ true) [
        | inl here ↦ here
        | inr there ↦ absurd (let e : Node ≡ Value = sym is ∙ kind_in Value facts.values spelled.values term there in let none : ⊥ = cc in none)
      ])

  values_are : facts.values ≡ new_terms Value history from k
  values_are =
      terms_are_new history kept from k over Value facts.values spelled.values
      (λ term there.
      let place = place_of term_cmp term_cmp_total term_cmp-IsAntisymmetric facts.values term there in
      (kind_in Value facts.values spelled.values term there, entry_is_new (length facts.nodes + place.0) term (behind facts.nodes facts.values place.0 term place.1)))
      (λ term is new.
      elim (entry_cases term (new_is_entry term (λ other. let e : Value ≡ Predicate = sym is ∙ other in let none : ⊥ = cc in none) new)) as (λ _. is_in facts.values term ≡ true) [
        | inl there ↦ absurd (let e : Value ≡ Node = sym is ∙ kind_in Node facts.nodes spelled.nodes term there in let none : ⊥ = cc in none)
        | inr here ↦ here
      ])

  term_map_is : facts.term_map ≡ map (number_after (totals_at history from).0 history k) (new_terms Node history from k ++ new_terms Value history from k)
  term_map_is =
      places_are history kept from k over Node (NamesTerm upper) (terms_in lower) (terms_in upper) (entries_of facts) facts.term_map rolled.terms term_named low_terms high_terms
      ∙ (λ i. map (number_after (lower_totals i).0 history k) (nodes_are i ++ values_are i))

  -- ---- predicates

  predicate_named : (id : ℕ) (term : TextTerm) → NamesPredicate upper id term → IsNamed history kept from k over Predicate (NamesPredicate upper) id term
  predicate_named id term names =
      let is : IsPredicateOf history k id term = names_predicate_at history k upper id term both.layer names in
      record { there = is.there; number = is.number; together = λ layer. ap (λ kind. numbered_with kind history layer) is.kind }

  low_predicates : predicates_in lower ≡ size (numbered_with Predicate history from)
  low_predicates = ap (λ totals. totals.1) lower_totals

  high_predicates : predicates_in upper ≡ size (numbered_with Predicate history (Some k))
  high_predicates = ap (λ totals. totals.1) upper_totals

  predicates_are : facts.predicates ≡ new_terms Predicate history from k
  predicates_are =
      terms_are_new history kept from k over Predicate facts.predicates spelled.predicates
      (λ term there.
      let place = place_of term_cmp term_cmp_total term_cmp-IsAntisymmetric facts.predicates term there in (
        kind_in Predicate facts.predicates spelled.predicates term there,
        entry_new history kept from k over Predicate (NamesPredicate upper) (predicates_in lower) (predicates_in upper) facts.predicates facts.predicate_map rolled.predicates predicate_named low_predicates high_predicates place.0 term place.1,
      ))
      (λ term is new.
      new_entry history kept from k over Predicate (NamesPredicate upper) (predicates_in lower) (predicates_in upper) facts.predicates facts.predicate_map rolled.predicates predicate_named low_predicates high_predicates term
      (λ layer. ap (λ kind. numbered_with kind history layer) is) new)

  predicate_map_is : facts.predicate_map ≡ map (number_after (totals_at history from).1 history k) (new_terms Predicate history from k)
  predicate_map_is =
      places_are history kept from k over Predicate (NamesPredicate upper) (predicates_in lower) (predicates_in upper) facts.predicates facts.predicate_map rolled.predicates predicate_named low_predicates high_predicates
      ∙ (λ i. map (number_after (lower_totals i).1 history k) (predicates_are i))

  -- ---- triples

  upper_triples : triples_of upper ≡ id_triples history k (content_at history k)
  upper_triples = steps_content history k upper both.layer

  lower_triples : triples_of lower ≡ id_triples history k (content_at_parent history from)
  lower_triples = by from both.below both.ancestor
    where
      by : (at : Option ℕ) → StandsForOption lower history at → IfSome at (λ a. IsProperAncestor history a k) → triples_of lower ≡ id_triples history k (content_at_parent history at)
      by None below proper = ap triples_of below.1 ∙ nowhere history kept k
      by (Some a) below proper =
          steps_content history a lower below
          ∙ sym (id_triples-stay history kept a k (over_ancestor history kept a k proper.0) (content_at history a) (λ q there. content_terms history kept (Some a) q there))

  additions_are : facts.additions ≡ id_triples history k (gained history from k)
  additions_are =
      rolled.additions
      ∙ (λ i. filter (λ t. not (has (lower_triples i) t)) (upper_triples i))
      ∙ ids_apart history kept k (content_at history k) (content_at_parent history from) (here_now history kept k from both.ancestor) (here_before history kept k from both.ancestor)

  removals_are : facts.removals ≡ id_triples history k (lost history from k)
  removals_are =
      rolled.removals
      ∙ (λ i. filter (λ t. not (has (upper_triples i) t)) (lower_triples i))
      ∙ ids_apart history kept k (content_at_parent history from) (content_at history k) (here_before history kept k from both.ancestor) (here_now history kept k from both.ancestor)

  -- ---- all of it

  number_is : facts.number ≡ k
  number_is = ap (λ o. unwrap_or o 0) (sym rolled.number ∙ layer_is history k upper both.layer)

  parent_is : facts.parent ≡ from
  parent_is = rolled.parent ∙ layer_is_option history from lower both.below

  pub rolled_facts : facts ≡ rollup_facts history from k
  unfolding rollup_facts
  rolled_facts = λ i. record {
    kind = rolled.kind i;
    number = number_is i;
    parent = parent_is i;
    terms_before = (rolled.terms_before ∙ ap (λ totals. totals.0) lower_totals) i;
    predicates_before = (rolled.predicates_before ∙ ap (λ totals. totals.1) lower_totals) i;
    nodes = nodes_are i;
    predicates = predicates_are i;
    values = values_are i;
    additions = additions_are i;
    removals = removals_are i;
    term_map = term_map_is i;
    predicate_map = predicate_map_is i;
  }
