-- The header of a layer that is built over any chain, or over none.
use Rattle.std.proofs.Common.{◌≡◌, ℕ, ◌+◌, ◌<◌, ◌≤◌, ◌⊎◌, inl, inr, Bool, true, false, cond, List, [], ◌∷◌, filter, length, All, Bor, Option, None, Some, IfSome, refl, sym, ap, ◌∙◌, subst, arith}
use Rattle.std.specs.Option.{option_map}
use Rattle.std.specs.List.{AllZip}
use Rattle.std.proofs.lemmas.Bool.{cases_lt}
use Rattle.std.proofs.lemmas.List.Elements.{All-cons, All-head, All-nil}
use Rattle.std.proofs.lemmas.List.Kept.{IsStrictlySortedBy-filter}
use Rattle.ts_model.specs.declared.term.TermKind.{TermKind}
use Rattle.ts_model.specs.declared.term.TermKind.TheVariants.{Node, Predicate, Value}
use Rattle.ts_model.specs.Limits.{number_limit}
use Rattle.ts_model.specs.TextTerm.{TextTerm}
use Rattle.ts_model.specs.TextTriple.{TextTriple}
use Rattle.ts_model.specs.Order.{term_cmp}
use Rattle.ts_model.specs.Sets.{from_list, members, size}
use Rattle.ts_model.proofs.SetLaws.{IsStrictlySortedBy-members}
use Rattle.ts_plane.specs.declared.triple.IdTriple.{IdTriple}
use Rattle.ts_plane.specs.Triple.{triple_cmp as id_cmp}
use Rattle.ts_part.specs.Facts.{Facts, all_predicates, all_terms}
use Rattle.ts_part.specs.Header.{KeepsHeaderRules, header_of}
use Rattle.ts_part.specs.Rules.{KeepsRules}
use Rattle.ts_part.specs.Step.{is_of_kind}
use Rattle.ts_chain.specs.declared.chain.Chain.{Chain}
use Rattle.ts_chain.specs.Chain.{IsChain, layer_of, parts_or_none, predicates_in, terms_in}
use Rattle.ts_chain.specs.Holds.{Holds}
use Rattle.ts_builder.specs.Change.{IsChangeOver, IsNumberOver}
use Rattle.ts_builder.specs.Layer.{AreFactsOf}
use Rattle.ts_builder.specs.Net.{NetTriples}
use Rattle.ts_builder.specs.NewTerms.{new_predicates_of, new_terms_of}
use Rattle.ts_builder.specs.Numbering.{AreIdsBy, AreNumbersBy, IsBelow, IsNumbering, made_of}
use Rattle.ts_builder.proofs.GrownLayer.{none_of_none}
use Rattle.ts_builder.proofs.IdLemmas.{none_rise}

-- ---- a chain, or none

abbrev pub IsChainOrNone : List Facts → Type 0
IsChainOrNone parts = (parts ≡ []) ⊎ IsChain parts

pub chain_or_none : (parent : Option (Bor Chain)) → IfSome parent (λ chain. IsChain chain.now) → IsChainOrNone (parts_or_none (option_map (λ chain. chain.now) parent))
chain_or_none None is = inl refl
chain_or_none (Some chain) is = inr is

pub chain_below : (parts : List Facts) → IsChainOrNone parts → IsBelow parts
chain_below parts (inl none) = subst IsBelow (sym none) (record { terms = omega arith; predicates = omega arith; layer = tt })
chain_below [] (inr chain) = absurd chain.linked
chain_below (part ∷ parts) (inr chain) =
    let header = (All-head KeepsRules part parts chain.rules).lists.header in
    record { terms = header.terms; predicates = header.predicates; layer = header.number }

no_layer : (parts : List Facts) → layer_of parts ≡ None → parts ≡ []
no_layer [] e = refl
no_layer (part ∷ parts) e = let none : ⊥ = cc in absurd none

-- ---- the new terms by kind

place_kind : (kind other : TermKind) → is_of_kind kind (record { kind = other; spelling = [] }) ≡ true → other ≡ kind
place_kind Node Node e = refl
place_kind Node Predicate e = let none : ⊥ = cc in absurd none
place_kind Node Value e = let none : ⊥ = cc in absurd none
place_kind Predicate Node e = let none : ⊥ = cc in absurd none
place_kind Predicate Predicate e = refl
place_kind Predicate Value e = let none : ⊥ = cc in absurd none
place_kind Value Node e = let none : ⊥ = cc in absurd none
place_kind Value Predicate e = let none : ⊥ = cc in absurd none
place_kind Value Value e = refl

kinds_left : (kind : TermKind) (terms : List TextTerm) → All (λ term. term.kind ≡ kind) (filter (is_of_kind kind) terms)
kinds_left kind [] = All-nil (λ (term : TextTerm). term.kind ≡ kind)
kinds_left kind (x ∷ xs) = by (kinds_left kind xs) (is_of_kind kind x) refl
  where
    by : All (λ term. term.kind ≡ kind) (filter (is_of_kind kind) xs) → (own : Bool) → is_of_kind kind x ≡ own → All (λ term. term.kind ≡ kind) (cond own (x ∷ filter (is_of_kind kind) xs) (filter (is_of_kind kind) xs))
    by rest true is = All-cons (λ (term : TextTerm). term.kind ≡ kind) x (filter (is_of_kind kind) xs) (place_kind kind x.kind is) rest
    by rest false is = rest

no_more : (terms : List TextTerm) → length (filter (is_of_kind Node) terms) + length (filter (is_of_kind Value) terms) ≤ length terms
no_more [] = omega arith
no_more (x ∷ xs) = by x.kind (no_more xs)
  where
    by : (kind : TermKind) → length (filter (is_of_kind Node) xs) + length (filter (is_of_kind Value) xs) ≤ length xs
        → length (cond (is_of_kind Node (record { kind = kind; spelling = x.spelling })) (x ∷ filter (is_of_kind Node) xs) (filter (is_of_kind Node) xs))
        + length (cond (is_of_kind Value (record { kind = kind; spelling = x.spelling })) (x ∷ filter (is_of_kind Value) xs) (filter (is_of_kind Value) xs)) ≤ length (x ∷ xs)
    by Node rest = omega arith
    by Predicate rest = omega arith
    by Value rest = omega arith

pub numbering_of : (parts : List Facts) (additions : List TextTriple) → terms_in parts + size (new_terms_of parts additions) < number_limit
    → predicates_in parts + size (new_predicates_of parts additions) < number_limit → IsNumbering (made_of parts additions)
numbering_of parts additions terms predicates =
    let new = members (new_terms_of parts additions) in
    let few : length (filter (is_of_kind Node) new) + length (filter (is_of_kind Value) new) ≤ length new = no_more new in
    record {
      node_kinds = kinds_left Node new;
      value_kinds = kinds_left Value new;
      nodes = IsStrictlySortedBy-filter term_cmp (is_of_kind Node) new (IsStrictlySortedBy-members term_cmp (new_terms_of parts additions));
      predicates = IsStrictlySortedBy-members term_cmp (new_predicates_of parts additions);
      values = IsStrictlySortedBy-filter term_cmp (is_of_kind Value) new (IsStrictlySortedBy-members term_cmp (new_terms_of parts additions));
      terms_fit = omega arith;
      predicates_fit = predicates;
    }

-- ---- the header

none_given : {X Y : Type 0} (R : X → Y → Type 0) (xs : List X) (ys : List Y) → xs ≡ [] → AllZip R xs ys → ys ≡ []
none_given R [] [] e all = refl
none_given R [] (y ∷ ys) e all = absurd all
none_given R (x ∷ xs) ys e all = let none : ⊥ = cc in absurd none

no_ids : (parts : List Facts) (new : Facts) (triples : List TextTriple) (ids : List IdTriple) → triples ≡ [] → AreIdsBy parts new triples ids → ids ≡ []
no_ids parts new triples ids none are = are.rising ∙ ap (λ ts. members (from_list {R = id_cmp} ts)) (none_given (AreNumbersBy parts new) triples are.given none are.each) ∙ none_rise

module _ (parts : List Facts) (number : ℕ) (new : Facts) (net : NetTriples) (facts : Facts) (are : AreFactsOf parts number new net facts) where
  parent_below : IsBelow parts → IsNumberOver parts number → IfSome facts.parent (λ parent. (1 ≤ parent) × (parent < facts.number))
  parent_below below over =
      subst (λ o. IfSome o (λ parent. (1 ≤ parent) × (parent < facts.number))) (sym are.parent) (subst (λ n. IfSome (layer_of parts) (λ parent. (1 ≤ parent) × (parent < n))) (sym are.number_is) (both (layer_of parts) below.layer over.above))
    where
      both : (o : Option ℕ) → IfSome o (λ k. 1 ≤ k) → IfSome o (λ parent. parent < number) → IfSome o (λ parent. (1 ≤ parent) × (parent < number))
      both None some above = tt
      both (Some k) some above = (some, above)

  nothing_before : terms_in parts ≡ new.terms_before → predicates_in parts ≡ new.predicates_before → All (Holds parts) net.removals → facts.parent ≡ None
      → (facts.terms_before ≡ 0) × (facts.predicates_before ≡ 0) × (length facts.removals ≡ 0)
  nothing_before terms predicates held none =
      let empty : parts ≡ [] = no_layer parts (sym are.parent ∙ none) in
      let gone : net.removals ≡ [] = none_of_none net.removals (subst (λ parts. All (Holds parts) net.removals) empty held) in (
        are.terms_before ∙ sym terms ∙ ap terms_in empty,
        are.predicates_before ∙ sym predicates ∙ ap predicates_in empty,
        ap length (no_ids parts new net.removals facts.removals gone are.removals),
      )

  pub terms_are : all_terms facts ≡ all_terms new
  terms_are = λ i. are.terms_before i + length (are.nodes i) + length (are.values i)

  pub predicates_are : all_predicates facts ≡ all_predicates new
  predicates_are = λ i. are.predicates_before i + length (are.predicates i)

  pub header_rules : IsBelow parts → IsNumberOver parts number → IsChangeOver parts net → IsNumbering new → terms_in parts ≡ new.terms_before → predicates_in parts ≡ new.predicates_before
      → KeepsHeaderRules (header_of facts 0)
  header_rules below over change fits terms predicates = record {
    number = subst (λ n. 1 ≤ n) (sym are.number_is) over.some;
    placed = record { parent = parent_below below over; base = nothing_before terms predicates change.has };
    terms = subst (λ n. n < number_limit) (sym terms_are) fits.terms_fit;
    predicates = subst (λ n. n < number_limit) (sym predicates_are) fits.predicates_fit;
  }

-- ---- what isn't over fits

pub less_where_not : (a b : ℕ) → ¬ (b ≤ a) → a < b
less_where_not a b h = elim (cases_lt a b) as (λ _. a < b) [
  | inl less ↦ less
  | inr more ↦ absurd (h more)
]
