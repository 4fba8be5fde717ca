use Rattle.std.proofs.Common.{◌≡◌, All, ◌+◌, ◌<◌, inl, inr, filter, sym, ap, ◌∙◌, subst, true≢false}
use Rattle.std.specs.Option.{option_map}
use Rattle.ts_model.specs.declared.term.TermKind.TheVariants.{Node, Value}
use Rattle.ts_model.specs.Limits.{number_limit}
use Rattle.ts_model.specs.Sets.{members, size}
use Rattle.ts_model.specs.TextTriple.{IsTriple}
use Rattle.ts_part.specs.Step.{is_of_kind}
use Rattle.ts_chain.specs.Chain.{parts_or_none, predicates_in, terms_in}
use Rattle.ts_builder.specs.Lookups.{IsLookup, lacked}
use Rattle.ts_builder.specs.NewTerms.{new_predicates_of, new_terms_of}
use Rattle.ts_builder.specs.Numbering.{IsNumbering, new_facts}
use Rattle.ts_builder.proofs.BuildLemmas.{chain_below, chain_or_none, less_where_not, numbering_of}
use Rattle.ts_builder.proofs.LookupLemmas.{counted, new_predicates_are, new_terms_are, over_same}
use Rattle.ts_builder.proofs.RankLemmas.{now}
use Rattle.ts_builder.proofs.layer.numbering.Goals as goal

pub is_over-requires-clause-terms : goal.is_over-requires-clause-terms
is_over-requires-clause-terms c =
    let parts = parts_or_none (option_map (λ chain. chain.now) c.args.parent) in
    subst (λ n. n < number_limit) (sym c.before_of-before.ensures.terms) (chain_below parts (chain_or_none c.args.parent c.before_of-before.ensures.chain)).terms

pub is_over-requires-clause-predicates : goal.is_over-requires-clause-predicates
is_over-requires-clause-predicates c =
    let parts = parts_or_none (option_map (λ chain. chain.now) c.args.parent) in
    subst (λ n. n < number_limit) (sym c.before_of-before.ensures.predicates) (chain_below parts (chain_or_none c.args.parent c.before_of-before.ensures.chain)).predicates

pub returns-clause-lookup : goal.returns-clause-lookup
returns-clause-lookup c =
    subst (λ triples. IsLookup (parts_or_none (option_map (λ chain. chain.now) c.args.parent)) triples c.in_ok-added.added) c.additions.ensures.additions c.in_ok-added.ensures.terms

terms_are : (c : goal.After-drop-terms-2) → now c.in_ok-terms.terms.items ≡ members (new_terms_of (parts_or_none (option_map (λ chain. chain.now) c.args.parent)) c.args.net.now.additions)
terms_are c =
    c.in_ok-terms.ensures ∙ ap lacked c.deref.ensures.value
    ∙ new_terms_are (parts_or_none (option_map (λ chain. chain.now) c.args.parent)) c.args.net.now.additions c.in_ok-added.added (returns-clause-lookup c)

predicates_are : (c : goal.After-drop-terms-2) → now c.in_ok-predicates.predicates.items ≡ members (new_predicates_of (parts_or_none (option_map (λ chain. chain.now) c.args.parent)) c.args.net.now.additions)
predicates_are c =
    c.in_ok-predicates.ensures ∙ ap lacked c.deref-2.ensures.value
    ∙ new_predicates_are (parts_or_none (option_map (λ chain. chain.now) c.args.parent)) c.args.net.now.additions c.in_ok-added.added (returns-clause-lookup c)

pub returns-clause-made : goal.returns-clause-made
returns-clause-made c =
    let parts = parts_or_none (option_map (λ chain. chain.now) c.args.parent) in
    let nodes : now c.in_ok-nodes.nodes.items ≡ filter (is_of_kind Node) (members (new_terms_of parts c.args.net.now.additions)) =
    c.in_ok-nodes.ensures ∙ ap (λ terms. filter (is_of_kind Node) (now terms)) c.deref-3.ensures.value ∙ ap (filter (is_of_kind Node)) (terms_are c) in
    let values : now c.in_ok-values.values.items ≡ filter (is_of_kind Value) (members (new_terms_of parts c.args.net.now.additions)) =
    c.in_ok-values.ensures ∙ ap (λ terms. filter (is_of_kind Value) (now terms)) c.deref-4.ensures.value ∙ ap (filter (is_of_kind Value)) (terms_are c) in
    λ i. new_facts (c.before_of-before.ensures.terms i) (c.before_of-before.ensures.predicates i) (nodes i) (predicates_are c i) (values i)

pub returns-clause-kinds : goal.returns-clause-kinds
returns-clause-kinds c = subst (All IsTriple) c.additions.ensures.additions c.in_ok-added.ensures.kinds

-- the terms and the predicates of the new layer
all_terms : (c : goal.After-drop-terms-2) → c.before_of-before.result.terms + c.len.result
    ≡ terms_in (parts_or_none (option_map (λ chain. chain.now) c.args.parent)) + size (new_terms_of (parts_or_none (option_map (λ chain. chain.now) c.args.parent)) c.args.net.now.additions)
all_terms c = counted c.in_ok-terms.terms.items _ _ _ _ (terms_are c) c.before_of-before.ensures.terms (c.len.ensures ∙ c.in_ok-terms.terms.ok.0)

all_predicates : (c : goal.After-drop-terms-2) → c.before_of-before.result.predicates + c.len-2.result
    ≡ predicates_in (parts_or_none (option_map (λ chain. chain.now) c.args.parent)) + size (new_predicates_of (parts_or_none (option_map (λ chain. chain.now) c.args.parent)) c.args.net.now.additions)
all_predicates c = counted c.in_ok-predicates.predicates.items _ _ _ _ (predicates_are c) c.before_of-before.ensures.predicates (c.len-2.ensures ∙ c.in_ok-predicates.predicates.ok.0)

pub returns-clause-fits : goal.returns-clause-fits
returns-clause-fits c =
    subst IsNumbering (sym (returns-clause-made c)) (numbering_of (parts_or_none (option_map (λ chain. chain.now) c.args.parent)) c.args.net.now.additions
    (subst (λ n. n < number_limit) (all_terms c) (less_where_not _ number_limit (λ more. true≢false (sym (c.is_over.ensures.1 (inl more)) ∙ c.if-is_over.false))))
    (subst (λ n. n < number_limit) (all_predicates c) (less_where_not _ number_limit (λ more. true≢false (sym (c.is_over.ensures.1 (inr more)) ∙ c.if-is_over.false)))))

pub returns-clause-below : goal.returns-clause-below
returns-clause-below c =
    let parts = parts_or_none (option_map (λ chain. chain.now) c.args.parent) in
    chain_below parts (chain_or_none c.args.parent c.before_of-before.ensures.chain)

pub returns-clause-room : goal.returns-clause-room
returns-clause-room c = λ over. true≢false (sym (c.is_over.ensures.1 (over_same number_limit _ _ _ _ (sym (all_terms c)) (sym (all_predicates c)) over)) ∙ c.if-is_over.false)

pub returns-then-is_over-clause-full : goal.returns-then-is_over-clause-full
returns-then-is_over-clause-full c = λ _.
    let parts = parts_or_none (option_map (λ chain. chain.now) c.args.parent) in
    let additions = c.args.net.now.additions in
    let lookup : IsLookup parts additions c.in_ok-added.added = subst (λ triples. IsLookup parts triples c.in_ok-added.added) c.additions.ensures.additions c.in_ok-added.ensures.terms in
    let terms : now c.in_ok-terms.terms.items ≡ members (new_terms_of parts additions) = c.in_ok-terms.ensures ∙ ap lacked c.deref.ensures.value ∙ new_terms_are parts additions c.in_ok-added.added lookup in
    let predicates : now c.in_ok-predicates.predicates.items ≡ members (new_predicates_of parts additions) =
    c.in_ok-predicates.ensures ∙ ap lacked c.deref-2.ensures.value ∙ new_predicates_are parts additions c.in_ok-added.added lookup in
    over_same number_limit _ _ _ _
    (counted c.in_ok-terms.terms.items _ _ _ _ terms c.before_of-before.ensures.terms (c.len.ensures ∙ c.in_ok-terms.terms.ok.0))
    (counted c.in_ok-predicates.predicates.items _ _ _ _ predicates c.before_of-before.ensures.predicates (c.len-2.ensures ∙ c.in_ok-predicates.predicates.ok.0))
    (c.is_over.ensures.0 c.if-is_over.true)
