use Rattle.std.proofs.Common.{◌≡◌, ℕ, List, All, length, map, None, refl, sym, ap, ◌∙◌, subst, arith}
use Rattle.std.specs.List.Sorted.{IsPermutation}
use Rattle.ts_model.specs.History.{content_at}
use Rattle.ts_part.specs.declared.header.PartKind.TheVariants.{Layer}
use Rattle.ts_part.specs.Facts.{Facts}
use Rattle.ts_part.specs.Numbers.{id_triples}
use Rattle.ts_chain.specs.Views.{IsPredicateId, IsTermId}
use Rattle.ts_chain.proofs.StepsContent.{steps_content}
use Rattle.ts_squash.specs.NewNumbers.{AreDifferent, AreSameNumbers, AreNumbered, new_triple}
use Rattle.ts_squash.specs.Squashed.{ends_of, relations_of}
use Rattle.ts_squash.proofs.BaseFacts.{ArePredicatesOf, AreTermsOf, base_facts}
use Rattle.ts_squash.proofs.ChainNumbers.{few_used_predicates, few_used_terms, same_numbers, used_predicates_are, used_terms_are}
use Rattle.ts_squash.proofs.base.base_of.Goals as goal

pub spelled_terms-requires-clause-ids : goal.spelled_terms-requires-clause-ids
spelled_terms-requires-clause-ids c =
    subst (All (IsTermId c.args.chain.now)) (sym c.deref-3.ensures.value)
    (used_terms_are c.args.chain.now c.in_ok-triples.triples.items c.in_ok-used.used.items c.in_ok-triples.ensures.bounds
    (subst (λ l. AreDifferent (ends_of l) c.in_ok-used.used.items) c.deref.ensures.value c.in_ok-used.ensures))

pub spelled_predicates-requires-clause-ids : goal.spelled_predicates-requires-clause-ids
spelled_predicates-requires-clause-ids c =
    subst (All (IsPredicateId c.args.chain.now)) (sym c.deref-4.ensures.value)
    (used_predicates_are c.args.chain.now c.in_ok-triples.triples.items c.in_ok-used_predicates.used_predicates.items c.in_ok-triples.ensures.bounds
    (subst (λ l. AreDifferent (relations_of l) c.in_ok-used_predicates.used_predicates.items) c.deref-2.ensures.value c.in_ok-used_predicates.ensures))

pub of-requires-clause-same : goal.of-requires-clause-same
of-requires-clause-same c =
    subst (AreSameNumbers c.in_ok-used.used.items) (sym c.deref-5.ensures.value)
    (same_numbers c.in_ok-used.used.items c.deref-3.result.now c.in_ok-terms.terms.ids.items c.deref-3.ensures.value c.in_ok-terms.ensures.ids c.in_ok-terms.ensures.once)

pub of-requires-2-clause-same : goal.of-requires-2-clause-same
of-requires-2-clause-same c =
    subst (AreSameNumbers c.in_ok-used_predicates.used_predicates.items) (sym c.deref-6.ensures.value)
    (same_numbers c.in_ok-used_predicates.used_predicates.items c.deref-4.result.now c.in_ok-predicates.predicates.ids.items c.deref-4.ensures.value
    c.in_ok-predicates.ensures.ids c.in_ok-predicates.ensures.once)

pub returns-clause-base : goal.returns-clause-base
returns-clause-base c =
    let used = few_used_terms c.args.chain.now c.in_ok-triples.triples.items c.in_ok-used.used.items c.in_ok-triples.ensures.bounds
    (subst (λ l. AreDifferent (ends_of l) c.in_ok-used.used.items) c.deref.ensures.value c.in_ok-used.ensures) in
    let used_too = few_used_predicates c.args.chain.now c.in_ok-triples.triples.items c.in_ok-used_predicates.used_predicates.items c.in_ok-triples.ensures.bounds
    (subst (λ l. AreDifferent (relations_of l) c.in_ok-used_predicates.used_predicates.items) c.deref-2.ensures.value c.in_ok-used_predicates.ensures) in
    let counted = c.in_ok-terms.ensures.counted ∙ ap length c.deref-3.ensures.value in
    let counted_too = c.in_ok-predicates.ensures.counted ∙ ap length c.deref-4.ensures.value in
    let few = c.few_numbers.ensures.terms in
    let few_too = c.few_numbers.ensures.predicates in
    record {
      kind = refl;
      number = refl;
      parent = refl;
      terms = refl;
      predicates = refl;
      rules = record {
        number = c.requires;
        placed = record { parent = tt; base = λ _. (refl, refl, ap length c.new.ensures.items) };
        terms = omega arith;
        predicates = omega arith;
      };
    }

pub returns-clause-facts : goal.returns-clause-facts
returns-clause-facts c = λ history k fresh stands.
    let parts : List Facts = c.args.chain.now in
    let used : List ℕ = c.in_ok-used.used.items in
    let used_too : List ℕ = c.in_ok-used_predicates.used_predicates.items in
    let ids : List ℕ = c.in_ok-terms.terms.ids.items in
    let others : List ℕ = c.in_ok-predicates.predicates.ids.items in
    let all : c.in_ok-triples.triples.items ≡ id_triples history k (content_at history k) = c.in_ok-triples.ensures.all ∙ steps_content history k parts stands in
    let are : AreTermsOf history k parts used ids c.in_ok-terms.terms.nodes.items c.in_ok-terms.terms.values.items = record {
      different = subst (λ l. AreDifferent (ends_of l) used) (c.deref.ensures.value ∙ all) c.in_ok-used.ensures;
      same = same_numbers used c.deref-3.result.now ids c.deref-3.ensures.value c.in_ok-terms.ensures.ids c.in_ok-terms.ensures.once;
      counted = c.in_ok-terms.ensures.counted ∙ ap length c.deref-3.ensures.value;
      named = c.in_ok-terms.ensures.named;
      nodes_keep = c.in_ok-terms.ensures.nodes history k stands;
      values_keep = c.in_ok-terms.ensures.values history k stands;
    } in
    let are_too : ArePredicatesOf history k parts used_too others c.in_ok-predicates.predicates.predicates.items = record {
      different = subst (λ l. AreDifferent (relations_of l) used_too) (c.deref-2.ensures.value ∙ all) c.in_ok-used_predicates.ensures;
      same = same_numbers used_too c.deref-4.result.now others c.deref-4.ensures.value c.in_ok-predicates.ensures.ids c.in_ok-predicates.ensures.once;
      counted = c.in_ok-predicates.ensures.counted ∙ ap length c.deref-4.ensures.value;
      named = c.in_ok-predicates.ensures.named;
      keep = c.in_ok-predicates.ensures.predicates history k stands;
    } in
    let moved : IsPermutation (map (new_triple ids others) (id_triples history k (content_at history k))) c.renumbered.result.items =
    subst (λ l. IsPermutation (map (new_triple ids others) l) c.renumbered.result.items) all
    (c.renumbered.ensures.moved ids others (subst (AreNumbered c.in_ok-numbers.numbers) c.deref-5.ensures.value c.in_ok-numbers.ensures)
    (subst (AreNumbered c.in_ok-predicate_numbers.predicate_numbers) c.deref-6.ensures.value c.in_ok-predicate_numbers.ensures)) in
    (λ i. record {
      kind = Layer;
      number = c.args.number;
      parent = None;
      terms_before = 0;
      predicates_before = 0;
      nodes = c.in_ok-terms.terms.nodes.items;
      predicates = c.in_ok-predicates.predicates.predicates.items;
      values = c.in_ok-terms.terms.values.items;
      additions = c.renumbered.result.items;
      removals = c.new.ensures.items i;
      term_map = c.new-2.ensures.items i;
      predicate_map = c.new-3.ensures.items i;
    })
    ∙ base_facts history k c.args.number c.requires c.ranges.number.fits fresh parts stands used ids c.in_ok-terms.terms.nodes.items c.in_ok-terms.terms.values.items are
    used_too others c.in_ok-predicates.predicates.predicates.items are_too c.renumbered.result.items moved c.renumbered.ensures.sorted
