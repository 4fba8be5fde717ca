use Rattle.std.proofs.Common.{◌<◌, ◌-◌, ◌++◌, All, Contains, length, map, refl, subst, sym, ap, ◌∙◌, arith, length-append}
use Rattle.std.specs.Ordering.{nat_cmp}
use Rattle.std.specs.List.Sorted.{IsStrictlySortedBy}
use Rattle.std.specs.Option.{option_map}
use Rattle.ts_part.specs.declared.header.PartKind.TheVariants.{Rollup}
use Rattle.ts_part.specs.Facts.{Facts}
use Rattle.ts_chain.specs.Chain.{parts_or_none, predicates_in, terms_in}
use Rattle.ts_chain.specs.Views.{IsPredicateId, IsTermId, NamesPredicate, NamesTerm}
use Rattle.ts_rollup.proofs.NumbersAbove.{above_rise, all_above, ids_above, numbered_as}
use Rattle.ts_rollup.proofs.RolledHeader.{lower_is, rolled_header}
use Rattle.ts_rollup.proofs.rollup.rolled.Goals as goal

pub above-requires : goal.above-requires
above-requires c = let low = c.lower_of-lower.ensures.terms in let high = c.counts-counts.ensures.terms in let below = c.requires.terms in omega arith

pub above-requires-2 : goal.above-requires-2
above-requires-2 c = let low = c.lower_of-lower.ensures.predicates in let high = c.counts-counts.ensures.predicates in let below = c.requires.predicates in omega arith

pub spelled_terms-requires-clause-ids : goal.spelled_terms-requires-clause-ids
spelled_terms-requires-clause-ids c =
    subst (All (IsTermId c.args.chain.now)) (sym (c.deref.ensures.value ∙ c.in_ok-ids.ensures))
    (λ k d within.
    let is = all_above c.lower_of-lower.result.terms c.counts-counts.result.terms k d within in
    let total = c.counts-counts.ensures.terms in
    record { some = omega (arith, is.0); within = omega (arith, is.1, total) })

pub spelled_terms-requires-clause-rise : goal.spelled_terms-requires-clause-rise
spelled_terms-requires-clause-rise c =
    subst (IsStrictlySortedBy nat_cmp) (sym (c.deref.ensures.value ∙ c.in_ok-ids.ensures)) (above_rise c.lower_of-lower.result.terms c.counts-counts.result.terms)

pub spelled_predicates-requires-clause-ids : goal.spelled_predicates-requires-clause-ids
spelled_predicates-requires-clause-ids c =
    subst (All (IsPredicateId c.args.chain.now)) (sym (c.deref-2.ensures.value ∙ c.in_ok-ids-2.ensures))
    (λ k d within.
    let is = all_above c.lower_of-lower.result.predicates c.counts-counts.result.predicates k d within in
    let total = c.counts-counts.ensures.predicates in
    record { some = omega (arith, is.0); within = omega (arith, is.1, total) })

pub spelled_predicates-requires-clause-rise : goal.spelled_predicates-requires-clause-rise
spelled_predicates-requires-clause-rise c =
    subst (IsStrictlySortedBy nat_cmp) (sym (c.deref-2.ensures.value ∙ c.in_ok-ids-2.ensures)) (above_rise c.lower_of-lower.result.predicates c.counts-counts.result.predicates)

pub places_above-requires : goal.places_above-requires
places_above-requires c =
    subst (All (λ id. c.lower_of-lower.result.terms < id)) (sym c.deref-3.ensures.value)
    (ids_above c.lower_of-lower.result.terms c.counts-counts.result.terms (NamesTerm c.args.chain.now) c.in_ok-terms.terms.ids.items (c.in_ok-terms.terms.nodes.items ++ c.in_ok-terms.terms.values.items)
    (let low = c.lower_of-lower.ensures.terms in let high = c.counts-counts.ensures.terms in let below = c.requires.terms in omega arith)
    (λ id. let same = c.in_ok-terms.ensures.ids id in let is = c.deref.ensures.value ∙ c.in_ok-ids.ensures in
    (λ h. subst (λ l. Contains l id) is (same.0 h), λ h. same.1 (subst (λ l. Contains l id) (sym is) h)))
    (c.in_ok-terms.ensures.once ∙ ap length (c.deref.ensures.value ∙ c.in_ok-ids.ensures))
    (length-append c.in_ok-terms.terms.nodes.items c.in_ok-terms.terms.values.items ∙ c.in_ok-terms.ensures.counted ∙ ap length (c.deref.ensures.value ∙ c.in_ok-ids.ensures))
    c.in_ok-terms.ensures.named)

pub places_above-requires-2 : goal.places_above-requires-2
places_above-requires-2 c =
    subst (All (λ id. c.lower_of-lower.result.predicates < id)) (sym c.deref-4.ensures.value)
    (ids_above c.lower_of-lower.result.predicates c.counts-counts.result.predicates (NamesPredicate c.args.chain.now) c.in_ok-predicates.predicates.ids.items c.in_ok-predicates.predicates.predicates.items
    (let low = c.lower_of-lower.ensures.predicates in let high = c.counts-counts.ensures.predicates in let below = c.requires.predicates in omega arith)
    (λ id. let same = c.in_ok-predicates.ensures.ids id in let is = c.deref-2.ensures.value ∙ c.in_ok-ids-2.ensures in
    (λ h. subst (λ l. Contains l id) is (same.0 h), λ h. same.1 (subst (λ l. Contains l id) (sym is) h)))
    (c.in_ok-predicates.ensures.once ∙ ap length (c.deref-2.ensures.value ∙ c.in_ok-ids-2.ensures))
    (c.in_ok-predicates.ensures.counted ∙ ap length (c.deref-2.ensures.value ∙ c.in_ok-ids-2.ensures))
    c.in_ok-predicates.ensures.named)

pub returns : goal.returns
returns c =
    let lower = parts_or_none (option_map (λ chain. chain.now) c.args.upto) in
    let terms = numbered_as c.lower_of-lower.result.terms c.counts-counts.result.terms (NamesTerm c.args.chain.now) c.in_ok-terms.terms.ids.items (c.in_ok-terms.terms.nodes.items ++ c.in_ok-terms.terms.values.items)
    (let low = c.lower_of-lower.ensures.terms in let high = c.counts-counts.ensures.terms in let below = c.requires.terms in omega arith)
    (λ id. let same = c.in_ok-terms.ensures.ids id in let is = c.deref.ensures.value ∙ c.in_ok-ids.ensures in
    (λ h. subst (λ l. Contains l id) is (same.0 h), λ h. same.1 (subst (λ l. Contains l id) (sym is) h)))
    (c.in_ok-terms.ensures.once ∙ ap length (c.deref.ensures.value ∙ c.in_ok-ids.ensures))
    (length-append c.in_ok-terms.terms.nodes.items c.in_ok-terms.terms.values.items ∙ c.in_ok-terms.ensures.counted ∙ ap length (c.deref.ensures.value ∙ c.in_ok-ids.ensures))
    c.in_ok-terms.ensures.named
    (terms_in lower) (terms_in c.args.chain.now) c.in_ok-term_map.term_map.items c.lower_of-lower.ensures.terms c.counts-counts.ensures.terms
    (c.in_ok-term_map.ensures ∙ ap (map (λ id. id - c.lower_of-lower.result.terms - 1)) c.deref-3.ensures.value) in
    let predicates = numbered_as c.lower_of-lower.result.predicates c.counts-counts.result.predicates (NamesPredicate c.args.chain.now) c.in_ok-predicates.predicates.ids.items c.in_ok-predicates.predicates.predicates.items
    (let low = c.lower_of-lower.ensures.predicates in let high = c.counts-counts.ensures.predicates in let below = c.requires.predicates in omega arith)
    (λ id. let same = c.in_ok-predicates.ensures.ids id in let is = c.deref-2.ensures.value ∙ c.in_ok-ids-2.ensures in
    (λ h. subst (λ l. Contains l id) is (same.0 h), λ h. same.1 (subst (λ l. Contains l id) (sym is) h)))
    (c.in_ok-predicates.ensures.once ∙ ap length (c.deref-2.ensures.value ∙ c.in_ok-ids-2.ensures))
    (c.in_ok-predicates.ensures.counted ∙ ap length (c.deref-2.ensures.value ∙ c.in_ok-ids-2.ensures))
    c.in_ok-predicates.ensures.named
    (predicates_in lower) (predicates_in c.args.chain.now) c.in_ok-predicate_map.predicate_map.items c.lower_of-lower.ensures.predicates c.counts-counts.ensures.predicates
    (c.in_ok-predicate_map.ensures ∙ ap (map (λ id. id - c.lower_of-lower.result.predicates - 1)) c.deref-4.ensures.value) in
    let facts : Facts = record {
      kind = Rollup;
      number = c.number.result;
      parent = c.lower_of-lower.result.layer;
      terms_before = c.lower_of-lower.result.terms;
      predicates_before = c.lower_of-lower.result.predicates;
      nodes = c.in_ok-terms.terms.nodes.items;
      predicates = c.in_ok-predicates.predicates.predicates.items;
      values = c.in_ok-terms.terms.values.items;
      additions = c.in_ok-triples.triples.gained.items;
      removals = c.in_ok-triples.triples.lost.items;
      term_map = c.in_ok-term_map.term_map.items;
      predicate_map = c.in_ok-predicate_map.predicate_map.items;
    } in
    record {
      chain = c.number.ensures.chain;
      header = rolled_header lower c.args.chain.now facts c.requires c.number.ensures.number c.lower_of-lower.ensures.layer c.lower_of-lower.ensures.terms c.lower_of-lower.ensures.predicates
          terms.as_many predicates.as_many c.in_ok-triples.ensures.lost c.number.ensures.chain (lower_is (λ chain. chain.now) c.args.upto c.lower_of-lower.ensures.chain);
      kind = refl;
      number = c.number.ensures.number;
      parent = c.lower_of-lower.ensures.layer;
      terms_before = c.lower_of-lower.ensures.terms;
      predicates_before = c.lower_of-lower.ensures.predicates;
      terms = terms;
      predicates = predicates;
      node_kinds = c.in_ok-terms.ensures.nodes_are.kinds;
      predicate_kinds = c.in_ok-predicates.ensures.predicates_are.kinds;
      value_kinds = c.in_ok-terms.ensures.values_are.kinds;
      spelled = λ history k stands. record {
        nodes = c.in_ok-terms.ensures.nodes history k stands;
        predicates = c.in_ok-predicates.ensures.predicates history k stands;
        values = c.in_ok-terms.ensures.values history k stands;
      };
      additions = c.in_ok-triples.ensures.gained;
      removals = c.in_ok-triples.ensures.lost;
    }
