use Rattle.std.proofs.Common.{All, refl, sym, ap, ◌∙◌, subst}
use Rattle.std.specs.Option.{option_map}
use Rattle.ts_model.specs.TextTriple.{IsTriple}
use Rattle.ts_part.specs.Facts.{Facts}
use Rattle.ts_chain.specs.Chain.{parts_or_none}
use Rattle.ts_builder.specs.Lookups.{IsLookup}
use Rattle.ts_builder.specs.Numbering.{AreNew}
use Rattle.ts_builder.proofs.LookupLemmas.{added_ends, added_relations, removed_ends, removed_relations}
use Rattle.ts_builder.proofs.RankLemmas.{now}
use Rattle.ts_builder.proofs.layer.facts_of.Goals as goal

pub ids_of-requires-clause-ends : goal.ids_of-requires-clause-ends
ids_of-requires-clause-ends c =
    subst (λ (new : Facts). AreNew new c.args.added.ends.found.items) (sym c.requires.made)
    (added_ends (parts_or_none (option_map (λ chain. chain.now) c.args.parent)) c.args.net.now.additions c.args.added c.requires.lookup c.requires.kinds)

pub ids_of-requires-clause-relations : goal.ids_of-requires-clause-relations
ids_of-requires-clause-relations c =
    subst (λ (new : Facts). AreNew new c.args.added.relations.found.items) (sym c.requires.made)
    (added_relations (parts_or_none (option_map (λ chain. chain.now) c.args.parent)) c.args.net.now.additions c.args.added c.requires.lookup c.requires.kinds)

pub ids_of-requires-2-clause-ends : goal.ids_of-requires-2-clause-ends
ids_of-requires-2-clause-ends c =
    let parts = parts_or_none (option_map (λ chain. chain.now) c.args.parent) in
    removed_ends parts c.args.net.now.removals c.in_ok-removed.removed (subst (λ triples. IsLookup parts triples c.in_ok-removed.removed) c.removals.ensures.removals c.in_ok-removed.ensures.terms) c.requires.held
    c.args.new.now

pub ids_of-requires-2-clause-relations : goal.ids_of-requires-2-clause-relations
ids_of-requires-2-clause-relations c =
    let parts = parts_or_none (option_map (λ chain. chain.now) c.args.parent) in
    removed_relations parts c.args.net.now.removals c.in_ok-removed.removed (subst (λ triples. IsLookup parts triples c.in_ok-removed.removed) c.removals.ensures.removals c.in_ok-removed.ensures.terms)
    c.requires.held c.args.new.now

pub returns : goal.returns
returns c =
    let parts = parts_or_none (option_map (λ chain. chain.now) c.args.parent) in
    record {
      kind = refl;
      number_is = refl;
      parent = c.layer_of.ensures;
      terms_before = ap (λ (new : Facts). new.terms_before) c.new.view_is;
      predicates_before = ap (λ (new : Facts). new.predicates_before) c.new.view_is;
      nodes = c.in_ok-copies.ensures ∙ ap now c.deref.ensures.value ∙ ap (λ (new : Facts). new.nodes) c.new.view_is;
      predicates = c.in_ok-copies-2.ensures ∙ ap now c.deref-2.ensures.value ∙ ap (λ (new : Facts). new.predicates) c.new.view_is;
      values = c.in_ok-copies-3.ensures ∙ ap now c.deref-3.ensures.value ∙ ap (λ (new : Facts). new.values) c.new.view_is;
      additions = c.in_ok-additions.ensures parts c.args.net.now.additions c.requires.lookup;
      removals = c.in_ok-removals.ensures parts c.args.net.now.removals
          (subst (λ triples. IsLookup parts triples c.in_ok-removed.removed) c.removals.ensures.removals c.in_ok-removed.ensures.terms);
      term_map = c.new-2.ensures.items;
      predicate_map = c.new-3.ensures.items;
      added_kinds = c.requires.kinds;
      removed_kinds = subst (All IsTriple) c.removals.ensures.removals c.in_ok-removed.ensures.kinds;
    }
