use Rattle.std.proofs.Common.{◌∙◌, ℕ, List, ap, subst}
use Rattle.ts_part.specs.Facts.{Facts}
use Rattle.ts_part.specs.Written.{HoldsLists, HoldsMaps}
use Rattle.ts_part.proofs.HeldLemmas.{facts_held, laid}
use Rattle.ts_part.proofs.write.write_sections.Goals as goal

pub returns : goal.returns
returns c =
    let facts = c.args.facts.now in
    let is = c.facts.view_is in
    let lists : HoldsLists c.write_lists.new.body facts = c.in_ok-write_lists.ensures in
    let before : List (List ℕ) = laid c.write_lists.new.body facts lists in
    let maps = c.in_ok-write_maps.ensures before lists.holds in
    let terms = c.deref.ensures.value ∙ ap (λ (f : Facts). f.term_map) is in
    let predicates = c.deref-2.ensures.value ∙ ap (λ (f : Facts). f.predicate_map) is in
    facts_held c.write_lists.new.body c.write_maps.new.body facts lists
    (subst (λ l. HoldsMaps facts.kind c.write_maps.new.body (laid c.write_lists.new.body facts lists) facts.term_map l) predicates
    (subst (λ l. HoldsMaps facts.kind c.write_maps.new.body (laid c.write_lists.new.body facts lists) l c.deref-2.result.now) terms
    (subst (λ k. HoldsMaps k c.write_maps.new.body (laid c.write_lists.new.body facts lists) c.deref.result.now c.deref-2.result.now)
    (ap (λ (f : Facts). f.kind) is) maps)))
