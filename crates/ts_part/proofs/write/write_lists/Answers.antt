use Rattle.std.proofs.Common.{◌∙◌, [], ap, subst}
use Rattle.ts_front.specs.Dictionary.{DictionarySays}
use Rattle.ts_plane.specs.Plane.{PlaneSays}
use Rattle.ts_part.specs.Facts.{Facts, spellings}
use Rattle.ts_part.proofs.write.write_lists.Goals as goal

pub returns : goal.returns
returns c =
    let is = c.facts.view_is in
    let a = c.in_ok-write_terms.ensures [] c.requires.empty in
    let b = c.in_ok-write_terms-2.ensures _ a.holds in
    let d = c.in_ok-write_terms-3.ensures _ b.holds in
    let e = c.in_ok-write_triples.ensures _ d.holds in
    let f = c.in_ok-write_triples-2.ensures _ e.holds in
    record {
      node_starts = a.starts;
      node_bytes = a.bytes;
      predicate_starts = b.starts;
      predicate_bytes = b.bytes;
      value_starts = d.starts;
      value_bytes = d.bytes;
      additions = e.eight;
      removals = f.eight;
      nodes_say = subst (λ terms. DictionarySays a.starts a.bytes (spellings terms)) (c.deref.ensures.value ∙ ap (λ (facts : Facts). facts.nodes) is) a.says;
      predicates_say = subst (λ terms. DictionarySays b.starts b.bytes (spellings terms)) (c.deref-2.ensures.value ∙ ap (λ (facts : Facts). facts.predicates) is) b.says;
      values_say = subst (λ terms. DictionarySays d.starts d.bytes (spellings terms)) (c.deref-3.ensures.value ∙ ap (λ (facts : Facts). facts.values) is) d.says;
      additions_say = subst (PlaneSays e.eight) (c.deref-4.ensures.value ∙ ap (λ (facts : Facts). facts.additions) is) e.says;
      removals_say = subst (PlaneSays f.eight) (c.deref-5.ensures.value ∙ ap (λ (facts : Facts). facts.removals) is) f.says;
      holds = f.holds;
    }
