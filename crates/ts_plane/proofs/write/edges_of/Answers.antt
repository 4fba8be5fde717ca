use Rattle.std.proofs.Common.{◌+◌, map, ap, ◌∙◌, arith, take_all}
use Rattle.ts_plane.specs.Parts.{pair_edges}
use Rattle.ts_plane.proofs.PlaceLemmas.{edge_in, place_more, edge_more, byte_small}
use Rattle.ts_plane.proofs.write.edges_of.Goals as goal

pub loop-i-preserved : goal.loop-i-preserved
loop-i-preserved c =
    let place = place_more c.args.triples.now c.loop-i.i c.loop-i.place c.begins_pair.result c.loop-i-test.true c.loop-i.invariant.place c.begins_pair.ensures in
    let same = ap (λ n. c.loop-i.place + n) c.from-place.ensures in
    record {
      place = same ∙ place;
      few = omega (arith, c.from-place.ensures, byte_small c.begins_pair.result, c.loop-i.invariant.few);
      edges = edge_more c.args.triples.now c.loop-i.i _ c.loop-i.edges.items c.push.new.self.items c.requires c.loop-i-test.true (same ∙ place) c.loop-i.invariant.edges c.in_ok-push.ensures.items;
    }

pub returns : goal.returns
unfolding pair_edges
returns c = c.loop-i.invariant.edges ∙ ap (map (edge_in c.args.triples.now)) (take_all c.loop-i.i c.args.triples.now c.loop-i-test.false)
