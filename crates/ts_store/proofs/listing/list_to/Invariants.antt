use Rattle.std.proofs.Common.{false, filter, flat_map, take}
use Rattle.ts_nt.specs.TripleLine.{triple_line}
use Rattle.ts_site.specs.Outside.{OnlySays}
use Rattle.ts_store.specs.Leaves.{AreLines}
use Rattle.ts_store.specs.Listed.{SaysPrefix}
use Rattle.ts_store.proofs.PrefixLaws.{each}
use Rattle.ts_store.proofs.listing.list_to.Given as goal

abbrev pub invariant-loop-triple : goal.invariant-loop-triple
invariant-loop-triple g l =
    let outside = g.W.Disk.outside in
    record {
      told : SaysPrefix AreLines (flat_map triple_line (filter each (take l.triple-index l.triples))) (outside l.initial.site).told (outside l.site).told l.piece.items;
      says : OnlySays false (outside l.initial.site) (outside l.site);
    }
