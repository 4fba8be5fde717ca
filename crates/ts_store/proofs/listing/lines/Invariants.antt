use Rattle.std.proofs.Common.{◌≡◌, ◌<◌, false, filter, flat_map, length, take}
use Rattle.ts_model.specs.Fits.{fits}
use Rattle.ts_nt.specs.TripleLine.{triple_line}
use Rattle.ts_site.specs.Outside.{OnlySays}
use Rattle.ts_store.specs.Leaves.{AreLines}
use Rattle.ts_store.specs.Listed.{SaysPrefix}
use Rattle.ts_store.proofs.PrefixLaws.{triples_lent}
use Rattle.ts_store.proofs.listing.lines.Given as goal

abbrev pub invariant-loop-triple : goal.invariant-loop-triple
invariant-loop-triple g l =
    let outside = g.W.Disk.outside in
    let so_far = filter (fits l.pattern) (take l.triple-index (triples_lent l.triples)) in
    record {
      count : l.count ≡ length so_far;
      told : SaysPrefix AreLines (flat_map triple_line so_far) (outside l.initial.site).told (outside l.site).told l.piece.items;
      small : length l.piece.items < 65536;
      says : OnlySays false (outside l.initial.site) (outside l.site);
    }
