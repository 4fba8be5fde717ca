use Rattle.std.proofs.Common.{[], false, filter, flat_map, take}
use Rattle.ts_site.specs.Outside.{OnlySays}
use Rattle.ts_store.specs.Leaves.{AreLines}
use Rattle.ts_store.specs.Listed.{SaysPrefix}
use Rattle.ts_store.proofs.LayersLaws.{every, layer_line}
use Rattle.ts_store.proofs.layers.say_layers.Given as goal

abbrev pub invariant-loop-layer : goal.invariant-loop-layer
invariant-loop-layer g l =
    let outside = g.W.Disk.outside in
    record {
      told : SaysPrefix AreLines (flat_map layer_line (filter every (take l.layer-index l.layers))) (outside l.initial.site).told (outside l.site).told [];
      says : OnlySays false (outside l.initial.site) (outside l.site);
    }
