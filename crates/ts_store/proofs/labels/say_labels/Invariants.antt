use Rattle.std.proofs.Common.{[], false, filter, flat_map, take}
use Rattle.std.specs.FinMap.{entries}
use Rattle.ts_site.specs.Outside.{OnlySays}
use Rattle.ts_store.specs.Leaves.{AreLines}
use Rattle.ts_store.specs.Listed.{SaysPrefix}
use Rattle.ts_store.proofs.LabelLines.{every, line_of}
use Rattle.ts_store.proofs.labels.say_labels.Given as goal

abbrev pub invariant-loop-i : goal.invariant-loop-i
invariant-loop-i g l =
    let outside = g.W.Disk.outside in
    record {
      told : SaysPrefix AreLines (flat_map line_of (filter every (take l.i (entries l.labels.labels)))) (outside l.initial.site).told (outside l.site).told [];
      says : OnlySays false (outside l.initial.site) (outside l.site);
    }
