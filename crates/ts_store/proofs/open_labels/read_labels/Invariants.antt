use Rattle.std.proofs.Common.{false, All, take}
use Rattle.ts_plain.specs.History.{history_of}
use Rattle.ts_site.specs.Outside.{IsHonest, OnlyReads}
use Rattle.ts_store.specs.Named.{AreLabelsOf}
use Rattle.ts_store.proofs.FoundLabels.{AreAmong, IsLabelRead}
use Rattle.ts_store.proofs.open_labels.read_labels.Given as goal

abbrev pub invariant-loop-name : goal.invariant-loop-name
invariant-loop-name g l =
    let outside = g.W.Disk.outside in
    record {
      named : AreLabelsOf (history_of l.layers) l.table.labels;
      among : AreAmong l.table.labels l.names;
      read : IsHonest (outside l.site) → All (IsLabelRead (outside l.initial.site).folder l.table.labels) (take l.name-index l.names);
      reads : OnlyReads false (outside l.initial.site) (outside l.site);
    }
