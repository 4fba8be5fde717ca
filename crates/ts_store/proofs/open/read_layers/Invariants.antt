use Rattle.std.proofs.Common.{◌≡◌, false, All, map, take}
use Rattle.ts_plain.specs.History.{AreHistory}
use Rattle.ts_site.specs.Outside.{IsHonest, OnlyReads}
use Rattle.ts_store.specs.Opened.{IsReadFrom}
use Rattle.ts_store.proofs.open.read_layers.Given as goal

abbrev pub invariant-loop-number : goal.invariant-loop-number
invariant-loop-number g l =
    let outside = g.W.Disk.outside in
    record {
      numbers : map (λ layer. layer.number) l.layers.items ≡ take l.number-index l.numbers;
      history : AreHistory l.layers.items;
      says : IsHonest (outside l.site) → All (IsReadFrom (outside l.initial.site).folder) l.layers.items;
      reads : OnlyReads false (outside l.initial.site) (outside l.site);
    }
