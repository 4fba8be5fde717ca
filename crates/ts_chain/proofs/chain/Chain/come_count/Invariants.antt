use Rattle.std.proofs.Common.{◌≡◌, ◌+◌, ◌*◌, ◌^◌, ◌≤◌, drop}
use Rattle.ts_chain.specs.Content.{come_count}
use Rattle.ts_chain.proofs.chain.Chain.come_count.Given as goal

abbrev pub invariant-loop-part : goal.invariant-loop-part
invariant-loop-part l = record {
  rest : l.count + come_count (drop l.part-index l.self) ≡ come_count l.self;
  fits : l.count ≤ l.part-index * 2 ^ 64;
}
