use Rattle.std.proofs.Common.{◌≡◌, ◌+◌, ◌*◌, ◌^◌, ◌≤◌, drop}
use Rattle.ts_chain.specs.Content.{go_count}
use Rattle.ts_chain.proofs.chain.Chain.go_count.Given as goal

abbrev pub invariant-loop-part : goal.invariant-loop-part
invariant-loop-part l = record {
  rest : l.count + go_count (drop l.part-index l.self) ≡ go_count l.self;
  fits : l.count ≤ l.part-index * 2 ^ 64;
}
