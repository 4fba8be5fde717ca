use Rattle.std.proofs.Common.{◌≡◌, length}
use Rattle.ts_builder.specs.Ranks.{placed}
use Rattle.ts_builder.proofs.heads.set_heads.Given as goal

abbrev pub invariant-loop-place : goal.invariant-loop-place
invariant-loop-place l = record {
  same : placed l.part ≡ placed l.fn.part;
  many : length l.part ≡ length l.fn.part;
}
