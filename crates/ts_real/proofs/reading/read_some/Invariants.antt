use Rattle.std.proofs.Common.{◌≡◌, length}
use Rattle.std.specs.Io.KnownBytes.{Keeps}
use Rattle.ts_real.proofs.reading.read_some.Given as goal

-- an interrupted read gave nothing
abbrev pub invariant-loop : goal.invariant-loop
invariant-loop g l = (length l.into ≡ length l.initial.into) × Keeps (g.F.Read.remaining l.initial.file) (g.F.Read.remaining l.file)
