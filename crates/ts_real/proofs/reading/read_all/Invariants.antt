use Rattle.std.proofs.Common.{◌≡◌, ◌≤◌, ◌-◌, length, take}
use Rattle.std.specs.Io.KnownBytes.{Consumes}
use Rattle.ts_real.proofs.reading.read_all.Given as goal

-- what was filled is what the reader gave
abbrev pub invariant-loop-count : goal.invariant-loop-count
invariant-loop-count g l = (length l.into ≡ length l.initial.into) × (l.count ≤ length l.into) × Consumes (g.F.Read.remaining l.initial.file) (g.F.Read.remaining l.file) (take l.count l.into)

abbrev pub decreases-loop-count : goal.decreases-loop-count
decreases-loop-count g l = length l.into - l.count
