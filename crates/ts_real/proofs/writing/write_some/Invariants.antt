use Rattle.std.specs.Io.KnownBytes.{Keeps}
use Rattle.ts_real.proofs.writing.write_some.Given as goal

-- an interrupted write put nothing
abbrev pub invariant-loop : goal.invariant-loop
invariant-loop g l = Keeps (g.W.Write.contents l.initial.out) (g.W.Write.contents l.out)
