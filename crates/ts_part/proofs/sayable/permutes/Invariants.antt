use Rattle.ts_part.proofs.SeenLemmas.{HasSeen}
use Rattle.ts_part.proofs.sayable.permutes.Given as goal

abbrev pub invariant-loop-i : goal.invariant-loop-i
invariant-loop-i l = HasSeen l.numbers l.seen.items l.i
