use Rattle.ts_rollup.proofs.SideBySide.{IsComparing}
use Rattle.ts_rollup.proofs.difference.compare.Given as goal

abbrev pub invariant-loop-triple : goal.invariant-loop-triple
invariant-loop-triple l = IsComparing l.fn.upper l.fn.lower l.next l.lower l.triple-iterator l.gained.items l.lost.items
