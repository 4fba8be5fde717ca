use Rattle.ts_part.proofs.LayoutLemmas.{HasRead}
use Rattle.ts_part.proofs.table.read_table.Given as goal

abbrev pub invariant-loop-i : goal.invariant-loop-i
invariant-loop-i l = HasRead l.file l.count l.i l.start l.places
