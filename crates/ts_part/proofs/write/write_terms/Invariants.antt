use Rattle.std.proofs.Common.{◌≡◌, take, Some}
use Rattle.ts_part.specs.Facts.{spellings}
use Rattle.ts_part.proofs.write.write_terms.Given as goal

abbrev pub invariant-loop-i : goal.invariant-loop-i
invariant-loop-i l = l.builder ≡ Some (spellings (take l.i l.terms))
