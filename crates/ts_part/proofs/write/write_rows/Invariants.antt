use Rattle.std.proofs.Common.{◌≡◌, ℕ, List, map, length}
use Rattle.ts_part.proofs.WriteLemmas.{IsWriting}
use Rattle.ts_part.proofs.write.write_rows.Given as goal

abbrev pub invariant-loop-i : goal.invariant-loop-i
invariant-loop-i l = (sections : List (List ℕ)) → l.sizes ≡ map length sections → IsWriting sections l.start l.fn.file.items l.file.items l.i l.at
