use Rattle.std.proofs.Common.{ℕ, List, ◌++◌, map, take}
use Rattle.ts_part.specs.Written.{HoldsSections}
use Rattle.ts_part.proofs.write.write_each.Given as goal

abbrev pub invariant-loop-i : goal.invariant-loop-i
invariant-loop-i l = (sections : List (List ℕ)) → HoldsSections l.fn.body sections → HoldsSections l.body (sections ++ map (λ section. section.items) (take l.i l.each))
