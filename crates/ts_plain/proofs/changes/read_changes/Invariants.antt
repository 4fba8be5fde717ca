use Rattle.std.proofs.Common.{◌≡◌, ◌++◌, All, length}
use Rattle.std.specs.List.Sorted.{IsStrictlySortedBy}
use Rattle.ts_model.specs.TextTriple.{IsTriple}
use Rattle.ts_model.specs.Order.{triple_cmp}
use Rattle.ts_plain.specs.PlainFile.{change_lines}
use Rattle.ts_plain.proofs.changes.read_changes.Given as goal

-- what was read is the front of the bytes
abbrev pub invariant-loop-behind : goal.invariant-loop-behind
invariant-loop-behind l = record {
  rise : IsStrictlySortedBy triple_cmp l.triples.items;
  triples : All IsTriple l.triples.items;
  lines : l.bytes ≡ change_lines l.sign l.triples.items ++ l.rest;
}

abbrev pub decreases-loop-behind : goal.decreases-loop-behind
decreases-loop-behind l = length l.rest
