use Rattle.std.proofs.Common.{◌≡◌, ◌++◌, All, take}
use Rattle.ts_model.specs.TextTriple.{IsTriple}
use Rattle.ts_plain.specs.PlainFile.{change_lines}
use Rattle.ts_plain.proofs.write.write_changes.Given as goal

abbrev pub invariant-loop-triple : goal.invariant-loop-triple
invariant-loop-triple l = record {
  lines : l.into.items ≡ l.initial.into.items ++ change_lines l.sign (take l.triple-index l.triples);
  terms : All IsTriple (take l.triple-index l.triples);
}
