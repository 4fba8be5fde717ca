use Rattle.std.proofs.Common.{◌≡◌, length}
use Rattle.ts_idmap.proofs.PermutationLemmas.{LeadsBack}
use Rattle.ts_idmap.proofs.write.inverse_of.Given as goal

abbrev pub invariant-loop-entry : goal.invariant-loop-entry
invariant-loop-entry l = record {
  many : length l.inverse.items ≡ length l.outer;
  leads : LeadsBack l.outer l.inverse.items l.entry;
}
