use Rattle.ts_idmap.proofs.PermutationLemmas.{LeadsBack}
use Rattle.ts_idmap.proofs.view.are_inverse.Given as goal

abbrev pub invariant-loop-entry : goal.invariant-loop-entry
invariant-loop-entry l = LeadsBack l.numbers l.entries l.entry
