use Rattle.std.proofs.Common.{length}
use Rattle.ts_part.proofs.TermLemmas.{AreTerms}
use Rattle.ts_part.proofs.terms.are_terms.Given as goal

abbrev pub invariant-loop-piece : goal.invariant-loop-piece
invariant-loop-piece l = AreTerms l.kind l.texts (length l.yielded) l.text.items
