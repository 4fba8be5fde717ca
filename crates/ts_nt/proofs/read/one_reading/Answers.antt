use Rattle.std.proofs.Common.{chars, []}
use Rattle.ts_nt.proofs.ScalarLaws.{All-chars}
use Rattle.ts_nt.proofs.TermLaws.{term_once, term_canonical}
use Rattle.ts_nt.proofs.TripleLaws.{text_once, silent_is_none}
use Rattle.ts_nt.proofs.read.one_reading.Goals as goal

pub returns-clause-once : goal.returns-clause-once
returns-clause-once c = λ line a b f g one other. text_once (chars line) a b f g one.1 other.1

pub returns-clause-silent : goal.returns-clause-silent
returns-clause-silent c = λ line sign triple silent spells. silent_is_none (chars line) silent.1 sign triple spells.1

pub returns-clause-term : goal.returns-clause-term
returns-clause-term c = λ bytes kind a b one other. (term_once kind (chars bytes) a b [] [] one.1 other.1).0

pub returns-clause-canonical : goal.returns-clause-canonical
returns-clause-canonical c = λ bytes spelling kind spells. (term_canonical kind (chars bytes) spelling [] (All-chars bytes spells.0) spells.1).0
