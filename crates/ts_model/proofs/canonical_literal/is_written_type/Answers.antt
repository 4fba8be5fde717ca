use Rattle.std.proofs.Common.{false}
use Rattle.ts_model.proofs.DelimitedLaws.{answers_false, answers_same}
use Rattle.ts_model.proofs.LiteralLaws.{is_type, same_type, other_type}
use Rattle.ts_model.proofs.canonical_literal.is_written_type.Goals as goal

pub returns-then-ne : goal.returns-then-ne
returns-then-ne c =
    let both = is_type c.args.text.now in
    (λ e. both.0 (other_type _ _ _ c.ne.ensures c.if-ne.true, c.is_iri.ensures.0 e), λ type. c.is_iri.ensures.1 (both.1 type).1)

pub returns-else-ne : goal.returns-else-ne
returns-else-ne c =
    let both = is_type c.args.text.now in
    answers_same _ false c.if-ne.false (answers_false (λ type. (both.1 type).0 (same_type _ _ _ c.ne.ensures c.if-ne.false)))
