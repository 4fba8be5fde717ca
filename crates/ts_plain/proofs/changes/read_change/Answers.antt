use Rattle.std.proofs.Common.{sym, ◌∙◌}
use Rattle.std.proofs.lemmas.Result.{err_from_is_err_and}
use Rattle.ts_plain.proofs.EndLaws.{line_text}
use Rattle.ts_plain.proofs.LineLaws.{line_before, line_is_first}
use Rattle.ts_plain.proofs.changes.read_change.Goals as goal

pub returns-in_default-clause-err : goal.returns-in_default-clause-err
returns-in_default-clause-err c = λ e triple rest is_triple is. c.in_default.ensures.none (line_text triple) rest (is ∙ line_before triple rest)

pub returns-in_err-triple-clause-err : goal.returns-in_err-triple-clause-err
returns-in_err-triple-clause-err c =
    let p = err_from_is_err_and c.from_residual.result c.from_residual.ensures.1 in
    rw (p.1, p.2) (λ e triple rest is_triple is.
    c.in_err-triple.ensures.err e triple is_triple
    (line_is_first triple c.in-Some.line.text.now rest c.in-Some.line.rest.now is_triple c.in-Some.ensures.some.0 (sym c.in-Some.ensures.some.1 ∙ is)))

pub returns-in_err-triple-clause-memory : goal.returns-in_err-triple-clause-memory
returns-in_err-triple-clause-memory c =
    let p = err_from_is_err_and c.from_residual.result c.from_residual.ensures.1 in
    rw (p.1, p.2) (λ e. (c.in-Some.line.text.now, c.in-Some.line.rest.now, c.in-Some.ensures.some.1))
