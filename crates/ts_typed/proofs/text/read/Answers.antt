use Rattle.std.proofs.Common.{sym, subst, ap, ◌∙◌}
use Rattle.std.specs.Str.{IsUtf8}
use Rattle.std.specs.Str.Parse.{ParsesSigned}
use Rattle.std.specs.Result.{result_ok}
use Rattle.ts_typed.proofs.Decimal.{is_text, read_back}
use Rattle.ts_typed.proofs.text.read.Goals as goal
use mir.Syntax.{w128}

pub returns-in-Ok-clause-read : goal.returns-in-Ok-clause-read
returns-in-Ok-clause-read c = λ number within is.
    c.ok.ensures.value ∙ ap result_ok (read_back number c.parse.result within
    (subst (λ l. ParsesSigned w128 10 l c.parse.result) (c.in-Ok.ensures.cases.0 ∙ is) c.parse.ensures.value.0))

pub returns-in-Err-clause-read : goal.returns-in-Err-clause-read
returns-in-Err-clause-read c = λ number within is.
    absurd (c.in-Err.ensures.cases.0 (subst IsUtf8 (sym is) (is_text number within)))
