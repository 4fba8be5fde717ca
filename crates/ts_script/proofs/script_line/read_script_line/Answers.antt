use Rattle.ts_script.specs.Heads.{AreNoHead}
use Rattle.ts_script.specs.LineWords.{words_in}
use Rattle.ts_script.proofs.ScriptLineLemmas.{no_command}
use Rattle.ts_script.proofs.script_line.read_script_line.Goals as goal

pub returns-clause-line : goal.returns-clause-line
returns-clause-line c = λ bytes seen.
    let none : AreNoHead (words_in c.args.line.now.bytes.now) = rw c.in_default.is at c.in_ok-head.ensures.none in
    no_command bytes c.args.line.now.bytes.now c.args.line.now.too_long c.is_passed_over.result seen c.if-line.false c.if-is_passed_over.false c.is_passed_over.ensures none
