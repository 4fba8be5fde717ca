use Rattle.std.proofs.Common.{◌≡◌, [], ◌++◌, ap, sym, ◌∙◌, true≢false}
use Rattle.ts_nt.specs.TripleLine.{triple_line}
use Rattle.ts_plain.proofs.LineLaws.{silent_is_no_line, long_is_no_line, bad_is_no_line, other_is_no_line}
use Rattle.ts_plain.proofs.changes.read_written.Goals as goal

pub returns-in-Ok-None-clause-err : goal.returns-in-Ok-None-clause-err
returns-in-Ok-None-clause-err c = λ e. silent_is_no_line c.args.text.now (rw c.in-Ok-None.field-0-is at c.in-Ok-None.ensures.ok).1

pub returns-in-Err-TooLong-clause-err : goal.returns-in-Err-TooLong-clause-err
returns-in-Err-TooLong-clause-err c = λ e. long_is_no_line c.args.text.now (rw c.in-Err-TooLong.field-0-is at c.in-Err-TooLong.ensures.err)

pub returns-in-Err-Bad-clause-err : goal.returns-in-Err-Bad-clause-err
returns-in-Err-Bad-clause-err c = λ e. bad_is_no_line c.args.text.now (rw c.in-Err-Bad.field-0-is at c.in-Err-Bad.ensures.err)

pub returns-else-is_whole_line-clause-err : goal.returns-else-is_whole_line-clause-err
returns-else-is_whole_line-clause-err c = λ e.
    other_is_no_line c.args.text.now c.in-Ok-Some.signed (rw c.in-Ok-Some.field-0-is at c.in-Ok-Some.ensures.ok) (λ is.
    let old : c.clear.new.self.items ≡ [] = c.clear.ensures.items in
    let written : c.as_slice.result.now ≡ triple_line c.in-Ok-Some.signed.triple = c.as_slice.ensures.value ∙ c.in_ok-write_triple.ensures.ok ∙ ap (λ l. l ++ triple_line c.in-Ok-Some.signed.triple) old in
    true≢false (sym (c.is_whole_line.ensures.1 (written ∙ is)) ∙ c.if-is_whole_line.false))
