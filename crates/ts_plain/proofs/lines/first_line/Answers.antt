use Rattle.ts_plain.proofs.CutLaws.{cut_at, no_cut}
use Rattle.ts_plain.proofs.lines.first_line.Goals as goal

pub returns-in_err-end-clause-none : goal.returns-in_err-end-clause-none
returns-in_err-end-clause-none c = rw c.from_residual.ensures (no_cut c.args.bytes.now c.in_err-end.ensures)

pub returns-clause-some : goal.returns-clause-some
returns-clause-some c = cut_at c.args.bytes.now c.in_ok-end.end c.in_ok-end.ensures
