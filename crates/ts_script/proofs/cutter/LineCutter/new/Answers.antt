use Rattle.ts_script.proofs.LinesLemmas.{lines_behind-fresh}
use Rattle.ts_script.proofs.cutter.LineCutter.new.Goals as goal

pub returns-clause-lines : goal.returns-clause-lines
returns-clause-lines c = λ left. lines_behind-fresh c.in_ok-with_capacity.field-0.items left
