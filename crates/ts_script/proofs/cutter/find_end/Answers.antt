use Rattle.ts_script.proofs.LinesLemmas.{none_before_found, none_found}
use Rattle.ts_script.proofs.cutter.find_end.Goals as goal

pub returns-clause-before : goal.returns-clause-before
returns-clause-before c = none_before_found _ _ c.memchr2.ensures

pub returns-clause-none : goal.returns-clause-none
returns-clause-none c = none_found _ _ c.memchr2.ensures
