use Rattle.ts_squash.proofs.BaseTerms.{base_kept, content_is, parent_is}
use Rattle.ts_squash.proofs.BaseTotals.{totals_fit}
use Rattle.ts_squash.proofs.law.bases_are_kept.Goals as goal

pub returns-clause-kept : goal.returns-clause-kept
returns-clause-kept c = λ history k n kept positive fits fresh. base_kept history kept k n positive fits fresh

pub returns-clause-parent : goal.returns-clause-parent
returns-clause-parent c = λ history k n kept positive fits fresh. parent_is history kept k n positive fits fresh

pub returns-clause-content : goal.returns-clause-content
returns-clause-content c = λ history k n kept positive fits fresh. content_is history kept k n positive fits fresh

pub returns-clause-totals : goal.returns-clause-totals
returns-clause-totals c = λ history k n kept positive fits fresh few. totals_fit history kept k n positive fits fresh few
