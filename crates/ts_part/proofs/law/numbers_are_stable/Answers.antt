use Rattle.std.proofs.Common.{Some, sym, ◌∙◌}
use Rattle.ts_part.proofs.Births.{over_ancestor}
use Rattle.ts_part.proofs.Later.{birth_stays, has_birth}
use Rattle.ts_part.proofs.Numbered.{number-stays, still_there}
use Rattle.ts_part.proofs.OrderStays.{in_order-goes_on, newer}
use Rattle.ts_part.proofs.law.numbers_are_stable.Goals as goal

pub returns-clause-terms : goal.returns-clause-terms
returns-clause-terms c = λ history k term kept. (λ there. has_birth history kept (Some k) term ∙ there, λ born. sym (has_birth history kept (Some k) term) ∙ born)

pub returns-clause-births : goal.returns-clause-births
returns-clause-births c = λ history a k term kept under. birth_stays history kept (Some a) k (over_ancestor history kept a k under) term

pub returns-clause-numbers : goal.returns-clause-numbers
returns-clause-numbers c = λ history a k term kept under was.
    let over = over_ancestor history kept a k under in
    (still_there history kept (Some a) k over term.kind term was, number-stays history kept a k over term was)

pub returns-clause-order : goal.returns-clause-order
returns-clause-order c = λ history a k kind kept under.
    let over = over_ancestor history kept a k under in
    (newer history kept (Some a) k over kind, in_order-goes_on history kept (Some a) k over kind)
