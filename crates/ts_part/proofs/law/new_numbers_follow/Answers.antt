use Rattle.ts_part.proofs.NewNumbers.{beyond_is_new, beyond_taken, new_beyond, over_from, totals_rise}
use Rattle.ts_part.proofs.Places.{number-once}
use Rattle.ts_part.proofs.law.new_numbers_follow.Goals as goal

pub returns-clause-new : goal.returns-clause-new
returns-clause-new c = λ history from k term kept under there.
    (new_beyond history kept from k (over_from history kept from k under) term, beyond_is_new history kept from k (over_from history kept from k under) term there)

pub returns-clause-taken : goal.returns-clause-taken
returns-clause-taken c = λ history from k kind number kept under. beyond_taken history kept from k (over_from history kept from k under) kind number

pub returns-clause-once : goal.returns-clause-once
returns-clause-once c = λ history k kind a b kept. number-once history kept k kind a b

pub returns-clause-totals : goal.returns-clause-totals
returns-clause-totals c = λ history from k kind kept under. totals_rise history kept from k (over_from history kept from k under) kind
