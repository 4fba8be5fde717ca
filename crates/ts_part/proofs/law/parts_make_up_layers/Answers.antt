use Rattle.ts_part.proofs.DescentLaws.{found_in, held_is, number_in, number_lies, parts_lead_down, parts_stand}
use Rattle.ts_part.proofs.law.parts_make_up_layers.Goals as goal

pub returns-clause-down : goal.returns-clause-down
returns-clause-down c = λ history parents rolled layer kept are up. parts_lead_down history kept parents rolled are up layer

pub returns-clause-steps : goal.returns-clause-steps
returns-clause-steps c = λ history parents rolled layer kept are up. parts_stand history kept parents rolled are up layer

pub returns-clause-content : goal.returns-clause-content
returns-clause-content c = λ history layer parts triple down. held_is history layer parts down triple

pub returns-clause-terms : goal.returns-clause-terms
returns-clause-terms c = λ history k parts term kept down. found_in history kept parts k down term

pub returns-clause-numbers : goal.returns-clause-numbers
returns-clause-numbers c = λ history k parts kind number kept down positive within.
    let lies = number_lies history kept parts k down kind number positive within in
    (lies.0, lies.1, (lies.2, lies.3))

pub returns-clause-numbered : goal.returns-clause-numbered
returns-clause-numbered c = λ history k parts part kind number kept down there has. number_in history kept parts k down part there kind number has.0 has.1
