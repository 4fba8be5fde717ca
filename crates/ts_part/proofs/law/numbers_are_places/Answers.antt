use Rattle.ts_part.proofs.Places.{length-in_order, number-order, number-place, place_at, place_has}
use Rattle.ts_part.proofs.law.numbers_are_places.Goals as goal

pub returns-clause-place : goal.returns-clause-place
returns-clause-place c = λ history k kind i term kept.
    (λ at. (place_has history kept k kind i term at, number-place history kept k kind i term at), λ h. place_at history kept k kind i term h.0 h.1)

pub returns-clause-as_many : goal.returns-clause-as_many
returns-clause-as_many c = λ history k kind kept. length-in_order history kept k kind

pub returns-clause-order : goal.returns-clause-order
returns-clause-order c = λ history k kind a b kept. number-order history kept k kind a b
