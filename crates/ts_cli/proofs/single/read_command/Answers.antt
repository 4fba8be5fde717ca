use Rattle.std.proofs.Common.{inr, map, refl, string_bytes, subst}
use Rattle.ts_script.specs.Commands.{IsStopFor}
use Rattle.ts_cli.proofs.InputLemmas.{asks_of}
use Rattle.ts_cli.proofs.SingleLaws.{awaits_none, terms_none}
use Rattle.ts_cli.proofs.single.read_command.Goals as goal

pub returns-in-Ok-Some-clause-asks : goal.returns-in-Ok-Some-clause-asks
returns-in-Ok-Some-clause-asks g c =
    asks_of (map string_bytes c.args.words.now) (g.S.Source.tells c.first_command.new.input) (g.S.Source.left c.args.input.now) c.in-Ok-Some.command
    (rw c.in-Ok-Some.field-0-is at c.in-Ok-Some.ensures.some) (λ told. rw c.in-Ok-Some.field-0-is at (c.in-Ok-Some.ensures.command told))

pub returns-in-Ok-Some-clause-no_command : goal.returns-in-Ok-Some-clause-no_command
returns-in-Ok-Some-clause-no_command g c = λ none.
    let some = rw c.in-Ok-Some.field-0-is at c.in-Ok-Some.ensures.some in
    absurd (none some.1.0 some.1.1)

pub returns-in-Err-Fault-clause-no_command : goal.returns-in-Err-Fault-clause-no_command
returns-in-Err-Fault-clause-no_command g c = λ none.
    let words = map string_bytes c.args.words.now in
    absurd (awaits_none words none (subst (IsStopFor words) c.in-Err-Fault.field-0-is c.in-Err-Fault.ensures.stops))

pub returns-in-Err-Limit-clause-no_command : goal.returns-in-Err-Limit-clause-no_command
returns-in-Err-Limit-clause-no_command g c = λ none.
    let words = map string_bytes c.args.words.now in
    absurd (awaits_none words none (subst (IsStopFor words) c.in-Err-Limit.field-0-is c.in-Err-Limit.ensures.stops))

pub returns-in-Err-Memory-clause-no_command : goal.returns-in-Err-Memory-clause-no_command
returns-in-Err-Memory-clause-no_command g c = λ none.
    let words = map string_bytes c.args.words.now in
    inr (refl, terms_none words none (subst (IsStopFor words) c.in-Err-Memory.field-0-is c.in-Err-Memory.ensures.stops))
