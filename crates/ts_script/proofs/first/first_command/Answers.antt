use Rattle.std.proofs.Common.{map, string_bytes}
use Rattle.ts_script.specs.Heads.{AreNoHead}
use Rattle.ts_script.specs.declared.head.Head.TheVariants.{Awaits}
use Rattle.ts_script.proofs.first.first_command.Goals as goal

pub returns-in-None-clause-all : goal.returns-in-None-clause-all
returns-in-None-clause-all g c = λ told awaits.
    let none : AreNoHead (map string_bytes c.args.words.now) = rw c.in-None.is at c.in_ok-head_of_words.ensures.none in
    absurd (none (Awaits awaits.0) awaits.1)

pub returns-in-None-clause-short : goal.returns-in-None-clause-short
returns-in-None-clause-short g c = λ told awaits.
    let none : AreNoHead (map string_bytes c.args.words.now) = rw c.in-None.is at c.in_ok-head_of_words.ensures.none in
    absurd (none (Awaits awaits.0) awaits.1)
