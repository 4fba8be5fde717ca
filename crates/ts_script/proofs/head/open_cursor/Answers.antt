use Rattle.ts_model.specs.declared.pattern.Pattern.{Pattern}
use Rattle.ts_script.specs.Words.{SpellPattern}
use Rattle.ts_script.proofs.HeadLemmas.{no_pattern}
use Rattle.ts_script.proofs.head.open_cursor.Goals as goal

pub returns-in_default-2-clause-none : goal.returns-in_default-2-clause-none
returns-in_default-2-clause-none c = λ head named.
    let none : (pattern : Pattern) → SpellPattern c.args.subject.now c.args.predicate.now c.args.object.now pattern → ⊥ = rw c.in_default-2.is at c.in_ok-pattern.ensures.none in
    no_pattern _ c.args.at.now c.args.subject.now c.args.predicate.now c.args.object.now none head
