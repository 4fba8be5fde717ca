use Rattle.std.proofs.Common.{Option}
use Rattle.ts_model.specs.TextTerm.{TextTerm}
use Rattle.ts_script.specs.Words.{IsPartWord, IsNodeKind, IsPredicateKind}
use Rattle.ts_script.proofs.words.read_pattern.Goals as goal

pub returns-in_default-clause-none : goal.returns-in_default-clause-none
returns-in_default-clause-none c = λ pattern is.
    let none : (part : Option TextTerm) → IsPartWord IsNodeKind c.args.subject.now part → ⊥ = rw c.in_default.is at c.in_ok-subject.ensures.none in
    none pattern.subject is.subject

pub returns-in_default-2-clause-none : goal.returns-in_default-2-clause-none
returns-in_default-2-clause-none c = λ pattern is.
    let none : (part : Option TextTerm) → IsPartWord IsPredicateKind c.args.predicate.now part → ⊥ = rw c.in_default-2.is at c.in_ok-predicate.ensures.none in
    none pattern.predicate is.predicate
