use Rattle.std.proofs.Common.{rules, ◌≡◌, chars}
use Rattle.ts_model.specs.declared.term.TermKind.TheVariants.{Node, Value}
use Rattle.ts_nt.specs.Parts.{object_kind}
use Rattle.ts_nt.proofs.TripleLaws.{node_kind, value_kind}
use Rattle.ts_nt.proofs.line.object_kind.Goals as goal

pub returns-in-Some-clause-node : goal.returns-in-Some-clause-node
returns-in-Some-clause-node c = λ spelling spells.
    let is : Value ≡ object_kind (chars c.args.text.now) = search (rules) in
    node_kind c.args.text.now Value is spelling spells

pub returns-in-None-clause-value : goal.returns-in-None-clause-value
returns-in-None-clause-value c = λ spelling spells.
    let is : Node ≡ object_kind (chars c.args.text.now) = search (rules) in
    value_kind c.args.text.now Node is spelling spells
