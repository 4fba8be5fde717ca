use Rattle.ts_model.specs.declared.term.TermKind.TheVariants.{Node}
use Rattle.ts_model.specs.TextTerm.{TextTerm}
use Rattle.ts_chain.specs.Views.{IsTermId}
use Rattle.ts_chain.proofs.Naming.{term_id}
use Rattle.ts_chain.proofs.Seeking.{each_told, told_at}
use Rattle.ts_chain.proofs.chain.Chain.node_id.Goals as goal

pub returns-clause-within : goal.returns-clause-within
returns-clause-within c =
    let term : TextTerm = record { kind = Node; spelling = c.args.spelling.now } in
    each_told c.args.self.now term c.id_of.result (IsTermId c.args.self.now)
    (λ part id among new. term_id c.args.self.now c.id_of.ensures.chain part id term among new) c.id_of.ensures.found

pub returns-clause-at : goal.returns-clause-at
returns-clause-at c = λ history k stands.
    let term : TextTerm = record { kind = Node; spelling = c.args.spelling.now } in
    told_at c.args.self.now term history k c.id_of.result stands c.id_of.ensures.found c.id_of.ensures.absent
