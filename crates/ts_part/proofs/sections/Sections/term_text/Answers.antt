use Rattle.std.proofs.Common.{sym, arith, ap}
use Rattle.std.proofs.lemmas.Result.{on_ok_weaker}
use Rattle.ts_part.proofs.EntryLemmas.{node_written, value_written}
use Rattle.ts_part.proofs.sections.Sections.term_text.Goals as goal

pub returns-then-entry-self-clause-written : goal.returns-then-entry-self-clause-written
returns-then-entry-self-clause-written c = λ facts tells.
    on_ok_weaker c.entry.result
    (node_written facts c.args.number c.term_entry-entry.result c.nodes.result c.args.into.now.items c.entry.new.into.items tells.says.kinds
    (c.term_entry-entry.ensures.numbered facts tells) (c.nodes.ensures facts tells)
    (let nodes = ap (λ h. h.nodes) tells.headed in omega (arith, nodes, c.if-entry-self.true)))
    c.entry.ensures.written

pub returns-else-entry-self-clause-written : goal.returns-else-entry-self-clause-written
returns-else-entry-self-clause-written c = λ facts tells.
    let nodes = ap (λ h. h.nodes) tells.headed in
    let values = ap (λ h. h.values) tells.headed in
    on_ok_weaker c.entry-else-entry-self.result
    (value_written facts c.args.number c.term_entry-entry.result c.args.self.now.header.now.nodes c.values.result c.args.into.now.items c.entry-else-entry-self.new.into.items
    tells.says.kinds (c.term_entry-entry.ensures.numbered facts tells) (c.values.ensures facts tells) (sym nodes)
    (omega (arith, c.if-entry-self.false)) (omega (arith, nodes, values, c.term_entry-entry.ensures.inside)))
    c.entry-else-entry-self.ensures.written
