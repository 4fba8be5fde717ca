use Rattle.std.proofs.Common.{◌<◌, ◌+◌, arith, length, ap}
use Rattle.std.proofs.lemmas.Bool.{lt-ltb, ltb-true}
use Rattle.ts_part.proofs.EntryLemmas.{is_node, node_is}
use Rattle.ts_part.proofs.sections.Sections.is_node.Goals as goal

pub returns : goal.returns
returns c = λ facts tells.
    let nodes = ap (λ h. h.nodes) tells.headed in
    let values = ap (λ h. h.values) tells.headed in
    let numbered = c.term_entry.ensures.numbered facts tells in
    let within : c.term_entry.result < length facts.nodes + length facts.values = omega (arith, nodes, values, c.term_entry.ensures.inside) in (
      λ test. is_node facts c.args.number c.term_entry.result tells.says.kinds numbered
          (omega (arith, nodes, ltb-true c.term_entry.result c.args.self.now.header.now.nodes test)),
      λ is. lt-ltb c.term_entry.result c.args.self.now.header.now.nodes
          (omega (arith, nodes, node_is facts c.args.number c.term_entry.result tells.says.kinds tells.lists.maps numbered within is)),
    )
