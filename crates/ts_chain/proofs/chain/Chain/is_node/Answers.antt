use Rattle.ts_chain.proofs.Naming.{node_named}
use Rattle.ts_chain.proofs.NamesAtLayers.{node_at}
use Rattle.ts_chain.proofs.chain.Chain.is_node.Goals as goal

pub returns-clause-node : goal.returns-clause-node
returns-clause-node c =
    let named = node_named c.args.self.now c.part_of.ensures.chain c.part_of.result.now.facts c.args.id c.part_of.ensures.part in
    (λ is. named.0 (c.is_node.ensures.0 is), λ node. c.is_node.ensures.1 (named.1 node))

pub returns-clause-at : goal.returns-clause-at
returns-clause-at c = λ history k stands.
    let named = node_named c.args.self.now c.part_of.ensures.chain c.part_of.result.now.facts c.args.id c.part_of.ensures.part in
    let there = node_at history k c.args.self.now c.args.id stands in
    (λ is. there.0 (named.0 (c.is_node.ensures.0 is)), λ node. c.is_node.ensures.1 (named.1 (there.1 node)))
