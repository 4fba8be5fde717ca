use Rattle.std.proofs.Common.{◌∙◌, true≢false, sym}
use Rattle.ts_chain.proofs.EntryKinds.{node_kind, value_kind}
use Rattle.ts_chain.proofs.spelled.kind_of.Goals as goal

pub returns-then-is_node : goal.returns-then-is_node
returns-then-is_node c = λ term has. node_kind c.args.part.now.facts c.requires.rules c.args.id term (c.is_node.ensures.0 c.if-is_node.true) has

pub returns-else-is_node : goal.returns-else-is_node
returns-else-is_node c = λ term has. value_kind c.args.part.now.facts c.requires.rules c.args.id term (λ node. true≢false (sym (c.is_node.ensures.1 node) ∙ c.if-is_node.false)) has
