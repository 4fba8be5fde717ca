use Rattle.ts_model.specs.declared.term.TermKind.TheVariants.{Node, Value}
use Rattle.ts_chain.specs.Views.{NamesTerm}
use Rattle.ts_chain.proofs.SpelledLists.{both_counted, both_ids, both_named, both_once, nodes_rule, one_number, values_rule}
use Rattle.ts_chain.proofs.SortedTerms.{terms_are}
use Rattle.ts_chain.proofs.spelled.spelled_terms.Goals as goal

pub returns-clause-nodes : goal.returns-clause-nodes
returns-clause-nodes c = λ history k stands.
    nodes_rule (NamesTerm c.args.chain.now) c.args.ids.now _ _ c.in_ok-split.ensures _ _ _ _ _ c.new-spelled_ids.ensures.items c.in_ok-nodes.ensures c.in_ok-values.ensures (one_number history k c.args.chain.now stands)

pub returns-clause-values : goal.returns-clause-values
returns-clause-values c = λ history k stands.
    values_rule (NamesTerm c.args.chain.now) c.args.ids.now _ _ c.in_ok-split.ensures _ _ _ _ _ c.new-spelled_ids.ensures.items c.in_ok-nodes.ensures c.in_ok-values.ensures (one_number history k c.args.chain.now stands)

pub returns-clause-ids : goal.returns-clause-ids
returns-clause-ids c = λ id.
    both_ids (NamesTerm c.args.chain.now) c.args.ids.now _ _ c.in_ok-split.ensures _ _ _ _ _ c.new-spelled_ids.ensures.items c.in_ok-nodes.ensures c.in_ok-values.ensures id

pub returns-clause-once : goal.returns-clause-once
returns-clause-once c =
    both_once (NamesTerm c.args.chain.now) c.args.ids.now _ _ c.in_ok-split.ensures _ _ _ _ _ c.new-spelled_ids.ensures.items c.in_ok-nodes.ensures c.in_ok-values.ensures

pub returns-clause-counted : goal.returns-clause-counted
returns-clause-counted c =
    both_counted (NamesTerm c.args.chain.now) c.args.ids.now _ _ c.in_ok-split.ensures _ _ _ _ _ c.new-spelled_ids.ensures.items c.in_ok-nodes.ensures c.in_ok-values.ensures

pub returns-clause-named : goal.returns-clause-named
returns-clause-named c =
    both_named (NamesTerm c.args.chain.now) c.args.ids.now _ _ c.in_ok-split.ensures _ _ _ _ _ c.new-spelled_ids.ensures.items c.in_ok-nodes.ensures c.in_ok-values.ensures

pub returns-clause-nodes_are : goal.returns-clause-nodes_are
returns-clause-nodes_are c = terms_are (NamesTerm c.args.chain.now) Node _ c.in_ok-split.ensures.nodes_named _ _ _ c.in_ok-nodes.ensures

pub returns-clause-values_are : goal.returns-clause-values_are
returns-clause-values_are c = terms_are (NamesTerm c.args.chain.now) Value _ c.in_ok-split.ensures.values_named _ _ _ c.in_ok-values.ensures
