use Rattle.std.proofs.Common.{◌≡◌, ◌+◌, take, [], inl, inr, subst, sym, ◌∙◌}
use Rattle.ts_model.specs.declared.term.TermKind.TheVariants.{Value}
use Rattle.ts_chain.specs.Entries.{AreSplit}
use Rattle.ts_chain.specs.Views.{NamesTerm}
use Rattle.ts_chain.proofs.EntrySplits.{none_split, turn_node, turn_value}
use Rattle.ts_chain.proofs.spelled.split_terms.Goals.{in-Node+in_ok-push-in-Node, in_default+in_ok-push-in_default}
use Rattle.ts_chain.proofs.spelled.split_terms.Goals as goal

pub loop-id-init : goal.loop-id-init
loop-id-init c =
    subst (λ l. AreSplit (NamesTerm c.args.chain.now) [] l c.new-2.result.items) (sym c.new.ensures.items)
    (subst (AreSplit (NamesTerm c.args.chain.now) [] []) (sym c.new-2.ensures.items) (none_split (NamesTerm c.args.chain.now)))

pub loop-id-preserved : goal.loop-id-preserved
loop-id-preserved c =
    elim c.match-kind.branch [
      | in-Node+in_ok-push-in-Node w ↦
          subst (λ split. AreSplit (NamesTerm c.args.chain.now) (take (c.loop-id.id-index + 1) c.args.ids.now) split.nodes.items split.values.items) (sym w.split-is)
          (subst (λ nodes. AreSplit (NamesTerm c.args.chain.now) (take (c.loop-id.id-index + 1) c.args.ids.now) nodes c.loop-id.split.values.items) (sym w.in_ok-push-in-Node.ensures.items)
          (turn_node (NamesTerm c.args.chain.now) c.args.ids.now c.loop-id.id-index 0 c.requires.rise c.loop-id-test.true c.loop-id.split.nodes.items c.loop-id.split.values.items c.loop-id.invariant
          c.in_ok-entry.entry c.in_ok-entry.ensures.0 (sym c.kind.ensures ∙ w.in-Node.is)))
      | in_default+in_ok-push-in_default w ↦
          subst (λ split. AreSplit (NamesTerm c.args.chain.now) (take (c.loop-id.id-index + 1) c.args.ids.now) split.nodes.items split.values.items) (sym w.split-is)
          (subst (λ values. AreSplit (NamesTerm c.args.chain.now) (take (c.loop-id.id-index + 1) c.args.ids.now) c.loop-id.split.nodes.items values) (sym w.in_ok-push-in_default.ensures.items)
          (turn_value (NamesTerm c.args.chain.now) c.args.ids.now c.loop-id.id-index 0 c.requires.rise c.loop-id-test.true c.loop-id.split.nodes.items c.loop-id.split.values.items c.loop-id.invariant
          c.in_ok-entry.entry c.in_ok-entry.ensures.0
          (elim c.in_ok-entry.ensures.1 as (λ _. c.in_ok-entry.entry.term.kind ≡ Value) [ inl node ↦ absurd (w.in_default.not-Node (c.kind.ensures ∙ node)) | inr value ↦ value ])))
    ]
