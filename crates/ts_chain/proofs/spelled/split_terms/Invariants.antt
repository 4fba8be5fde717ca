use Rattle.std.proofs.Common.{take}
use Rattle.ts_chain.specs.Entries.{AreSplit}
use Rattle.ts_chain.specs.Views.{NamesTerm}
use Rattle.ts_chain.proofs.spelled.split_terms.Given as goal

abbrev pub invariant-loop-id : goal.invariant-loop-id
invariant-loop-id l = AreSplit (NamesTerm l.chain) (take l.id-index l.ids) l.split.nodes.items l.split.values.items
