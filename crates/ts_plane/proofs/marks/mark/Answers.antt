use Rattle.ts_plane.proofs.MarkLemmas.{mark_here, marks_stay}
use Rattle.ts_plane.proofs.marks.mark.Goals as goal

pub returns-clause-here : goal.returns-clause-here
returns-clause-here c = mark_here c.args.marks.now.items c.args.i c.index_mut.result.now c.requires

pub returns-clause-others : goal.returns-clause-others
returns-clause-others c = λ k apart. marks_stay c.args.marks.now.items c.args.i c.index_mut.result.now k c.requires c.index_mut.ensures.value apart
