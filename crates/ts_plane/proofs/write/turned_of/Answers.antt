use Rattle.std.proofs.Common.{IsPermutation, map, ap, ◌∙◌, subst, take_all}
use Rattle.ts_plane.proofs.SortedLemmas.{swap, sorted_turned}
use Rattle.ts_plane.proofs.write.turned_of.Goals as goal

pub returns : goal.returns
returns c =
    let all = c.loop-edge.invariant ∙ ap (map swap) (take_all c.loop-edge.edge-index c.args.edges.now c.loop-edge-test.false) in
    sorted_turned c.args.edges.now _ c.requires (subst (λ xs. IsPermutation xs c.sort_unstable.new.self.items) all c.sort_unstable.ensures.permutation) c.sort_unstable.ensures.sorted
