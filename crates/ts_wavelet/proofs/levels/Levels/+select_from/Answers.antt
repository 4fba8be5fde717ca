use Rattle.std.proofs.Common.{◌+◌, ◌-◌, ◌/◌, ◌^◌, ap, arith}
use Rattle.ts_wavelet.specs.Nodes.{tops_in, IsNode}
use Rattle.ts_wavelet.specs.Sequence.{occurrences}
use Rattle.ts_wavelet.proofs.Trees.{tree_of_bits, length-tops}
use Rattle.ts_wavelet.proofs.Descents.{leaf_node, node_end, next_node, select_back, select_some}
use Rattle.ts_wavelet.proofs.levels.Levels.+select_from.Goals as goal

pub returns-then-n-end-clause-fewer : goal.returns-then-n-end-clause-fewer
returns-then-n-end-clause-fewer t c =
    let v = c.args.self.now in
    let leaf = leaf_node (tops_in v.len v.bits v.width) (v.width - c.args.l) c.args.p c.args.start c.args.end (omega arith) c.requires.node in
    omega (arith, leaf, ap (occurrences (tops_in v.len v.bits v.width) c.args.p) (length-tops v.len v.bits v.width))

pub returns-else-n-end-clause-none : goal.returns-else-n-end-clause-none
returns-else-n-end-clause-none t c =
    let v = c.args.self.now in
    let leaf = leaf_node (tops_in v.len v.bits v.width) (v.width - c.args.l) c.args.p c.args.start c.args.end (omega arith) c.requires.node in
    omega (arith, leaf, ap (occurrences (tops_in v.len v.bits v.width) c.args.p) (length-tops v.len v.bits v.width))

pub step-next-requires-clause-within : goal.step-next-requires-clause-within
step-next-requires-clause-within t c =
    let v = c.args.self.now in
    omega (arith, node_end _ _ _ _ _ c.requires.node, length-tops v.len v.bits v.width)

pub select_from-requires : goal.select_from-requires
select_from-requires t c =
    let v = c.args.self.now in
    let tree = tree_of_bits v.width v.bits v.len v.whole in
    let node : IsNode (tops_in v.len v.bits v.width) (v.width - (c.args.l + 1)) (c.args.p / 2 ^ (v.width - (c.args.l + 1))) c.step-next.result.start c.step-next.result.end =
    next_node (tops_in v.len v.bits v.width) (v.width - c.args.l) (v.width - (c.args.l + 1)) c.args.p c.args.start c.args.end c.step-next.result.start c.step-next.result.end c.step-next.result.place c.digit-digit.result (omega arith) c.digit-digit.ensures c.requires.node
    (λ j spot. c.step-next.ensures (tops_in v.len v.bits v.width) (c.args.p / 2 ^ (v.width - c.args.l)) j tree (length-tops v.len v.bits v.width) spot) in
    (omega arith, (omega arith, node))

pub back-requires-clause-within : goal.back-requires-clause-within
back-requires-clause-within t c =
    let v = c.args.self.now in
    omega (arith, node_end _ _ _ _ _ c.requires.node, length-tops v.len v.bits v.width)

pub back-requires-clause-some : goal.back-requires-clause-some
back-requires-clause-some t c =
    let v = c.args.self.now in
    let tree = tree_of_bits v.width v.bits v.len v.whole in
    select_some v.width v.bits (tops_in v.len v.bits v.width) tree v.len (v.width - c.args.l) (v.width - (c.args.l + 1)) c.args.l c.args.p c.args.n c.args.start c.args.end c.in_ok-inner.inner c.digit-digit.result
    (length-tops v.len v.bits v.width) (omega arith) (omega arith) c.requires.node c.digit-digit.ensures c.in_ok-inner.ensures.some c.in_ok-inner.ensures.fewer

pub returns-clause-some : goal.returns-clause-some
returns-clause-some t c =
    let v = c.args.self.now in
    let tree = tree_of_bits v.width v.bits v.len v.whole in
    select_back v.width v.bits (tops_in v.len v.bits v.width) tree v.len (v.width - c.args.l) (v.width - (c.args.l + 1)) c.args.l c.args.p c.args.n c.args.start c.args.end c.in_ok-inner.inner c.back.result c.digit-digit.result
    (length-tops v.len v.bits v.width) (omega arith) (omega arith) c.requires.node c.digit-digit.ensures c.in_ok-inner.ensures.some c.back.ensures

pub ones_before-before-requires-clause-within : goal.ones_before-before-requires-clause-within
ones_before-before-requires-clause-within t c =
    let v = c.args.self.now in
    omega (arith, node_end _ _ _ _ _ c.requires.node, c.requires.node.ends, length-tops v.len v.bits v.width)
