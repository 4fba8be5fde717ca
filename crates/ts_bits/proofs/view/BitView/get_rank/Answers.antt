use Rattle.std.proofs.Common.{◌*◌, ◌/◌, ap, ◌∙◌, arith}
use Rattle.ts_bits.specs.Rank.{rank}
use Rattle.ts_bits.proofs.Ranks.{rank-le-length}
use Rattle.ts_bits.proofs.Lookups.{holds, bit_is}
use Rattle.ts_bits.proofs.BitKinds.{rank_at}
use Rattle.ts_bits.proofs.view.BitView.get_rank.Goals as goal

pub word-word-requires : goal.word-word-requires
word-word-requires c =
    let h = holds c.args.self.now _ _ _ _ c.self.view_is c.self.invariant.ranked in omega (arith, h.len)

pub ones_before-requires-clause-within : goal.ones_before-requires-clause-within
ones_before-requires-clause-within c =
    let h = holds c.args.self.now _ _ _ _ c.self.view_is c.self.invariant.ranked in omega (arith, h.len)

pub overflow_add-before : goal.overflow_add-before
overflow_add-before c =
    let h = holds c.args.self.now _ _ _ _ c.self.view_is c.self.invariant.ranked in
    let before = c.ones_before.ensures ∙ ap (λ bits. rank bits (64 * (c.args.i / 64))) c.self.view_is in
    let is = rank_at _ _ _ _ _ h c.args.i c.word-word.result c.ones_before.result c.requires c.word-word.type_inv c.word-word.ensures before in
    omega (arith, is, rank-le-length c.args.self.now c.args.i, h.len, c.from.ensures)

pub returns-clause-bit : goal.returns-clause-bit
returns-clause-bit c =
    let h = holds c.args.self.now _ _ _ _ c.self.view_is c.self.invariant.ranked in
    bit_is _ _ _ _ _ h c.args.i c.word-word.result c.requires c.word-word.ensures

pub returns-clause-rank : goal.returns-clause-rank
returns-clause-rank c =
    let h = holds c.args.self.now _ _ _ _ c.self.view_is c.self.invariant.ranked in
    let before = c.ones_before.ensures ∙ ap (λ bits. rank bits (64 * (c.args.i / 64))) c.self.view_is in
    let is = rank_at _ _ _ _ _ h c.args.i c.word-word.result c.ones_before.result c.requires c.word-word.type_inv c.word-word.ensures before in
    omega (arith, is, c.from.ensures)
