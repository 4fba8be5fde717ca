use Rattle.std.proofs.Common.{ℕ, sym, ap, ◌∙◌, arith}
use Rattle.ts_bits.specs.Rank.{ones}
use Rattle.ts_bits.specs.BitArray.{superblocks_in}
use Rattle.ts_bits.proofs.Lookups.{holds}
use Rattle.ts_bits.proofs.BitKinds.{whole_brackets}
use Rattle.ts_bits.proofs.view.BitView.select1.Goals as goal

pub place_of-requires-clause-between : goal.place_of-requires-clause-between
place_of-requires-clause-between c =
    let h = holds c.args.self.now _ _ _ _ c.self.view_is c.self.invariant.ranked in
    let total = c.self.invariant.counted ∙ ap ones c.self.view_is in
    whole_brackets c.args.self.now c.args.n (omega (arith, total)) c.superblock_count.result
    (c.superblock_count.ensures ∙ ap (λ (m : ℕ). superblocks_in m) (sym h.len))
