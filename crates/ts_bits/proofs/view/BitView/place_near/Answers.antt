use Rattle.std.proofs.Common.{◌≡◌, ℕ, length, ap, subst, arith}
use Rattle.ts_bits.specs.BitArray.{superblocks_in}
use Rattle.ts_bits.specs.BitKinds.{before_superblock, Brackets}
use Rattle.ts_bits.proofs.Lookups.{holds}
use Rattle.ts_bits.proofs.BitKinds.{kind_some, kind_brackets, said_brackets, held_brackets}
use Rattle.ts_bits.proofs.view.BitView.place_near.Goals as goal

pub overflow_sub-self-inside : goal.overflow_sub-self-inside
overflow_sub-self-inside c =
    let h = holds c.args.self.now _ _ _ _ c.self.view_is c.self.invariant.ranked in
    omega (arith, h.len, kind_some c.args.kind c.args.self.now c.args.n c.requires)

pub place_at-requires-clause-within : goal.place_at-requires-clause-within
place_at-requires-clause-within c =
    let h = holds c.args.self.now _ _ _ _ c.self.view_is c.self.invariant.ranked in
    omega (arith, h.len, kind_some c.args.kind c.args.self.now c.args.n c.requires, c.min-near.ensures)

pub around-low-requires-clause-near : goal.around-low-requires-clause-near
around-low-requires-clause-near c =
    let h = holds c.args.self.now _ _ _ _ c.self.view_is c.self.invariant.ranked in
    omega (arith, h.len, kind_some c.args.kind c.args.self.now c.args.n c.requires, c.min-near.ensures)

pub around-low-requires-clause-all : goal.around-low-requires-clause-all
around-low-requires-clause-all c =
    let h = holds c.args.self.now _ _ _ _ c.self.view_is c.self.invariant.ranked in
    let end : superblocks_in (length c.args.self.now) ≡ superblocks_in c.self.inside.parts.len = ap (λ (m : ℕ). superblocks_in m) h.len in
    subst (λ (high : ℕ). Brackets (before_superblock c.args.kind c.self.inside.parts.superblocks.now) (superblocks_in c.self.inside.parts.len) c.args.n 0 high) end
    (said_brackets c.args.kind _ _ _ _ _ h c.args.n 0 (superblocks_in (length c.args.self.now)) (kind_brackets c.args.kind c.args.self.now c.args.n c.requires))

pub place_of-requires-clause-between : goal.place_of-requires-clause-between
place_of-requires-clause-between c =
    let h = holds c.args.self.now _ _ _ _ c.self.view_is c.self.invariant.ranked in
    held_brackets c.args.kind _ _ _ _ _ h c.args.n c.around-low.result.0 c.around-low.result.1 c.around-low.ensures
