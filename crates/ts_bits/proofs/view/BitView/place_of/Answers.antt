use Rattle.std.proofs.Common.{◌≡◌, ◌+◌, ◌-◌, length, ap, ◌∙◌, arith}
use Rattle.ts_bits.specs.Rank.{ones}
use Rattle.ts_bits.specs.BitKinds.{before_superblock, before_word}
use Rattle.ts_bits.proofs.Ranks.{rank-le-length, rank_whole}
use Rattle.ts_bits.proofs.Lookups.{holds}
use Rattle.ts_bits.proofs.BitKinds.{said_brackets, first_word, word_of_kind, left_of_kind, bit_of_kind}
use Rattle.ts_bits.proofs.view.BitView.place_of.Goals as goal

pub overflow_sub-total : goal.overflow_sub-total
overflow_sub-total c =
    let h = holds c.args.self.now _ _ _ _ c.self.view_is c.self.invariant.ranked in
    let total = c.self.invariant.counted ∙ ap ones c.self.view_is in
    omega (arith, total, h.len, rank_whole c.args.self.now (length c.args.self.now) (omega arith), rank-le-length c.args.self.now (length c.args.self.now))

pub superblock_of-block-requires : goal.superblock_of-block-requires
superblock_of-block-requires c =
    let h = holds c.args.self.now _ _ _ _ c.self.view_is c.self.invariant.ranked in
    said_brackets c.args.kind _ _ _ _ _ h c.args.n c.args.low c.args.high c.requires.between

pub word_of-k-requires-clause-first : goal.word_of-k-requires-clause-first
word_of-k-requires-clause-first c =
    let h = holds c.args.self.now _ _ _ _ c.self.view_is c.self.invariant.ranked in
    omega (arith, first_word c.args.kind _ _ _ _ _ h c.superblock_of-block.result (omega (arith, h.len)))

pub place_in_word-requires : goal.place_in_word-requires
place_in_word-requires c =
    let h = holds c.args.self.now _ _ _ _ c.self.view_is c.self.invariant.ranked in
    let found = word_of_kind c.args.kind _ _ _ _ _ h c.args.n c.superblock_of-block.result c.word_of-k.result c.requires.some c.superblock_of-block.ensures
    c.word_of-k.ensures.within c.word_of-k.ensures.there (omega arith) (λ m t. let high = c.word_of-k.ensures.high m t in omega arith) in
    let left = left_of_kind c.args.kind _ _ _ _ _ h c.args.n c.word_of-k.result _ c.word.result found c.word_of-k.ensures.within c.word.type_inv c.word.ensures in
    omega arith

pub returns : goal.returns
returns c =
    let p = c.self.inside.parts in
    let h = holds c.args.self.now _ _ _ _ c.self.view_is c.self.invariant.ranked in
    let found = word_of_kind c.args.kind _ _ _ _ _ h c.args.n c.superblock_of-block.result c.word_of-k.result c.requires.some c.superblock_of-block.ensures
    c.word_of-k.ensures.within c.word_of-k.ensures.there (omega arith) (λ m t. let high = c.word_of-k.ensures.high m t in omega arith) in
    let e : c.args.n - c.kind_before_superblock.result - c.kind_before_word.result ≡ c.args.n - (before_superblock c.args.kind p.superblocks.now c.superblock_of-block.result + before_word c.args.kind p.counts.now c.word_of-k.result) = omega arith in
    bit_of_kind c.args.kind _ _ _ _ _ h c.args.n c.word_of-k.result _ c.word.result c.place_in_word.result c.requires.some found c.word_of-k.ensures.within c.word.type_inv c.word.ensures
    c.place_in_word.ensures.within (rw (← e) c.place_in_word.ensures.low) (rw (← e) c.place_in_word.ensures.high)
