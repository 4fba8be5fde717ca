use Rattle.std.proofs.Common.{◌*◌, arith}
use Rattle.ts_bits.proofs.Lookups.{holds}
use Rattle.ts_bits.proofs.BitKinds.{word_in, word_kind, kind-le, bit_of_kind}
use Rattle.ts_bits.proofs.view.BitView.place_at.Goals as goal

pub word-word-requires : goal.word-word-requires
word-word-requires c =
    let h = holds c.args.self.now _ _ _ _ c.self.view_is c.self.invariant.ranked in
    omega (arith, h.len, c.requires.within)

pub kind_before_superblock-block-requires : goal.kind_before_superblock-block-requires
kind_before_superblock-block-requires c =
    let h = holds c.args.self.now _ _ _ _ c.self.view_is c.self.invariant.ranked in
    omega (arith, h.len, c.requires.within)

pub kind_before_word-requires : goal.kind_before_word-requires
kind_before_word-requires c =
    let h = holds c.args.self.now _ _ _ _ c.self.view_is c.self.invariant.ranked in
    omega (arith, h.len, c.requires.within)

pub overflow_add-before : goal.overflow_add-before
overflow_add-before c =
    let h = holds c.args.self.now _ _ _ _ c.self.view_is c.self.invariant.ranked in
    omega (arith, h.len, c.requires.within, word_kind c.args.kind _ _ _ _ _ h c.args.k c.requires.within, kind-le c.args.kind c.args.self.now (64 * c.args.k))

pub overflow_mul-result : goal.overflow_mul-result
overflow_mul-result c =
    let h = holds c.args.self.now _ _ _ _ c.self.view_is c.self.invariant.ranked in
    omega (arith, h.len, c.requires.within)

pub overflow_add-result : goal.overflow_add-result
overflow_add-result c =
    let h = holds c.args.self.now _ _ _ _ c.self.view_is c.self.invariant.ranked in
    omega (arith, h.len, c.requires.within)

pub returns : goal.returns
returns c =
    let h = holds c.args.self.now _ _ _ _ c.self.view_is c.self.invariant.ranked in
    let found = word_in c.args.kind _ _ _ _ _ h c.args.n c.args.k _ c.word-word.result (omega (arith, h.len)) c.word-word.type_inv c.word-word.ensures (omega arith) (omega arith) (omega arith) in
    bit_of_kind c.args.kind _ _ _ _ _ h c.args.n c.args.k _ c.word-word.result c.place_in_word.result c.requires.some found (omega (arith, h.len)) c.word-word.type_inv c.word-word.ensures
    c.place_in_word.ensures.within c.place_in_word.ensures.low c.place_in_word.ensures.high
