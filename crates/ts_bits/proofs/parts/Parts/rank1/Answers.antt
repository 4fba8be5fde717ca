use Rattle.std.proofs.Common.{refl, arith}
use Rattle.ts_bits.specs.Ranked.{number_in, bits_of_words}
use Rattle.ts_bits.proofs.Ranks.{rank-le}
use Rattle.ts_bits.proofs.Lookups.{holds, rank_is}
use Rattle.ts_bits.proofs.parts.Parts.rank1.Goals as goal

pub overflow_add-result : goal.overflow_add-result
overflow_add-result c =
    let p = c.args.self.now in
    let h = holds (bits_of_words p.len (number_in 8 p.words.now)) _ _ _ _ refl c.requires.ranked in
    let is = rank_is _ _ _ _ _ h c.args.i c.word.result c.ones_before.result (omega arith) (omega (arith, h.len)) c.word.type_inv c.word.ensures c.ones_before.ensures in
    omega (arith, is, rank-le (bits_of_words p.len (number_in 8 p.words.now)) c.args.i, c.from.ensures)

pub returns : goal.returns
returns c =
    let p = c.args.self.now in
    let h = holds (bits_of_words p.len (number_in 8 p.words.now)) _ _ _ _ refl c.requires.ranked in
    let is = rank_is _ _ _ _ _ h c.args.i c.word.result c.ones_before.result (omega arith) (omega (arith, h.len)) c.word.type_inv c.word.ensures c.ones_before.ensures in
    omega (arith, is, c.from.ensures)
