use Rattle.std.proofs.Common.{◌*◌, refl, arith}
use Rattle.ts_bits.specs.Ranked.{number_in, bits_of_words}
use Rattle.ts_bits.proofs.Ranks.{rank-le-length}
use Rattle.ts_bits.proofs.Lookups.{holds, ones_before_is}
use Rattle.ts_bits.proofs.parts.Parts.ones_before.Goals as goal

pub overflow_add-result : goal.overflow_add-result
overflow_add-result c =
    let p = c.args.self.now in
    let h = holds (bits_of_words p.len (number_in 8 p.words.now)) _ _ _ _ refl c.requires.ranked in
    let is = ones_before_is _ _ _ _ _ h c.args.k (omega (arith, h.len)) in
    omega (arith, is, rank-le-length (bits_of_words p.len (number_in 8 p.words.now)) (64 * c.args.k), h.len, p.len_fits, c.superblock.ensures, c.count.ensures, c.from.ensures)

pub returns : goal.returns
returns c =
    let p = c.args.self.now in
    let h = holds (bits_of_words p.len (number_in 8 p.words.now)) _ _ _ _ refl c.requires.ranked in
    let is = ones_before_is _ _ _ _ _ h c.args.k (omega (arith, h.len)) in
    omega (arith, is, c.superblock.ensures, c.count.ensures, c.from.ensures)
