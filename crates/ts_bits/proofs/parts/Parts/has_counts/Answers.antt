use Rattle.std.proofs.Common.{◌+◌, ◌*◌, ◌<◌, ◌≡◌, length, refl, sym, ◌∙◌, arith}
use Rattle.ts_bits.specs.Rank.{rank}
use Rattle.ts_bits.specs.BitArray.{words_in}
use Rattle.ts_bits.specs.Ranked.{number_in, bits_of_words, Agrees}
use Rattle.ts_bits.proofs.WordBits.{length-bits_of_words, word_at-bits_of_words, rank_next_word}
use Rattle.ts_bits.proofs.Ranks.{rank-le-length}
use Rattle.ts_bits.proofs.Counts.{counts_more, counts_all, agrees_from_counts}
use Rattle.ts_bits.proofs.parts.Parts.has_counts.Goals as goal

pub returns-then-not-agrees_at : goal.returns-then-not-agrees_at
returns-then-not-agrees_at c = (
  λ t. absurd (cc),
  λ has.
      let p = c.args.self.now in
      let h : c.loop-k.k < words_in (length (bits_of_words p.len (number_in 8 p.words.now))) =
      rw (length-bits_of_words p.len (number_in 8 p.words.now)) (omega arith) in
      let agrees = c.agrees_at.ensures.1 (agrees_from_counts (bits_of_words p.len (number_in 8 p.words.now)) _ _ _ _ has h c.loop-k.invariant.total) in
      absurd (cc),
)

pub overflow_add-total : goal.overflow_add-total
overflow_add-total c =
    let p = c.args.self.now in
    let bits = bits_of_words p.len (number_in 8 p.words.now) in
    let is = word_at-bits_of_words p.len (number_in 8 p.words.now) c.loop-k.k (omega arith) (omega arith) c.requires in
    let next = rank_next_word (bits_of_words p.len (number_in 8 p.words.now)) c.word.result c.loop-k.k (c.word.ensures ∙ sym is) in
    let most = rank-le-length (bits_of_words p.len (number_in 8 p.words.now)) (64 * (c.loop-k.k + 1)) in
    let len = length-bits_of_words p.len (number_in 8 p.words.now) in
    omega arith

pub loop-k-preserved : goal.loop-k-preserved
loop-k-preserved c =
    let p = c.args.self.now in
    let is = word_at-bits_of_words p.len (number_in 8 p.words.now) c.loop-k.k (omega arith) (omega arith) c.requires in
    let next = rank_next_word (bits_of_words p.len (number_in 8 p.words.now)) c.word.result c.loop-k.k (c.word.ensures ∙ sym is) in
    let agrees : Agrees p.superblocks.now p.counts.now c.loop-k.k c.loop-k.total = c.agrees_at.ensures.0 (cc) in
    let here : Agrees p.superblocks.now p.counts.now c.loop-k.k (rank (bits_of_words p.len (number_in 8 p.words.now)) (64 * c.loop-k.k)) =
    rw (← c.loop-k.invariant.total) agrees in
    record {
      total = omega arith;
      so_far = counts_more _ _ _ _ c.loop-k.invariant.so_far here;
    }

pub returns : goal.returns
returns c = (
  λ t.
      let p = c.args.self.now in
      let e : c.loop-k.k ≡ words_in (length (bits_of_words p.len (number_in 8 p.words.now))) =
      rw (length-bits_of_words p.len (number_in 8 p.words.now)) (omega arith) in
      counts_all _ _ _ (rw (← e) c.loop-k.invariant.so_far),
  λ has. refl,
)
