use Rattle.std.proofs.Common.{◌∙◌, arith}
use Rattle.ts_bits.specs.Ranked.{number_in, bits_of_words}
use Rattle.ts_bits.proofs.Ranks.{rank_whole}
use Rattle.ts_bits.proofs.WordBits.{length-bits_of_words}
use Rattle.ts_bits.proofs.view.BitView.of_whole.Goals as goal

pub invariant_of-result : goal.invariant_of-result
invariant_of-result c =
    let p = c.args.parts in
    record {
      ranked = c.requires;
      counted = c.rank1-total.ensures
          ∙ rank_whole (bits_of_words p.len (number_in 8 p.words.now)) p.len (omega (arith, length-bits_of_words p.len (number_in 8 p.words.now)));
    }
