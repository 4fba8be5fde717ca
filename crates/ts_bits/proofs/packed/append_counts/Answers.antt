use Rattle.std.proofs.Common.{◌≡◌, refl, sym, slice_index, arith, ◌∙◌}
use Rattle.ts_bits.specs.BitArray.{word_count}
use Rattle.ts_bits.specs.Ranked.{bits_of_words}
use Rattle.ts_bits.proofs.Packing.{begins_none, counted_next, count_first, count_later, count_next, numbers_step}
use Rattle.ts_bits.proofs.packed.append_counts.Goals as goal
use Rattle.ts_bits.proofs.packed.append_counts.Goals.{then-k-eq0, else-k-eq0}

pub loop-k-init : goal.loop-k-init
loop-k-init c = record { inside = refl; written = begins_none 2 _ _ }

pub overflow_add-inside : goal.overflow_add-inside
overflow_add-inside c =
    let bits = bits_of_words c.args.len (slice_index c.args.words.now) in
    let here : c.if-k-eq0.inside ≡ word_count (bits_of_words c.args.len (slice_index c.args.words.now)) c.loop-k.k = elim c.if-k-eq0.branch [
      | then-k-eq0 w ↦ w.inside-is ∙ sym (count_first bits c.loop-k.k w.if-k-eq0.true)
      | else-k-eq0 w ↦ w.inside-is ∙ count_later bits c.loop-k.k c.loop-k.inside w.if-k-eq0.false c.loop-k.invariant.inside
    ] in
    let next = counted_next c.args.words.now c.args.len c.loop-k.k c.requires.filled c.requires.clear c.loop-k-test.true (omega (arith, c.type_inv.words c.loop-k.k)) in
    let sum = count_next bits c.loop-k.k c.if-k-eq0.inside _ here next in
    omega (arith, sum.1)

pub loop-k-preserved : goal.loop-k-preserved
loop-k-preserved c =
    let bits = bits_of_words c.args.len (slice_index c.args.words.now) in
    let here : c.if-k-eq0.inside ≡ word_count (bits_of_words c.args.len (slice_index c.args.words.now)) c.loop-k.k = elim c.if-k-eq0.branch [
      | then-k-eq0 w ↦ w.inside-is ∙ sym (count_first bits c.loop-k.k w.if-k-eq0.true)
      | else-k-eq0 w ↦ w.inside-is ∙ count_later bits c.loop-k.k c.loop-k.inside w.if-k-eq0.false c.loop-k.invariant.inside
    ] in
    let next = counted_next c.args.words.now c.args.len c.loop-k.k c.requires.filled c.requires.clear c.loop-k-test.true (omega (arith, c.type_inv.words c.loop-k.k)) in
    let sum = count_next bits c.loop-k.k c.if-k-eq0.inside _ here next in
    record {
      inside = sum.0;
      written = numbers_step 2 c.loop-k.k (word_count bits) _ _ _ _ c.loop-k.invariant.written c.in_ok-append_u16.ensures.ok here;
    }
