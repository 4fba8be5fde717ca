use Rattle.std.proofs.Common.{◌*◌, ◌+◌, refl, ap, slice_index, arith, ◌∙◌}
use Rattle.ts_bits.specs.Ranked.{bits_of_words}
use Rattle.ts_bits.proofs.WordBits.{length-bits_of_words}
use Rattle.ts_bits.proofs.Ranks.{rank-le-length}
use Rattle.ts_bits.proofs.Packing.{begins_none, counted_next, superblock_written, superblock_kept}
use Rattle.ts_bits.proofs.packed.append_superblocks.Goals as goal
use Rattle.ts_bits.proofs.packed.append_superblocks.Goals.{then-k-eq0+in_ok-append_u64, else-k-eq0}

pub loop-k-init : goal.loop-k-init
loop-k-init c = record { total = refl; written = begins_none 8 _ _ }

pub overflow_add-total : goal.overflow_add-total
overflow_add-total c =
    let word = slice_index c.args.words.now in
    let next = counted_next c.args.words.now c.args.len c.loop-k.k c.requires.filled c.requires.clear c.loop-k-test.true (omega (arith, c.type_inv.words c.loop-k.k)) in
    omega (arith, next, rank-le-length (bits_of_words c.args.len word) (64 * (c.loop-k.k + 1)), length-bits_of_words c.args.len word)

pub loop-k-preserved : goal.loop-k-preserved
loop-k-preserved c =
    let word = slice_index c.args.words.now in
    let next = counted_next c.args.words.now c.args.len c.loop-k.k c.requires.filled c.requires.clear c.loop-k-test.true (omega (arith, c.type_inv.words c.loop-k.k)) in
    record {
      total = omega (arith, next);
      written = elim c.if-k-eq0.branch [
        | then-k-eq0+in_ok-append_u64 w ↦
            ap (λ v. v.items) w.into-is
            ∙ superblock_written _ c.loop-k.k _ _ _ _ w.if-k-eq0.true c.loop-k.invariant.written w.in_ok-append_u64.ensures.ok c.loop-k.invariant.total
        | else-k-eq0 w ↦ ap (λ v. v.items) w.into-is ∙ superblock_kept _ c.loop-k.k _ _ w.if-k-eq0.false c.loop-k.invariant.written
      ];
    }
