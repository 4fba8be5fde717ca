use Rattle.std.proofs.Common.{slice_index, arith}
use Rattle.std.proofs.lemmas.Result.{on_ok_weaker}
use Rattle.ts_bits.proofs.Packing.{written_array, array_says}
use Rattle.ts_bits.proofs.packed.append_array.Goals as goal

pub returns-clause-ok : goal.returns-clause-ok
returns-clause-ok c =
    on_ok_weaker c.append_zeros.result
    (written_array c.args.words.now c.args.len _ _ _ _ _ _ c.requires.filled c.requires.clear (λ k. omega (arith, c.type_inv.words k))
    c.in_ok-append_u64.ensures.ok c.in_ok-append_words.ensures.ok c.in_ok-append_superblocks.ensures.ok c.in_ok-append_counts.ensures.ok)
    c.append_zeros.ensures.ok

pub returns-clause-said : goal.returns-clause-said
returns-clause-said c =
    on_ok_weaker c.append_zeros.result (λ _. array_says c.args.len (slice_index c.args.words.now) (omega arith)) c.append_zeros.ensures.ok
