use Rattle.std.proofs.Common.{refl, slice_index}
use Rattle.ts_bits.proofs.Packing.{begins_none, numbers_step}
use Rattle.ts_bits.proofs.packed.append_words.Goals as goal

pub loop-word-init : goal.loop-word-init
loop-word-init c = begins_none 8 _ _

pub loop-word-preserved : goal.loop-word-preserved
loop-word-preserved c = numbers_step 8 c.loop-word.word-index (slice_index c.args.words.now) _ _ _ _ c.loop-word.invariant c.in_ok-append_u64.ensures.ok refl
