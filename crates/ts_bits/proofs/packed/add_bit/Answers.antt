use Rattle.std.proofs.Common.{arith, ◌∙◌}
use Rattle.ts_bits.proofs.Packing.{bool_byte-digit, packed_set, packed_push, packed_bits, packed_clear}
use Rattle.ts_bits.proofs.packed.add_bit.Goals as goal

pub returns-then-last-len-clause-clear : goal.returns-then-last-len-clause-clear
returns-then-last-len-clause-clear c =
    packed_clear c.args.len c.args.bit _ _
    (packed_set c.args.words.now.items c.args.len c.from.result c.index_mut.result.now c.args.bit (omega arith) c.requires.clear (omega arith) c.index_mut.ensures.value (c.from.ensures ∙ bool_byte-digit c.args.bit))

pub returns-then-last-len-clause-bits : goal.returns-then-last-len-clause-bits
returns-then-last-len-clause-bits c =
    packed_bits c.args.len c.args.bit _ _
    (packed_set c.args.words.now.items c.args.len c.from.result c.index_mut.result.now c.args.bit (omega arith) c.requires.clear (omega arith) c.index_mut.ensures.value (c.from.ensures ∙ bool_byte-digit c.args.bit))

pub returns-in_ok-push-clause-bits : goal.returns-in_ok-push-clause-bits
returns-in_ok-push-clause-bits c =
    rw c.in_ok-push.ensures.items
    (packed_bits c.args.len c.args.bit _ _ (packed_push c.args.words.now.items c.args.len c.from.result c.args.bit (omega arith) (omega arith) (c.from.ensures ∙ bool_byte-digit c.args.bit)))
