use Rattle.std.proofs.Common.{arith, refl}
use Rattle.ts_log.proofs.ElementLemmas.{shifted_high, across_fits}
use Rattle.ts_log.proofs.packed.across.Goals as goal

pub overflow_add-result : goal.overflow_add-result
overflow_add-result c =
    rw (c.low_bits.ensures, shifted_high c.args.high c.args.offset c.args.rest (omega arith) c.requires.fits)
    (record { fits = across_fits c.args.high c.args.low c.args.offset c.args.rest (omega arith) c.requires.fits c.ranges.low.fits })

pub returns : goal.returns
returns c =
    rw (c.low_bits.ensures, shifted_high c.args.high c.args.offset c.args.rest (omega arith) c.requires.fits) refl
