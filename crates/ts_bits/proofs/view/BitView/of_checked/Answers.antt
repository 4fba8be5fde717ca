use Rattle.std.proofs.Common.{sym, subst, ◌∙◌}
use Rattle.ts_bits.specs.BitArray.{BitsSay}
use Rattle.ts_bits.proofs.Lookups.{whole_from_says}
use Rattle.ts_bits.proofs.view.BitView.of_checked.Goals as goal

pub of_whole-requires : goal.of_whole-requires
of_whole-requires c = (whole_from_says _ c.requires.0 _ _ _ _ _ c.in-Some.ensures.some c.requires.1).0.ranked

pub returns-clause-says : goal.returns-clause-says
returns-clause-says c =
    subst (λ bits. BitsSay c.args.bytes.now bits)
    (sym (c.of_whole.ensures ∙ (whole_from_says _ c.requires.0 _ _ _ _ _ c.in-Some.ensures.some c.requires.1).1)) c.requires.1

pub returns-clause-only : goal.returns-clause-only
returns-clause-only c = λ others says.
    sym (c.of_whole.ensures ∙ (whole_from_says _ others _ _ _ _ _ c.in-Some.ensures.some says).1)
