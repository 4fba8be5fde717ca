use Rattle.std.proofs.Common.{arith, sym, subst, ◌∙◌}
use Rattle.ts_bits.specs.BitArray.{BitsSay}
use Rattle.ts_bits.proofs.Lookups.{says_from_whole, whole_from_says}
use Rattle.ts_bits.proofs.view.BitView.open.Goals as goal

pub of_whole-requires : goal.of_whole-requires
of_whole-requires c = (c.is_whole.ensures.0 (cc)).ranked

pub returns-then-is_whole-clause-some : goal.returns-then-is_whole-clause-some
returns-then-is_whole-clause-some c =
    subst (λ bits. BitsSay c.args.bytes.now bits) (sym c.of_whole.ensures)
    (says_from_whole _ _ _ _ _ _ (λ i. omega (arith, c.type_inv.bytes i)) c.in_ok-parts.ensures.some (c.is_whole.ensures.0 (cc)))

pub returns-then-is_whole-clause-only : goal.returns-then-is_whole-clause-only
returns-then-is_whole-clause-only c = λ others says.
    sym (c.of_whole.ensures ∙ (whole_from_says _ others _ _ _ _ _ c.in_ok-parts.ensures.some says).1)

pub returns-else-is_whole-clause-none : goal.returns-else-is_whole-clause-none
returns-else-is_whole-clause-none c = λ bits says.
    let whole = whole_from_says _ bits _ _ _ _ _ c.in_ok-parts.ensures.some says in
    let yes = c.is_whole.ensures.1 whole.0 in
    absurd (cc)
