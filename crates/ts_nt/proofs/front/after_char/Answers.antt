use Rattle.std.proofs.Common.{◌≡◌, [], chars, ap, ◌∙◌}
use Rattle.std.proofs.lemmas.Str.{chars-nil}
use Rattle.ts_nt.proofs.front.after_char.Goals as goal

pub returns-in_err-first-clause-none : goal.returns-in_err-first-clause-none
returns-in_err-first-clause-none c = rw c.from_residual.ensures (λ others begins.
    let none : chars c.args.text.now ≡ [] = ap chars c.in_err-first.ensures.none ∙ chars-nil in cc)
