use Rattle.std.proofs.Common.{ap, chars, inl, refl, ◌∙◌}
use Rattle.std.proofs.lemmas.Str.{chars-nil}
use Rattle.ts_nt.proofs.line.is_nothing_or_comment.Goals as goal

pub returns-in-None : goal.returns-in-None
returns-in-None c = (λ _. inl (ap chars c.in-None.ensures.none ∙ chars-nil), λ _. refl)
