use Rattle.std.proofs.Common.{rules, ◌≡◌, [], chars, sym, ap, ◌∙◌}
use Rattle.std.proofs.lemmas.Str.{chars-nil}
use Rattle.ts_nt.specs.TripleText.{after_blanks as behind_blanks}
use Rattle.ts_nt.proofs.front.after_blanks.Goals as goal

pub returns-in_default-2 : goal.returns-in_default-2
returns-in_default-2 c =
    let empty : c.loop-more.rest.now ≡ [] = search (rules) in
    let none : chars c.loop-more.rest.now ≡ [] = ap chars empty ∙ chars-nil in
    none ∙ sym (ap behind_blanks none) ∙ c.loop-more.invariant.1
