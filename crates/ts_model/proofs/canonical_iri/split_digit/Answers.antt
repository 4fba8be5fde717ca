use Rattle.std.proofs.Common.{◌≡◌, false, rules}
use Rattle.ts_model.proofs.IriLaws.{is_upper_digit, no_digit}
use Rattle.ts_model.proofs.canonical_iri.split_digit.Goals as goal

pub returns-in_default-clause-none : goal.returns-in_default-clause-none
returns-in_default-clause-none c =
    let other : is_upper_digit c.in_ok-first.first ≡ false = search rules in
    no_digit _ _ _ c.in_ok-first.ensures.bytes other
