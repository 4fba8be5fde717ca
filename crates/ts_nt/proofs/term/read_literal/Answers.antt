use Rattle.std.proofs.Common.{chars, string_bytes}
use Rattle.std.proofs.lemmas.Result.{IfOk-weaker}
use Rattle.ts_nt.specs.Terms.{StringAt}
use Rattle.ts_nt.proofs.FindsLaws.{Finds-at}
use Rattle.ts_nt.proofs.LiteralLaws.{literal_from_ending, no_literal}
use Rattle.ts_nt.proofs.term.read_literal.Goals as goal

pub returns-in-Some : goal.returns-in-Some
returns-in-Some c =
    let string = Finds-at (λ more. chars more.now) StringAt (chars c.args.text.now) (string_bytes c.args.into.now) (string_bytes c.read_string.new.into) _ _ c.in-Some.is c.in_ok-behind.ensures in
    IfOk-weaker c.read_ending.result _ _ (λ found h. literal_from_ending _ _ _ _ _ _ string h) c.read_ending.ensures

pub returns-in-None : goal.returns-in-None
returns-in-None c =
    let none = Finds-at (λ more. chars more.now) StringAt (chars c.args.text.now) (string_bytes c.args.into.now) (string_bytes c.read_string.new.into) _ _ c.in-None.is c.in_ok-behind.ensures in
    no_literal (chars c.args.text.now) (string_bytes c.args.into.now) (string_bytes c.read_string.new.into) none
