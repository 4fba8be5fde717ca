use Rattle.std.proofs.Common.{chars, string_bytes, ap, drop, subst, sym}
use Rattle.ts_nt.specs.Terms.{IriAt}
use Rattle.ts_nt.proofs.FindsLaws.{Finds-at}
use Rattle.ts_nt.proofs.term.append_type.Goals as goal

pub returns-in-None : goal.returns-in-None
returns-in-None c = λ ending rest at.
    let none = Finds-at (λ more. chars more.now) IriAt (chars c.args.text.now) (string_bytes c.push_str.new.self) (string_bytes c.read_iri.new.into) _ _ c.in-None.is c.in_ok-rest.ensures in
    none at.1 rest (subst (λ t. IriAt t at.1 rest) (sym (ap (drop 2) at.2)) at.3)
