use Rattle.std.proofs.lemmas.Result.{IfOk-weaker}
use Rattle.ts_nt.proofs.LiteralLaws.{finds_kind}
use Rattle.ts_model.specs.declared.term.TermKind.TheVariants.{Predicate, Value}
use Rattle.ts_nt.proofs.term.append_term.Goals as goal

pub returns-in-Predicate : goal.returns-in-Predicate
returns-in-Predicate c = IfOk-weaker c.read_iri.result _ _ (λ found h. finds_kind _ Predicate _ _ _ _ c.in-Predicate.is h) c.read_iri.ensures

pub returns-in-Value : goal.returns-in-Value
returns-in-Value c = IfOk-weaker c.read_literal.result _ _ (λ found h. finds_kind _ Value _ _ _ _ c.in-Value.is h) c.read_literal.ensures
