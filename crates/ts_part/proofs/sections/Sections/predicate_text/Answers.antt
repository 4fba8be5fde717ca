use Rattle.std.proofs.Common.{arith, ap}
use Rattle.std.proofs.lemmas.Result.{on_ok_weaker}
use Rattle.ts_part.proofs.EntryLemmas.{predicate_written}
use Rattle.ts_part.proofs.sections.Sections.predicate_text.Goals as goal

pub returns-clause-written : goal.returns-clause-written
returns-clause-written c = λ facts tells.
    let many = ap (λ h. h.predicates) tells.headed in
    on_ok_weaker c.entry.result
    (predicate_written facts c.args.number c.predicate_entry.result c.predicates.result c.args.into.now.items c.entry.new.into.items tells.says.kinds
    (c.predicate_entry.ensures.numbered facts tells) (c.predicates.ensures facts tells) (omega (arith, many, c.predicate_entry.ensures.inside)))
    c.entry.ensures.written
