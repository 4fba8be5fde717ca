use Rattle.std.proofs.Common.{sym}
use Rattle.std.proofs.lemmas.List.Sorted.{searchable_from_sorted}
use Rattle.ts_model.specs.TextTriple.{TextTriple}
use Rattle.ts_model.specs.Order.{triple_cmp_total}
use Rattle.ts_plain.proofs.AmongLaws.{among_at, among_none, sorted_triples}
use Rattle.ts_plain.proofs.lookup.is_among.Goals as goal

pub returns-in-Ok : goal.returns-in-Ok
returns-in-Ok c = sym (among_at c.args.triples.now c.args.triple.now c.in-Ok.field-0 c.in-Ok.ensures.bound c.in-Ok.ensures.ok)

pub returns-in-Err : goal.returns-in-Err
returns-in-Err c =
    let triples = c.args.triples.now in
    sym (among_none triples c.args.triple.now c.in-Err.field-0
    (c.in-Err.ensures.position (searchable_from_sorted triple_cmp_total (λ (triple : TextTriple). triple) triples c.args.triple.now (sorted_triples triples c.requires))))
