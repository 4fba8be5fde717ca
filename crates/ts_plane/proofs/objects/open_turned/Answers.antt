use Rattle.std.proofs.Common.{length, ap, sym, ◌∙◌, subst}
use Rattle.std.proofs.lemmas.Bool.{both_ways}
use Rattle.ts_adjacency.specs.Rows.{IsClosed}
use Rattle.ts_adjacency.specs.Adjacency.{IsWhole}
use Rattle.ts_bits.specs.Rank.{ones}
use Rattle.ts_plane.specs.Objects.{AreTurned}
use Rattle.ts_plane.proofs.Hints.{from_hints, to_hints, turned_paired, none_since}
use Rattle.ts_plane.proofs.objects.open_turned.Goals as goal

pub returns-then-is_turned-clause-turned : goal.returns-then-is_turned-clause-turned
returns-then-is_turned-clause-turned c =
    let ends = c.in_ok-found.ensures.ends in
    let whole : IsWhole c.in_ok-found.found = record { closed = subst IsClosed (sym ends) c.requires.closed; paired = ap length ends ∙ c.in_ok-found.ensures.paired } in
    let found = c.is_turned.ensures.0 c.if-is_turned.true in
    from_hints c.args.objects.now c.in_ok-found.found c.args.triples.now
    (record { whole = whole; counted = ap ones ends ∙ c.requires.counted; increasing = c.requires.increasing; rising = found.0 })
    c.requires.whole c.requires.rising (ap length ends ∙ c.requires.long) found.1

pub returns-in_err-found-clause-none : goal.returns-in_err-found-clause-none
returns-in_err-found-clause-none c = none_since c.from_residual.result (λ numbers says are.
    c.in_err-found.ensures.none numbers says (turned_paired c.args.objects.now (record { ends = c.args.ends.now; rights = numbers }) c.args.triples.now are))

pub returns-else-is_turned-clause-none : goal.returns-else-is_turned-clause-none
returns-else-is_turned-clause-none c = λ numbers says are.
    let same = c.in_ok-found.ensures.only numbers says in
    let turned : AreTurned c.args.objects.now c.in_ok-found.found c.args.triples.now = record {
      objects_are = are.objects_are;
      ends_are = c.in_ok-found.ensures.ends ∙ are.ends_are;
      rights_are = sym same ∙ are.rights_are;
    } in
    both_ways c.is_turned.result c.if-is_turned.false (c.is_turned.ensures.1 (to_hints c.args.objects.now c.in_ok-found.found c.args.triples.now c.requires.whole c.requires.rising turned))
