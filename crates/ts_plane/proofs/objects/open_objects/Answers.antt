use Rattle.std.proofs.Common.{length, sym, ◌∙◌, ap, subst}
use Rattle.std.proofs.lemmas.Bool.{both_ways}
use Rattle.ts_plane.specs.Objects.{EachShown, EachStands, IsObjectsOr}
use Rattle.ts_plane.specs.Rules.{IsBounded}
use Rattle.ts_plane.specs.Turned.{rising_of}
use Rattle.ts_plane.proofs.ObjectFaults.{ends_fault, objects_error, objects_fault, pairs_fault}
use Rattle.ts_plane.proofs.ObjectSets.{exact_rising, exact_bounded}
use Rattle.ts_plane.proofs.Hints.{none_at}
use Rattle.ts_plane.proofs.objects.open_objects.Goals as goal

pub returns-then-not-rises-clause-fault : goal.returns-then-not-rises-clause-fault
returns-then-not-rises-clause-fault c = objects_fault c.args.objects.now c.args.ends.now c.args.pairs.now c.args.triples.now (λ list says exact.
    (let is = sym (c.in-Some.ensures.only list says) ∙ exact ∙ ap rising_of (sym c.requires.rights) in
    both_ways c.rises.result c.if-not-rises.true
    (c.rises.ensures.1 (exact_rising c.in-Some.list c.args.rights.now is, exact_bounded c.args.terms c.in-Some.list c.args.rights.now (subst (IsBounded c.args.terms) (sym c.requires.rights) c.requires.bounded) is))))

pub returns-in_default-open_rows-clause-fault : goal.returns-in_default-open_rows-clause-fault
returns-in_default-open_rows-clause-fault c =
    let rises = c.rises.ensures.0 c.if-not-rises.false in
    let none = none_at c.open_rows.result c.in_default-open_rows.not-Some c.open_rows.ensures.none in
    objects_error c.args.objects.now c.args.ends.now c.args.pairs.now c.args.triples.now c.in-Some.list _ 6 c.objects_or.result c.in-Some.ensures.some
    c.in-Some.ensures.only rises.0
    (λ _ shows. none shows.by.ends shows.ends_say (shows.counted ∙ sym c.len.ensures) (shows.long ∙ sym c.len-2.ensures.counted) shows.closed)
    (λ exact. ends_fault c.args.objects.now c.args.ends.now c.args.pairs.now c.args.triples.now c.in-Some.list c.in-Some.ensures.some exact
    (λ bits says counted long. none bits says (counted ∙ sym c.len.ensures) (long ∙ sym c.len-2.ensures.counted)))
    (subst (λ r. IsObjectsOr c.in-Some.list r _ 6 c.objects_or.result) c.requires.rights c.objects_or.ensures)

pub returns-in_default-open_turned-clause-fault : goal.returns-in_default-open_turned-clause-fault
returns-in_default-open_turned-clause-fault c =
    let rises = c.rises.ensures.0 c.if-not-rises.false in
    let rows = c.in-Some-open_rows.ensures in
    objects_error c.args.objects.now c.args.ends.now c.args.pairs.now c.args.triples.now c.in-Some.list c.show_each-shown.result 7 c.objects_or-in_default-open_turned.result c.in-Some.ensures.some
    c.in-Some.ensures.only rises.0
    (λ unshown shows.
    (let same = rows.only shows.by.ends shows.ends_say in
    c.show_each-shown.ensures.hidden unshown shows.by.rights shows.pairs_say (ap length (sym same) ∙ shows.paired)
    (subst (λ ends. EachShown c.in-Some.list (record { ends = ends; rights = shows.by.rights }) c.args.triples.now) same shows.shown)))
    (λ exact. pairs_fault c.args.objects.now c.args.ends.now c.args.pairs.now c.args.triples.now c.in-Some.list c.in-Some-open_rows.rows c.in-Some.ensures.some exact
    rows.says rows.only (rows.counted ∙ c.len.ensures) (rows.long ∙ c.len-2.ensures.counted) rows.closed
    (none_at c.open_turned.result c.in_default-open_turned.not-Some c.open_turned.ensures.none))
    (subst (λ r. IsObjectsOr c.in-Some.list r c.show_each-shown.result 7 c.objects_or-in_default-open_turned.result) c.requires.rights c.objects_or-in_default-open_turned.ensures)

pub objects_or-requires-in_default-open_turned-clause-stand : goal.objects_or-requires-in_default-open_turned-clause-stand
objects_or-requires-in_default-open_turned-clause-stand c = λ shown.
    subst (λ r. EachStands r c.in-Some.list) (sym c.requires.rights) (c.show_each-shown.ensures.stand shown)
