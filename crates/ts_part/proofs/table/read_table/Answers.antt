use Rattle.std.proofs.Common.{◌≡◌, ◌+◌, ◌<◌, ◌^◌, length, subst, arith}
use Rattle.ts_part.specs.Places.{padding}
use Rattle.ts_part.proofs.LayoutLemmas.{HasRead, table_inside, read_none, read_one, read_whole, read_stops, read_ends}
use Rattle.ts_part.proofs.table.read_table.Goals as goal

pub returns-then-file-start-clause-none : goal.returns-then-file-start-clause-none
returns-then-file-start-clause-none c = λ sections are.
    omega (arith, table_inside c.args.file.now c.args.count sections c.requires.some are)

pub loop-i-init : goal.loop-i-init
loop-i-init c = read_none c.args.file.now c.args.count (omega arith)

pub returns-in_default-clause-none : goal.returns-in_default-clause-none
returns-in_default-clause-none c = λ sections are.
    let short : length c.args.file.now < 2 ^ 64 = omega arith in
    read_stops c.args.file.now c.args.count c.loop-i.i c.loop-i.start c.loop-i.places short c.loop-i.invariant c.loop-i-test.true c.requires.few
    c.in_default.ensures.none sections are

pub loop-i-preserved : goal.loop-i-preserved
loop-i-preserved c =
    let next : c.loop-i.start + (c.in-Some.size + c.padding.result) ≡ c.loop-i.start + c.in-Some.size + padding c.in-Some.size = omega (arith, c.padding.ensures) in
    read_one c.args.file.now c.args.count c.loop-i.i c.loop-i.start c.in-Some.size (c.loop-i.start + (c.in-Some.size + c.padding.result)) c.loop-i.places
    c.loop-i.invariant (omega (arith, c.loop-i-test.true, c.requires.few)) c.in-Some.ensures.some next

pub returns-then-start-file-clause-places : goal.returns-then-start-file-clause-places
returns-then-start-file-clause-places c =
    let all : c.loop-i.i ≡ c.args.count = omega arith in
    read_whole c.args.file.now c.args.count c.loop-i.start c.loop-i.places
    (subst (λ i. HasRead c.args.file.now c.args.count i c.loop-i.start c.loop-i.places) all c.loop-i.invariant) c.requires.few c.if-start-file.true

pub returns-else-start-file-clause-none : goal.returns-else-start-file-clause-none
returns-else-start-file-clause-none c = λ sections are.
    let all : c.loop-i.i ≡ c.args.count = omega arith in
    let short : length c.args.file.now < 2 ^ 64 = omega arith in
    read_ends c.args.file.now c.args.count c.loop-i.start c.loop-i.places short
    (subst (λ i. HasRead c.args.file.now c.args.count i c.loop-i.start c.loop-i.places) all c.loop-i.invariant) c.requires.some c.requires.few c.if-start-file.false
    sections are
