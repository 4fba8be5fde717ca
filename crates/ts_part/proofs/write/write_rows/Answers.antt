use Rattle.std.proofs.Common.{◌≡◌, ◌+◌, ◌<◌, ◌++◌, sym, get_or, arith, subst}
use Rattle.ts_part.specs.Layout.{row}
use Rattle.ts_part.specs.Places.{padding}
use Rattle.ts_part.proofs.WriteLemmas.{IsWriting, next_fits, next_section, writing_all, writing_more}
use Rattle.ts_part.proofs.write.write_rows.Goals as goal

-- the section behind which the sum goes
inside : (c : goal.After-padding) → c.loop-i.at + (get_or c.args.sizes.now c.loop-i.i 0 + c.padding.result) < 18446744073709551616
inside c =
    let given = c.requires.fits in
    let sizes = c.args.sizes.now in
    let is = c.loop-i.invariant given.0 given.1 in
    let next = next_section given.0 sizes c.loop-i.i c.loop-i.at given.1 c.loop-i-test.true in
    omega (arith, next_fits given.0 c.args.start c.args.file.now.items c.loop-i.file.items c.loop-i.i c.loop-i.at (get_or sizes c.loop-i.i 0) is next, given.2, c.padding.ensures)

pub overflow_add-at : goal.overflow_add-at
overflow_add-at c = record { fits = omega (arith, inside c) }

pub overflow_add-at-in-loop-i : goal.overflow_add-at-in-loop-i
overflow_add-at-in-loop-i c = record { fits = inside c }

pub loop-i-preserved : goal.loop-i-preserved
loop-i-preserved c = λ sections are.
    let sizes = c.args.sizes.now in
    let i = c.loop-i.i in
    let at = c.loop-i.at in
    let size = get_or sizes i 0 in
    let is = c.loop-i.invariant sections are in
    let next = next_section sections sizes i at are c.loop-i-test.true in
    let written : c.write_row.new.file.items ≡ c.loop-i.file.items ++ row (i + 1) at size = c.in_ok-write_row.ensures in
    let more : IsWriting sections c.args.start c.args.file.now.items (c.loop-i.file.items ++ row (i + 1) at size) (i + 1) (at + (size + padding size)) = writing_more sections c.args.start c.args.file.now.items c.loop-i.file.items i at size is next in
    subst (λ file. IsWriting sections c.args.start c.args.file.now.items file (i + 1) (at + (size + c.padding.result))) (sym written)
    (subst (λ p. IsWriting sections c.args.start c.args.file.now.items (c.loop-i.file.items ++ row (i + 1) at size) (i + 1) (at + (size + p))) (sym c.padding.ensures) more)

pub returns : goal.returns
returns c = λ sections are.
    writing_all sections c.args.sizes.now c.args.start c.args.file.now.items c.loop-i.file.items c.loop-i.i c.loop-i.at are c.loop-i-test.false (c.loop-i.invariant sections are)
