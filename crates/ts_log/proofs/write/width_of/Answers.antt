use Rattle.std.proofs.Common.{◌≡◌, ◌+◌, ◌-◌, ◌^◌, ◌<◌, suc, max, take, get_or, arith, sym, ap, ◌∙◌, refl}
use Rattle.std.proofs.lemmas.Nat.{leading_top}
use Rattle.std.proofs.lemmas.List.{take_more, take_all}
use Rattle.ts_log.specs.LogArray.{greatest}
use Rattle.ts_log.proofs.WidthLemmas.{width_by_greatest, width_of_zeros, greatest_push, greatest_fits}
use Rattle.ts_log.proofs.write.width_of.Goals as goal
use Rattle.ts_log.proofs.write.width_of.Goals.{then-x-greatest, else-x-greatest}

pub loop-x-init : goal.loop-x-init
unfolding greatest
loop-x-init c = refl

pub loop-x-preserved : goal.loop-x-preserved
loop-x-preserved c =
    let xs = c.args.numbers.now in
    let i = c.loop-x.x-index in
    let before : c.loop-x.greatest ≡ greatest (take i xs) = c.loop-x.invariant in
    let next : greatest (take (i + 1) xs) ≡ max (greatest (take i xs)) (get_or xs i 0) =
    ap greatest (take_more xs i 0 c.loop-x-test.true) ∙ greatest_push (take i xs) (get_or xs i 0) in
    elim c.if-x-greatest.branch [ then-x-greatest w ↦ omega (arith, next, before) | else-x-greatest w ↦ omega (arith, next, before) ]

pub returns-then-greatest-eq0 : goal.returns-then-greatest-eq0
returns-then-greatest-eq0 c =
    let xs = c.args.numbers.now in
    let all : c.loop-x.greatest ≡ greatest xs = c.loop-x.invariant ∙ ap greatest (take_all c.loop-x.x-index xs c.loop-x-test.false) in
    sym (width_of_zeros xs (omega arith))

pub returns-else-greatest-eq0 : goal.returns-else-greatest-eq0
returns-else-greatest-eq0 c =
    let xs = c.args.numbers.now in
    let all : c.loop-x.greatest ≡ greatest xs = c.loop-x.invariant ∙ ap greatest (take_all c.loop-x.x-index xs c.loop-x-test.false) in
    let fits : c.loop-x.greatest < 2 ^ 64 = omega (arith, all, greatest_fits xs (λ i. (c.type_inv.numbers i).fits)) in
    let top = leading_top 64 c.loop-x.greatest (omega arith) fits in
    let width : 64 - c.from.result ≡ suc top.0 = omega (arith, c.from.ensures, top.1) in
    width ∙ sym (width_by_greatest top.0 xs (omega (arith, all, top.3)) (omega (arith, all, top.2)))
