use Rattle.std.proofs.Common.{◌≡◌, ◌-◌, ◌<◌, ◌≤◌, false, chars, None, arith, sym}
use Rattle.std.specs.Char.{digit_value, is_digit}
use Rattle.std.proofs.lemmas.Bool.{le-ltb}
use Rattle.ts_nt.proofs.Characters.{no_characters}
use Rattle.ts_nt.proofs.HexDigits.{at_once, ends_early, meets_other, all_read, digit_fits}
use Rattle.ts_nt.proofs.items.hex_digits.Goals as goal

pub returns-in_err-c : goal.returns-in_err-c
returns-in_err-c c =
    let left : 0 < c.args.count - c.loop.counter = omega arith in
    let none : at_once 0 c.args.count (chars c.args.text.now) ≡ None =
    ends_early c.loop.number _ c.args.count _ _ left (no_characters _ c.in_err-c.ensures.none) c.loop.invariant.same in
    rw c.from_residual.ensures (sym none)

pub overflow_mul-number : goal.overflow_mul-number
overflow_mul-number c =
    let fits = digit_fits c.loop.counter c.loop.number 0 (omega arith) c.loop.invariant.small (omega arith) in
    omega arith

pub returns-in_err-number : goal.returns-in_err-number
returns-in_err-number c =
    let left : 0 < c.args.count - c.loop.counter = omega arith in
    let other : is_digit c.in_ok-c.c 16 ≡ false =
    let past : 16 ≤ digit_value c.in_ok-c.c = omega (arith, c.in_err-number.ensures.value) in
    le-ltb _ _ past in
    let none : at_once 0 c.args.count (chars c.args.text.now) ≡ None =
    meets_other c.loop.number _ c.args.count c.in_ok-c.c _ _ _ left c.in_ok-c.ensures.some other c.loop.invariant.same in
    rw c.from_residual-in_err-number.ensures (sym none)

pub overflow_add-number : goal.overflow_add-number
overflow_add-number c =
    let below : c.in_ok-number.field-0 < 16 = omega (arith, c.in_ok-number.ensures.value) in
    let fits = digit_fits c.loop.counter c.loop.number c.in_ok-number.field-0 (omega arith) c.loop.invariant.small below in
    omega arith

pub returns : goal.returns
returns c =
    let done : c.args.count - c.loop.counter ≡ 0 = omega arith in
    sym (all_read c.loop.number _ c.args.count _ _ done c.loop.invariant.same)
