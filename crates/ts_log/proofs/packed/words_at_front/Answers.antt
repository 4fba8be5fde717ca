use Rattle.std.proofs.Common.{◌≡◌, ◌*◌, ◌%◌, ◌^◌, length, take, IsTrue, arith, sym, ap, ◌∙◌}
use Rattle.std.proofs.lemmas.List.{length-take-le}
use Rattle.ts_log.specs.Groups.{joined}
use Rattle.ts_log.specs.LogArray.{words_for}
use Rattle.ts_log.proofs.GroupsLemmas.{Below-take}
use Rattle.ts_log.proofs.ElementLemmas.{Below_bytes}
use Rattle.ts_log.proofs.ArrayLemmas.{padding_small, padding_for, words_enough}
use Rattle.ts_log.proofs.WordsLemmas.{too_short, zeros_here, no_lesser, are_words}
use Rattle.ts_log.proofs.packed.words_at_front.Goals as goal

pub returns-then-rest-needed-clause-none : goal.returns-then-rest-needed-clause-none
returns-then-rest-needed-clause-none c = λ numbers v l e.
    too_short c.args.width c.args.count c.args.rest.now numbers l (omega (arith, c.words_for-needed.ensures)) e

pub ends_in_zeros-requires-clause-within : goal.ends_in_zeros-requires-clause-within
ends_in_zeros-requires-clause-within c = omega (arith, c.padding_for.ensures, padding_small c.args.width c.args.count)

pub returns-then-not-ends_in_zeros-clause-none : goal.returns-then-not-ends_in_zeros-clause-none
returns-then-not-ends_in_zeros-clause-none c = λ numbers v l e.
    let size : c.words_for-needed.result * 8 ≡ 8 * words_for c.args.width c.args.count = omega (arith, c.words_for-needed.ensures) in
    let same = ap (λ k. take k c.args.rest.now) size ∙ e in
    let zeros = zeros_here c.args.width c.args.count (take (c.words_for-needed.result * 8) c.args.rest.now) numbers v l same in
    let found : IsTrue c.ends_in_zeros.result =
    c.ends_in_zeros.ensures.1 (ap (λ k. joined 8 (take (c.words_for-needed.result * 8) c.args.rest.now) % 2 ^ k) c.padding_for.ensures ∙ zeros) in
    cc

pub needs_width-requires-clause-inside : goal.needs_width-requires-clause-inside
needs_width-requires-clause-inside c =
    let many : length (take (c.words_for-needed.result * 8) c.args.rest.now) ≡ c.words_for-needed.result * 8 =
    length-take-le (c.words_for-needed.result * 8) c.args.rest.now (omega arith) in
    omega (arith, many, c.words_for-needed.ensures, words_enough c.args.width c.args.count)

pub returns-then-not-needs_width-clause-none : goal.returns-then-not-needs_width-clause-none
returns-then-not-needs_width-clause-none c = λ numbers v l e.
    let size : c.words_for-needed.result * 8 ≡ 8 * words_for c.args.width c.args.count = omega (arith, c.words_for-needed.ensures) in
    let wide = c.if-not-needs_width.ensures.wide in
    no_lesser c.args.width c.args.count (take (c.words_for-needed.result * 8) c.args.rest.now) numbers v l (ap (λ k. take k c.args.rest.now) size ∙ e) wide.0 wide.1

pub returns-clause-some : goal.returns-clause-some
returns-clause-some c =
    let w = c.args.width in
    let n = c.args.count in
    let words = take (c.words_for-needed.result * 8) c.args.rest.now in
    let size : c.words_for-needed.result * 8 ≡ 8 * words_for w n = omega (arith, c.words_for-needed.ensures) in
    let many : length words ≡ c.words_for-needed.result * 8 = length-take-le (c.words_for-needed.result * 8) c.args.rest.now (omega arith) in
    let zeros : joined 8 words % 2 ^ padding_for w n ≡ 0 =
    sym (ap (λ k. joined 8 words % 2 ^ k) c.padding_for.ensures) ∙ c.ends_in_zeros.ensures.0 c.if-not-ends_in_zeros.false in (
      ap (λ k. take k c.args.rest.now) size,
      are_words w n words c.requires.positive c.requires.narrow
          (Below-take (2 ^ 8) (c.words_for-needed.result * 8) c.args.rest.now (Below_bytes c.args.rest.now c.type_inv.rest))
          (many ∙ size) zeros c.if-not-needs_width.ensures.needed,
    )
