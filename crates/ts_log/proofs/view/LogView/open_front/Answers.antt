use Rattle.std.proofs.Common.{◌≡◌, ◌+◌, ◌-◌, ◌*◌, length, take, drop, sym, ap, ◌∙◌}
use Rattle.std.proofs.lemmas.List.{take_rest}
use Rattle.ts_log.specs.LogArray.{words_for, packed, width_of}
use Rattle.ts_log.proofs.ElementLemmas.{Below_bytes}
use Rattle.ts_log.proofs.WidthLemmas.{width_pos}
use Rattle.ts_log.proofs.ControlLemmas.{same_control}
use Rattle.ts_log.proofs.SaysLemmas.{front_of_says, width_fits, only_front}
use Rattle.ts_log.specs.Groups.{elements_in}
use Rattle.ts_log.proofs.WordsLemmas.{front_says}
use Rattle.ts_log.proofs.view.LogView.open_front.Goals as goal

pub returns-in_err-control-clause-none : goal.returns-in_err-control-clause-none
returns-in_err-control-clause-none c = rw c.from_residual.ensures (λ size numbers says.
    c.in_err-control.ensures.none (width_of numbers) (length numbers) (width_pos numbers) (width_fits numbers says.fits) says.counted
    (front_of_says size c.args.bytes.now numbers says.spelled).starts)

pub returns-in_err-words-clause-none : goal.returns-in_err-words-clause-none
returns-in_err-words-clause-none c = rw c.from_residual-in_err-words.ensures (λ size numbers says.
    let front = front_of_says size c.args.bytes.now numbers says.spelled in
    let found = c.in_ok-control.ensures.some in
    let same = same_control (width_of numbers) (length numbers) c.in_ok-control.control.width c.in_ok-control.control.count c.args.bytes.now says.counted found.3 front.starts found.4 in
    let bytes = c.args.bytes.now in
    let w = c.in_ok-control.control.width in
    let n = c.in_ok-control.control.count in
    let there : take (8 * words_for w n) (take (length bytes - 16) (drop 16 bytes)) ≡ packed w numbers =
    ap (take (8 * words_for w n)) (take_rest bytes 16)
    ∙ ap (λ k. take (8 * words_for w k) (drop 16 bytes)) (sym same.1)
    ∙ ap (λ v. take (8 * words_for v (length numbers)) (drop 16 bytes)) (sym same.0)
    ∙ front.goes_on
    ∙ ap (λ v. packed v numbers) same.0 in
    c.in_err-words.ensures.none numbers same.0 same.1 there)

pub returns-clause-some : goal.returns-clause-some
returns-clause-some c =
    let found = c.in_ok-control.ensures.some in
    let here = c.in_ok-words.ensures.some in
    front_says c.in_ok-control.control.width c.in_ok-control.control.count c.args.bytes.now c.in_ok-words.words.now
    (Below_bytes c.args.bytes.now c.type_inv.bytes) found.0 found.4 found.3 here.0 here.1

pub returns-clause-only : goal.returns-clause-only
returns-clause-only c =
    let found = c.in_ok-control.ensures.some in
    let here = c.in_ok-words.ensures.some in
    let w = c.in_ok-control.control.width in
    let n = c.in_ok-control.control.count in
    let bytes = c.args.bytes.now in
    let words = c.in_ok-words.words.now in
    let says = front_says w n bytes words (Below_bytes bytes c.type_inv.bytes) found.0 found.4 found.3 here.0 here.1 in
    only_front (16 + length words) bytes (elements_in w n words) says.0 says.1
