use Rattle.std.proofs.Common.{length, ap, arith}
use Rattle.std.proofs.lemmas.Bool.{OnTrue_at, OnFalse_at}
use Rattle.ts_front.specs.Dictionary.{block_starts}
use Rattle.ts_front.proofs.SaysLemmas.{starts_said, bytes_long, Held, body_of_says, says_of_body, held, one_list_read}
use Rattle.ts_front.proofs.view.FrontView.open.Goals as goal

pub returns-in_err-starts-clause-none : goal.returns-in_err-starts-clause-none
returns-in_err-starts-clause-none c = rw c.from_residual.ensures (λ texts says.
    c.in_err-starts.ensures.none (block_starts texts) (starts_said c.args.starts.now c.args.bytes.now texts says))

pub returns-in_err-count-clause-none : goal.returns-in_err-count-clause-none
returns-in_err-count-clause-none c = rw c.from_residual-in_err-count.ensures (λ texts says.
    omega (arith, c.in_err-count.ensures.none, ap length says.bytes_spelled, bytes_long texts))

pub invariant_of-result : goal.invariant_of-result
invariant_of-result c =
    let held_texts = OnTrue_at c.if-is_body.true c.is_body.ensures.yes in
    let e = c.in_ok-count.ensures.some in
    let fits = c.in_ok-count.ensures.fits in
    let log = c.in_ok-starts.ensures.some in
    let starts = c.args.starts.now in
    let bytes = c.args.bytes.now in
    let body = c.in_ok-count.body.now in
    let h : Held starts bytes c.in_ok-starts.starts body c.in_ok-count.count =
    held starts bytes c.in_ok-starts.starts body c.in_ok-count.count held_texts.0
    (says_of_body starts bytes c.in_ok-starts.starts body c.in_ok-count.count held_texts.0 log fits (omega arith) e held_texts.1.0 held_texts.1.1)
    held_texts.1.0 held_texts.1.1 in
    (h.counted, h.is)

pub returns-then-is_body-clause-some : goal.returns-then-is_body-clause-some
returns-then-is_body-clause-some c =
    let held_texts = OnTrue_at c.if-is_body.true c.is_body.ensures.yes in
    let e = c.in_ok-count.ensures.some in
    let fits = c.in_ok-count.ensures.fits in
    let log = c.in_ok-starts.ensures.some in
    let starts = c.args.starts.now in
    let bytes = c.args.bytes.now in
    let body = c.in_ok-count.body.now in
    let h : Held starts bytes c.in_ok-starts.starts body c.in_ok-count.count =
    held starts bytes c.in_ok-starts.starts body c.in_ok-count.count held_texts.0
    (says_of_body starts bytes c.in_ok-starts.starts body c.in_ok-count.count held_texts.0 log fits (omega arith) e held_texts.1.0 held_texts.1.1)
    held_texts.1.0 held_texts.1.1 in
    h.says

pub returns-else-is_body-clause-none : goal.returns-else-is_body-clause-none
returns-else-is_body-clause-none c = λ texts says.
    let found = body_of_says c.args.starts.now c.args.bytes.now c.in_ok-starts.starts c.in_ok-count.body.now c.in_ok-count.count texts says
    c.in_ok-starts.ensures.some c.in_ok-count.ensures.fits c.in_ok-count.ensures.some in
    OnFalse_at c.if-is_body.false c.is_body.ensures.no texts found.0 found.1

pub returns-then-is_body-clause-only : goal.returns-then-is_body-clause-only
returns-then-is_body-clause-only c = λ others says.
    one_list_read c.args.starts.now c.args.bytes.now c.in_ok-count.body.now c.in_ok-count.count others says c.in_ok-count.ensures.fits c.in_ok-count.ensures.some
