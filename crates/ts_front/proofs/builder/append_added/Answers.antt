use Rattle.std.proofs.Common.{◌++◌, ◌≤◌, length, drop, ◌∙◌, ap, append_assoc, arith, rules}
use Rattle.std.proofs.lemmas.Result.{on_ok_weaker}
use Rattle.std.proofs.lemmas.List.{take_rest}
use Rattle.ts_vbyte.specs.Spelling.{spelling}
use Rattle.ts_front.specs.Dictionary.{whole, added}
use Rattle.ts_front.proofs.SharedLemmas.{shared_le_right}
use Rattle.ts_front.proofs.builder.append_added.Goals as goal

pub slice_bounds-append_whole-count : goal.slice_bounds-append_whole-count
slice_bounds-append_whole-count c = omega (arith, c.shared_length-shared.ensures, shared_le_right c.args.before.now c.args.text.now)

pub slice_bounds-append_whole-start : goal.slice_bounds-append_whole-start
slice_bounds-append_whole-start c =
    let within : c.shared_length-shared.result ≤ length c.args.text.now = omega (arith, c.shared_length-shared.ensures, shared_le_right c.args.before.now c.args.text.now) in
    search (rules, within)

pub returns : goal.returns
unfolding added
returns c =
    let text = c.args.text.now in
    let before = c.args.before.now in
    let s = c.shared_length-shared.result in
    let old = c.args.into.now.items in
    on_ok_weaker c.append_whole.result (λ e.
    e ∙ ap (λ r. c.put.new.into.items ++ whole r) (take_rest text s) ∙ ap (λ l. l ++ whole (drop s text)) c.in_ok-put.ensures.written
    ∙ append_assoc old (spelling s) (whole (drop s text))
    ∙ ap (λ n. old ++ (spelling n ++ whole (drop n text))) c.shared_length-shared.ensures) c.append_whole.ensures
