use Rattle.std.proofs.Common.{◌≡◌, ℕ, ◌*◌, ◌^◌, ◌≤◌, ◌++◌, List, length, arith, sym, ap, ◌∙◌, append_assoc, refl, w64}
use Rattle.std.specs.Int.{to_be_bytes}
use Rattle.std.proofs.lemmas.Result.{on_ok_weaker}
use Rattle.ts_log.specs.LogArray.{width_of, log_array_of, packed}
use Rattle.ts_log.proofs.GroupsLemmas.{Below-All, Below-from_get_or}
use Rattle.ts_log.proofs.WidthLemmas.{width_pos, width_of_words, Below_width}
use Rattle.ts_log.proofs.ControlLemmas.{control-words}
use Rattle.ts_log.proofs.write.write_log_array.Goals as goal

pub overflow_mul-width : goal.overflow_mul-width
overflow_mul-width c =
    let narrow : width_of c.args.numbers.now ≤ 64 = width_of_words c.args.numbers.now (λ i. (c.type_inv.numbers i).fits) in
    record { fits = omega (arith, c.width_of-width.ensures) }

pub write_words-requires-clause-positive : goal.write_words-requires-clause-positive
write_words-requires-clause-positive c = rw c.width_of-width.ensures (width_pos c.args.numbers.now)

pub write_words-requires-clause-narrow : goal.write_words-requires-clause-narrow
write_words-requires-clause-narrow c =
    rw c.width_of-width.ensures (width_of_words c.args.numbers.now (λ i. (c.type_inv.numbers i).fits))

pub write_words-requires-clause-fit : goal.write_words-requires-clause-fit
write_words-requires-clause-fit c = λ k d h.
    rw c.width_of-width.ensures (Below-All (2 ^ width_of c.args.numbers.now) c.args.numbers.now (Below_width c.args.numbers.now) k d h)

joined_parts : (old first second words : List ℕ) → ((old ++ first) ++ second) ++ words ≡ old ++ ((first ++ second) ++ words)
joined_parts old first second words = simp append_assoc

pub returns-clause-written : goal.returns-clause-written
unfolding log_array_of
returns-clause-written c =
    let xs = c.args.numbers.now in
    let w = width_of xs in
    let narrow : w ≤ 64 = width_of_words xs (λ i. (c.type_inv.numbers i).fits) in
    let first = to_be_bytes w64 (length xs) in
    let second = to_be_bytes w64 (w * 2 ^ 56) in
    on_ok_weaker c.write_words.result (λ e.
    e
    ∙ ap (λ t. t ++ packed c.width_of-width.result xs) (c.in_ok-append_word-2.ensures.appended ∙ ap (λ t. t ++ to_be_bytes w64 (c.width_of-width.result * 2 ^ 56)) c.in_ok-append_word.ensures.appended)
    ∙ ap (λ v. ((c.args.into.now.items ++ first) ++ to_be_bytes w64 (v * 2 ^ 56)) ++ packed v xs) c.width_of-width.ensures
    ∙ joined_parts c.args.into.now.items first second (packed w xs)
    ∙ ap (λ t. c.args.into.now.items ++ (t ++ packed w xs)) (sym (control-words w (length xs) (omega arith))))
    c.write_words.ensures.written

pub returns-clause-says : goal.returns-clause-says
returns-clause-says c =
    let xs = c.args.numbers.now in
    record {
      spelled = refl;
      fits = Below-All (2 ^ 64) xs (Below-from_get_or (2 ^ 64) xs (λ i _. (c.type_inv.numbers i).fits));
      counted = omega arith;
    }
