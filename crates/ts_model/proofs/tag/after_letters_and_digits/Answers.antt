use Rattle.std.proofs.Common.{◌||◌, IsTrue, sym, ◌∙◌, true≢false}
use Rattle.std.proofs.lemmas.Str.{IsUtf8-past_char}
use Rattle.ts_model.specs.Characters.{is_letter, is_digit}
use Rattle.ts_model.proofs.Fronts.{stops_empty, stops_other, run_begins, run_more, run_ends}
use Rattle.ts_model.proofs.TextLaws.{shorter, one_byte}
use Rattle.ts_model.proofs.tag.after_letters_and_digits.Goals as goal

pub characters-init : goal.characters-init
characters-init c = (run_begins (λ c. IsTrue (is_letter c || is_digit c)) _, c.utf8.text)

pub returns-then-not-is_letter_or_digit : goal.returns-then-not-is_letter_or_digit
returns-then-not-is_letter_or_digit c =
    let other = sym c.is_letter_or_digit.ensures ∙ c.if-not-is_letter_or_digit.true in
    run_ends (λ c. IsTrue (is_letter c || is_digit c)) _ _ c.characters.invariant.0 (stops_other (λ c. IsTrue (is_letter c || is_digit c)) _ _ c.in-Some.c (λ is. true≢false (sym is ∙ other)) c.in-Some.ensures.some)

pub characters-smaller : goal.characters-smaller
characters-smaller c = shorter _ _ _ (one_byte c.in-Some.c) c.in-Some.ensures.bytes

pub characters-preserved : goal.characters-preserved
characters-preserved c =
    let text = IsUtf8-past_char _ _ _ c.characters.invariant.1 c.in-Some.ensures.bytes in
    (run_more (λ c. IsTrue (is_letter c || is_digit c)) _ _ _ _ c.characters.invariant.0 c.in-Some.ensures.some (sym c.is_letter_or_digit.ensures ∙ c.if-not-is_letter_or_digit.false), text)

pub returns : goal.returns
returns c = run_ends (λ c. IsTrue (is_letter c || is_digit c)) _ _ c.characters.invariant.0 (stops_empty (λ c. IsTrue (is_letter c || is_digit c)) _ c.in_default.ensures.none)
