use Rattle.std.proofs.Common.{IsTrue, sym, ◌∙◌, true≢false}
use Rattle.std.proofs.lemmas.Str.{IsUtf8-past_char}
use Rattle.ts_model.specs.Characters.{is_letter}
use Rattle.ts_model.proofs.Fronts.{stops_empty, stops_other, run_begins, run_more, run_ends}
use Rattle.ts_model.proofs.TextLaws.{shorter, one_byte}
use Rattle.ts_model.proofs.tag.after_letters.Goals as goal

pub letters-init : goal.letters-init
letters-init c = (run_begins (λ c. IsTrue (is_letter c)) _, c.utf8.text)

pub returns-then-not-is_letter : goal.returns-then-not-is_letter
returns-then-not-is_letter c =
    let other = sym c.is_letter.ensures ∙ c.if-not-is_letter.true in
    run_ends (λ c. IsTrue (is_letter c)) _ _ c.letters.invariant.0 (stops_other (λ c. IsTrue (is_letter c)) _ _ c.in-Some.c (λ is. true≢false (sym is ∙ other)) c.in-Some.ensures.some)

pub letters-smaller : goal.letters-smaller
letters-smaller c = shorter _ _ _ (one_byte c.in-Some.c) c.in-Some.ensures.bytes

pub letters-preserved : goal.letters-preserved
letters-preserved c =
    let text = IsUtf8-past_char _ _ _ c.letters.invariant.1 c.in-Some.ensures.bytes in
    (run_more (λ c. IsTrue (is_letter c)) _ _ _ _ c.letters.invariant.0 c.in-Some.ensures.some (sym c.is_letter.ensures ∙ c.if-not-is_letter.false), text)

pub returns : goal.returns
returns c = run_ends (λ c. IsTrue (is_letter c)) _ _ c.letters.invariant.0 (stops_empty (λ c. IsTrue (is_letter c)) _ c.in_default.ensures.none)
