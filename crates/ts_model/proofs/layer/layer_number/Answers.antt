use Rattle.std.proofs.Common.{◌∙◌, ap, is_err, true≢false}
use Rattle.std.specs.Cmp.Lexicographic.{other_text}
use Rattle.ts_model.specs.LayerText.{layer_text}
use Rattle.ts_model.proofs.LayerLemmas.{no_failure, given_back}
use Rattle.ts_model.proofs.layer.layer_number.Goals as goal

pub returns-then-is_err-clause-none : goal.returns-then-is_err-clause-none
returns-then-is_err-clause-none c = λ n below is. true≢false (c.if-is_err.ensures.value ∙ ap is_err (no_failure n _ _ _ is c.decode_to_slice.ensures.value))

pub returns-else-eq-clause-none : goal.returns-else-eq-clause-none
returns-else-eq-clause-none c = λ n below is.
    let same = given_back n _ _ _ below is c.decode_to_slice.ensures.value in
    other_text _ _ c.if-eq.ensures (c.as_slice.ensures ∙ c.layer_text.ensures ∙ ap layer_text (c.from_be_bytes-number.ensures ∙ same) ∙ is)
