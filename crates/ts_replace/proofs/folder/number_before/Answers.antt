use Rattle.std.proofs.Common.{◌≡◌, ◌≢◌, ◌<◌, ◌^◌, ◌++◌, List, ℕ, Option, None, sym, ◌∙◌, arith}
use Rattle.std.specs.Prelude.{MatchOption}
use Rattle.std.proofs.lemmas.List.{append_cancel_right}
use Rattle.ts_model.specs.LayerText.{layer_text}
use Rattle.ts_replace.specs.Names.{IsLayerNumber}
use Rattle.ts_replace.proofs.NamedLemmas.{layer_text_tells}
use Rattle.ts_replace.proofs.folder.number_before.Goals as goal

no_number : (r : Option ℕ) (name front ending : List ℕ) → r ≡ None → name ≡ front ++ ending → ((n : ℕ) → n < 2 ^ 32 → layer_text n ≢ front)
    → MatchOption r ((n : ℕ) → IsLayerNumber n → name ≢ layer_text n ++ ending) (λ n. IsLayerNumber n × (name ≡ layer_text n ++ ending))
no_number r name front ending none is no_text =
    rw none (λ n is_number same. no_text n is_number.1 (append_cancel_right (layer_text n) front ending (sym same ∙ is)))

no_layer : (n none_of : ℕ) (name front ending : List ℕ) → none_of ≡ 0 → layer_text none_of ≡ front → name ≡ front ++ ending → IsLayerNumber n → name ≢ layer_text n ++ ending
no_layer n none_of name front ending none text is is_number same =
    let is_zero = layer_text_tells n none_of is_number.1 (omega arith) (append_cancel_right (layer_text n) front ending (sym same ∙ is) ∙ sym text) in
    absurd (omega (arith, is_zero, none, is_number.0))

pub returns-in_err-number : goal.returns-in_err-number
returns-in_err-number c = no_number _ _ _ _ c.from_residual-in_err-number.ensures c.in_ok-name_before.ensures c.in_err-number.ensures.none

pub returns-then-number-eq0 : goal.returns-then-number-eq0
returns-then-number-eq0 c n = no_layer n c.in_ok-number.number _ _ _ c.if-number-eq0.true c.in_ok-number.ensures.value c.in_ok-name_before.ensures
