use Rattle.std.proofs.Common.{◌≡◌, ℕ, zero, suc, ◌<◌, List, [], ◌∷◌, drop, refl, sym, ◌∙◌, arith, slice_get, Some, None}
use Rattle.std.proofs.lemmas.Bool.{lt-ltb, ltb-true}
use Rattle.ts_front.specs.Pieces.{FirstBelow}
use Rattle.ts_front.proofs.check.begins_greater.Goals as goal

get_first : (before : List ℕ) (at : ℕ) → slice_get before at ≡ slice_get (drop at before) 0
get_first [] zero = refl
get_first [] (suc at) = refl
get_first (x ∷ xs) zero = refl
get_first (x ∷ xs) (suc at) = get_first xs at

below_none : (old text : List ℕ) (new : ℕ) → None ≡ slice_get old 0 → Some new ≡ slice_get text 0 → FirstBelow old text
below_none old [] new e f = absurd (cc)
below_none [] (y ∷ ys) new e f = tt
below_none (x ∷ xs) (y ∷ ys) new e f = absurd (cc)

below_some : (old text : List ℕ) (first new : ℕ) → Some first ≡ slice_get old 0 → Some new ≡ slice_get text 0
    → (first < new → FirstBelow old text) × (FirstBelow old text → first < new)
below_some old [] first new e f = absurd (cc)
below_some [] (y ∷ ys) first new e f = absurd (cc)
below_some (x ∷ xs) (y ∷ ys) first new e f =
    let a : first ≡ x = cc in
    let b : new ≡ y = cc in
    ((λ h. omega arith), (λ h. omega arith))

pub returns-in-Some-None : goal.returns-in-Some-None
returns-in-Some-None c = λ before at e. (
  (λ _. below_none (drop at before) c.args.text.now c.in-Some-None.field-0-0.now (sym c.in-Some-None.is-1 ∙ e ∙ get_first before at) c.in-Some-None.ensures.value),
  (λ _. refl),
)

pub returns-in-Some-Some : goal.returns-in-Some-Some
returns-in-Some-Some c = λ before at e.
    let both = below_some (drop at before) c.args.text.now c.in-Some-Some.old c.in-Some-Some.byte.now (sym c.in-Some-Some.is-1 ∙ e ∙ get_first before at) c.in-Some-Some.ensures.value in (
      (λ h. both.0 (ltb-true c.in-Some-Some.old c.in-Some-Some.byte.now h)),
      (λ h. lt-ltb c.in-Some-Some.old c.in-Some-Some.byte.now (both.1 h)),
    )
