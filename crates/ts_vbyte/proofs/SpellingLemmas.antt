use Rattle.std.proofs.Common.{◌≡◌, ℕ, zero, suc, ◌+◌, ◌*◌, ◌/◌, ◌%◌, ◌^◌, ◌<◌, ◌≤◌, List, [], ◌∷◌, ◌++◌, reverse, length, take, drop, inl, inr, refl, sym, ◌∙◌, ap, arith, pow-suc}
use Rattle.std.specs.Int.Digits.{digits_of}
use Rattle.std.proofs.lemmas.Bool.{cases_lt, cases_eq}
use Rattle.std.proofs.lemmas.Bool.Decides.{nat_tests}
use Rattle.std.proofs.lemmas.Int.Digits.{digits_of_step}
use Rattle.std.proofs.lemmas.Nat.{div_below}
use Rattle.std.proofs.lemmas.List.{reverse-append, length-take-le, take-append-drop}
use Rattle.ts_vbyte.specs.Spelling.{groups_of, mark_last, spelling, NumberSays, FrontSaysOnly}

groups_above : (x : ℕ) → 0 < x → groups_of x ≡ reverse (digits_of 128 x)
unfolding groups_of
groups_above x h = grind (arith, nat_tests)

-- one group more, below the others
groups_more : (x : ℕ) → 0 < x → reverse (digits_of 128 x) ≡ x % 128 ∷ reverse (digits_of 128 (x / 128))
groups_more x h =
    ap reverse (digits_of_step 128 x (omega arith) h) ∙ reverse-append (digits_of 128 (x / 128)) (x % 128 ∷ [])

digits_none : digits_of 128 0 ≡ []
digits_none = refl

-- a number below 128 is one byte
pub spelling_last : (x : ℕ) → x < 128 → spelling x ≡ (128 + x) ∷ []
unfolding spelling mark_last groups_of
spelling_last x h =
    elim (cases_eq x 0) [
      | inl none ↦ rw none refl
      | inr some ↦
          let rest : x / 128 ≡ 0 = omega arith in
          let here : x % 128 ≡ x = omega arith in
          ap mark_last (groups_above x (omega arith) ∙ groups_more x (omega arith)
          ∙ ap (λ r. x % 128 ∷ reverse (digits_of 128 r)) rest ∙ ap (λ g. g ∷ []) here)
    ]

mark_more : (x : ℕ) (xs : List ℕ) → 0 < length xs → mark_last (x ∷ xs) ≡ x ∷ mark_last xs
unfolding mark_last
mark_more x [] h = absurd (omega arith)
mark_more x (y ∷ ys) h = refl

-- any other is its lowest group, and then the number of the others
pub spelling_more : (x : ℕ) → 128 ≤ x → spelling x ≡ x % 128 ∷ spelling (x / 128)
unfolding spelling
spelling_more x h =
    let rest : ℕ = x / 128 in
    let some : 0 < rest = omega arith in
    let groups : groups_of x ≡ x % 128 ∷ groups_of rest =
    groups_above x (omega arith) ∙ groups_more x (omega arith) ∙ ap (λ gs. x % 128 ∷ gs) (sym (groups_above rest some)) in
    let many : length (groups_of rest) ≡ suc (length (reverse (digits_of 128 (rest / 128)))) =
    ap length (groups_above rest some ∙ groups_more rest some) in
    ap mark_last groups ∙ mark_more (x % 128) (groups_of rest) (omega arith)

pub spelling_step : (x : ℕ) (rest : List ℕ) → 128 ≤ x → spelling (x / 128) ≡ rest → spelling x ≡ x % 128 ∷ rest
spelling_step x rest h e = spelling_more x h ∙ ap (λ r. x % 128 ∷ r) e

-- a spelling's first byte, which tells whether it is the last
pub begins_last : (x byte : ℕ) (rest : List ℕ) → spelling x ≡ byte ∷ rest → 128 ≤ byte → (byte ≡ 128 + x) × (rest ≡ [])
begins_last x byte rest e h =
    elim (cases_lt x 128) [
      | inl last ↦ (let both : byte ∷ rest ≡ (128 + x) ∷ [] = sym e ∙ spelling_last x last in (cc, cc))
      | inr more ↦
          let both : byte ∷ rest ≡ x % 128 ∷ spelling (x / 128) = sym e ∙ spelling_more x more in
          let head : byte ≡ x % 128 = cc in
          absurd (omega arith)
    ]

pub begins_more : (x byte : ℕ) (rest : List ℕ) → spelling x ≡ byte ∷ rest → byte < 128 → (128 ≤ x) × (byte ≡ x % 128) × (spelling (x / 128) ≡ rest)
begins_more x byte rest e h =
    elim (cases_lt x 128) [
      | inl last ↦
          let both : byte ∷ rest ≡ (128 + x) ∷ [] = sym e ∙ spelling_last x last in
          let head : byte ≡ 128 + x = cc in
          absurd (omega arith)
      | inr more ↦ (let both : byte ∷ rest ≡ x % 128 ∷ spelling (x / 128) = sym e ∙ spelling_more x more in (more, cc, cc))
    ]

pub some_bytes : (x : ℕ) → 0 < length (spelling x)
some_bytes x =
    elim (cases_lt x 128) [
      | inl last ↦ omega (arith, ap length (spelling_last x last))
      | inr more ↦ omega (arith, ap length (spelling_more x more))
    ]

-- no spelling begins with another
cancels_below : (turns x y : ℕ) (s t : List ℕ) → x < turns → spelling x ++ s ≡ spelling y ++ t → (x ≡ y) × (s ≡ t)
cancels_below zero x y s t h e = absurd (omega arith)
cancels_below (suc turns) x y s t h e =
    elim (cases_lt x 128) [
      | inl x_last ↦
          elim (cases_lt y 128) [
            | inl y_last ↦
                (let both : (128 + x) ∷ s ≡ (128 + y) ∷ t =
                ap (λ l. l ++ s) (sym (spelling_last x x_last)) ∙ e ∙ ap (λ l. l ++ t) (spelling_last y y_last) in
                let head : 128 + x ≡ 128 + y = cc in
                (omega arith, cc))
            | inr y_more ↦
                let both : (128 + x) ∷ s ≡ y % 128 ∷ (spelling (y / 128) ++ t) =
                ap (λ l. l ++ s) (sym (spelling_last x x_last)) ∙ e ∙ ap (λ l. l ++ t) (spelling_more y y_more) in
                let head : 128 + x ≡ y % 128 = cc in
                absurd (omega arith)
          ]
      | inr x_more ↦
          elim (cases_lt y 128) [
            | inl y_last ↦
                let both : x % 128 ∷ (spelling (x / 128) ++ s) ≡ (128 + y) ∷ t =
                ap (λ l. l ++ s) (sym (spelling_more x x_more)) ∙ e ∙ ap (λ l. l ++ t) (spelling_last y y_last) in
                let head : x % 128 ≡ 128 + y = cc in
                absurd (omega arith)
            | inr y_more ↦
                (let both : x % 128 ∷ (spelling (x / 128) ++ s) ≡ y % 128 ∷ (spelling (y / 128) ++ t) =
                ap (λ l. l ++ s) (sym (spelling_more x x_more)) ∙ e ∙ ap (λ l. l ++ t) (spelling_more y y_more) in
                let head : x % 128 ≡ y % 128 = cc in
                let tail : spelling (x / 128) ++ s ≡ spelling (y / 128) ++ t = cc in
                let rest : (x / 128 ≡ y / 128) × (s ≡ t) = cancels_below turns (x / 128) (y / 128) s t (omega arith) tail in
                (omega (arith, rest.0), rest.1))
          ]
    ]

-- a list begins with one spelling at most, and goes on in one way
pub spelling_cancels : (x y : ℕ) (s t : List ℕ) → spelling x ++ s ≡ spelling y ++ t → (x ≡ y) × (s ≡ t)
spelling_cancels x y s t e = cancels_below (suc x) x y s t (omega arith) e

pub one_spelling_begins : (m n x y : ℕ) (bytes : List ℕ) → m ≤ length bytes → n ≤ length bytes
    → NumberSays (take m bytes) x → NumberSays (take n bytes) y → (m ≡ n) × (x ≡ y)
one_spelling_begins m n x y bytes h k p q =
    let same : (x ≡ y) × (drop m bytes ≡ drop n bytes) =
    spelling_cancels x y (drop m bytes) (drop n bytes)
    (ap (λ l. l ++ drop m bytes) (sym p.spelled) ∙ take-append-drop m bytes ∙ sym (take-append-drop n bytes) ∙ ap (λ l. l ++ drop n bytes) q.spelled) in
    (sym (length-take-le m bytes h) ∙ ap length (p.spelled ∙ ap spelling same.0 ∙ sym q.spelled) ∙ length-take-le n bytes k, same.0)

pub only_front : (n x : ℕ) (bytes : List ℕ) → n ≤ length bytes → NumberSays (take n bytes) x → FrontSaysOnly bytes n x
only_front n x bytes h says m y k other = one_spelling_begins m n y x bytes k h other says

-- a number of 64 bits takes at most ten bytes
pub length-spelling-le : (k x : ℕ) → x < 128 ^ suc k → length (spelling x) ≤ suc k
length-spelling-le zero x h = omega (arith, ap length (spelling_last x h))
length-spelling-le (suc k) x h =
    let row : 128 ^ suc (suc k) ≡ 128 ^ suc k * 128 = pow-suc 128 (suc k) in
    let low : x / 128 < 128 ^ suc k = div_below x 128 (128 ^ suc k) (omega arith) (omega arith) in
    elim (cases_lt x 128) [
      | inl last ↦ omega (arith, ap length (spelling_last x last))
      | inr more ↦ omega (arith, ap length (spelling_more x more), length-spelling-le k (x / 128) low)
    ]
