use Rattle.std.proofs.Common.{◌≡◌, ◌≢◌, ℕ, ◌+◌, ◌-◌, ◌*◌, ◌/◌, ◌%◌, ◌^◌, ◌<◌, ◌≤◌, min, List, length, get_or, take, drop, ◌⊎◌, inl, inr, sym, ◌∙◌, ap, subst, arith}
use Rattle.std.proofs.lemmas.Nat.{div-add-mod'}
use Rattle.std.proofs.Math.Nat.{pow-le-pow_right}
use Rattle.std.proofs.lemmas.List.{length-take, length-drop, take_rest}
use Rattle.ts_log.specs.Groups.{joined, elements_in, element_in}
use Rattle.ts_log.specs.LogArray.{words_for, control, packed, width_of, LogSays, AreWords}
use Rattle.ts_log.proofs.GroupsLemmas.{Below, Below-All, Below-take, Below-drop}
use Rattle.ts_log.proofs.ElementLemmas.{get_or-elements_in, length-elements_in}
use Rattle.ts_log.proofs.WidthLemmas.{width_is}
use Rattle.ts_log.proofs.ArrayLemmas.{padding_for, words_enough, length-packed, packed_ends, packed_needs, packed-elements_in, Below-elements_in}
use Rattle.ts_log.proofs.WidthLemmas.{width_pos, Below_width}
use Rattle.ts_log.proofs.SaysLemmas.{IsFront, says_of_front}

pub padding_by_rest : (w n : ℕ) → (64 - n % 64 * w % 64) % 64 ≡ padding_for w n
unfolding words_for
padding_by_rest w n =
    let p : n / 64 * 64 + n % 64 ≡ n = div-add-mod' n 64 in
    let q : (n / 64 * 64 + n % 64) * w ≡ n * w = ap (λ k. k * w) p in
    omega arith

-- bytes too short for the words of a list
pub too_short : (w n : ℕ) (rest numbers : List ℕ) → length numbers ≡ n → length rest < 8 * words_for w n
    → take (8 * words_for w n) rest ≡ packed w numbers → ⊥
too_short w n rest numbers l h e =
    let many : min (8 * words_for w n) (length rest) ≡ 8 * words_for w n =
    sym (length-take (8 * words_for w n) rest) ∙ ap length e ∙ length-packed w numbers ∙ ap (λ k. 8 * words_for w k) l in
    omega arith

-- the words of a list end in zeros
pub zeros_here : (w n : ℕ) (words numbers : List ℕ) → width_of numbers ≡ w → length numbers ≡ n → words ≡ packed w numbers
    → joined 8 words % 2 ^ padding_for w n ≡ 0
zeros_here w n words numbers v l e =
    let fit : Below (2 ^ w) numbers = subst (λ k. Below (2 ^ k) numbers) v (Below_width numbers) in
    ap (λ ws. joined 8 ws % 2 ^ padding_for w n) e ∙ ap (λ k. joined 8 (packed w numbers) % 2 ^ padding_for w k) (sym l) ∙ packed_ends w numbers fit

-- and need their width
pub no_lesser : (w n : ℕ) (words numbers : List ℕ) → width_of numbers ≡ w → length numbers ≡ n → words ≡ packed w numbers
    → w ≢ 1 → ((i : ℕ) → i < n → element_in w i words < 2 ^ (w - 1)) → ⊥
no_lesser w n words numbers v l e ne low =
    let above : 1 < width_of numbers = omega (arith, width_pos numbers) in
    let there : (i : ℕ) × ((i < length numbers) × (2 ^ (w - 1) ≤ element_in w i (packed w numbers))) =
    subst (λ k. (i : ℕ) × ((i < length numbers) × (2 ^ (k - 1) ≤ element_in k i (packed k numbers)))) v (packed_needs numbers above) in
    let small : element_in w there.0 (packed w numbers) < 2 ^ (w - 1) =
    subst (λ ws. element_in w there.0 ws < 2 ^ (w - 1)) e (low there.0 (omega (arith, there.1.0))) in
    omega (arith, there.1.1)

pub are_words : (w n : ℕ) (words : List ℕ) → 1 ≤ w → w ≤ 64 → Below (2 ^ 8) words → length words ≡ 8 * words_for w n
    → joined 8 words % 2 ^ padding_for w n ≡ 0
    → (w ≡ 1) ⊎ ((i : ℕ) × ((i < n) × (2 ^ (w - 1) ≤ element_in w i words)))
    → AreWords w n words
are_words w n words p q b l z needs =
    let room : w * n ≤ 8 * length words = omega (arith, words_enough w n) in
    let reach : (w ≡ 1) ⊎ ((i : ℕ) × ((i < length (elements_in w n words)) × (2 ^ (w - 1) ≤ get_or (elements_in w n words) i 0))) =
    elim needs [
      | inl one ↦ inl one
      | inr there ↦ inr (
        there.0,
        (
          omega (arith, there.1.0, length-elements_in w n words),
          omega (arith, there.1.1, get_or-elements_in w n there.0 words b room there.1.0),
        ),
      )
    ] in
    record {
      holds = record { positive = p; narrow = q; whole = omega arith; bytes_fit = Below-All (2 ^ 8) words b; room = room };
      spelled = packed-elements_in w n words b l z;
      needed = width_is w (elements_in w n words) p (Below-elements_in w n words b room) reach;
    }

-- a control and the words that it asks for are the log array of the words' elements
pub says_here : (w n : ℕ) (bytes words : List ℕ) → Below (2 ^ 8) words → 16 ≤ length bytes → take 16 bytes ≡ control w n → n < 2 ^ 64
    → words ≡ take (8 * words_for w n) (drop 16 bytes) → AreWords w n words
    → (16 + length words ≤ length bytes) × LogSays (take (16 + length words) bytes) (elements_in w n words)
says_here w n bytes words b long e h here are =
    let xs : List ℕ = elements_in w n words in
    let count : length xs ≡ n = length-elements_in w n words in
    let many : length words ≡ 8 * words_for w n = ap length are.spelled ∙ length-packed w xs ∙ ap (λ k. 8 * words_for w k) count in
    let same : words_for (width_of xs) (length xs) ≡ words_for w n = ap (λ v. words_for v (length xs)) are.needed ∙ ap (words_for w) count in
    let within : 16 + length words ≤ length bytes =
    omega (arith, many, ap length here, length-take (8 * words_for w n) (drop 16 bytes), length-drop 16 bytes) in
    let front : IsFront xs bytes = record {
      starts = e ∙ ap (λ v. control v n) (sym are.needed) ∙ ap (control (width_of xs)) (sym count);
      long = omega (arith, same, many, within);
      goes_on = ap (λ k. take (8 * k) (drop 16 bytes)) same ∙ sym here ∙ are.spelled ∙ ap (λ v. packed v xs) (sym are.needed);
    } in
    let fit : Below (2 ^ w) xs = Below-elements_in w n words b are.holds.room in
    let most : 2 ^ w ≤ 2 ^ 64 = pow-le-pow_right {n = 2} (omega arith) are.holds.narrow in (
      within,
      record {
        spelled = ap (λ k. take k bytes) (let g : 16 + length words ≡ 16 + 8 * words_for (width_of xs) (length xs) = omega (arith, many, same) in g) ∙ says_of_front bytes xs front;
        fits = (λ k d l. omega (arith, Below-All (2 ^ w) xs fit k d l));
        counted = omega arith;
      },
    )

-- the control and the words that are found at the start of bytes are a log array there
pub front_says : (w n : ℕ) (bytes words : List ℕ) → Below (2 ^ 8) bytes → 16 ≤ length bytes → take 16 bytes ≡ control w n → n < 2 ^ 64
    → words ≡ take (8 * words_for w n) (take (length bytes - 16) (drop 16 bytes)) → AreWords w n words
    → (16 + length words ≤ length bytes) × LogSays (take (16 + length words) bytes) (elements_in w n words)
front_says w n bytes words b long e h found are =
    let there : words ≡ take (8 * words_for w n) (drop 16 bytes) = found ∙ ap (take (8 * words_for w n)) (take_rest bytes 16) in
    let fit : Below (2 ^ 8) words =
    subst (Below (2 ^ 8)) (sym there)
    (Below-take (2 ^ 8) (8 * words_for w n) (drop 16 bytes) (Below-drop (2 ^ 8) 16 bytes b)) in
    says_here w n bytes words fit long e h there are
