use Rattle.std.proofs.Common.{◌≡◌, ℕ, ◌-◌, ◌/◌, ◌^◌, ◌<◌, ◌≤◌, max, List, ◌++◌, length, get_or, take, drop, sym, ◌∙◌, ap, subst, arith, length-append, inl, inr, refl, [], ◌∷◌}
use Rattle.std.specs.Prelude.{All}
use Rattle.std.specs.Int.Digits.{digits_of}
use Rattle.std.proofs.lemmas.Bool.{cases_eq}
use Rattle.std.proofs.lemmas.List.{take_at, drop_at, take-append-drop}
use Rattle.ts_log.specs.LogArray.{greatest, width_of, words_for, log_array_of, LogSays, FrontSaysOnly}
use Rattle.ts_log.proofs.GroupsLemmas.{Below-All, Below-from_get_or}
use Rattle.ts_log.proofs.WidthLemmas.{le_greatest, greatest_lt}
use Rattle.ts_log.proofs.SaysLemmas.{length-log_array_of, one_list_said}
use Rattle.ts_idmap.specs.Permutation.{Permutes, place_in, inverse_of, AreInverse}
use Rattle.ts_idmap.specs.IdMap.{map_of, MapSays}
use Rattle.ts_idmap.proofs.PermutationLemmas.{length-inverse_of, get_or-inverse_of, number_below, place_below, place_in-get_or, get_or-place_in}

fits_by : (n : ℕ) (xs : List ℕ) → n < 2 ^ 64 → ((i : ℕ) → i < length xs → get_or xs i 0 < n) → All (λ x. x < 2 ^ 64) xs
fits_by n xs h below = Below-All (2 ^ 64) xs (Below-from_get_or (2 ^ 64) xs (λ i k. let b : get_or xs i 0 < n = below i k in omega arith))

inverse_below : (outer : List ℕ) → Permutes outer → (i : ℕ) → i < length (inverse_of outer) → get_or (inverse_of outer) i 0 < length outer
inverse_below outer p i h =
    let before : i < length outer = omega (arith, length-inverse_of outer) in
    subst (λ n. n < length outer) (sym (get_or-inverse_of outer i before)) (place_below outer i p before)

-- a permutation in its log array
pub outer_says : (outer : List ℕ) → Permutes outer → length outer < 2 ^ 64 → LogSays (log_array_of outer) outer
outer_says outer p h = record {
  spelled = refl;
  fits = fits_by (length outer) outer h (λ i k. number_below outer i p k);
  counted = h;
}

-- and its inverse
pub inverse_says : (outer : List ℕ) → Permutes outer → length outer < 2 ^ 64 → LogSays (log_array_of (inverse_of outer)) (inverse_of outer)
inverse_says outer p h = record {
  spelled = refl;
  fits = fits_by (length outer) (inverse_of outer) h (inverse_below outer p);
  counted = omega (arith, length-inverse_of outer);
}

-- where the two log arrays of a map stand in its bytes
pub record Halves (bytes outer : List ℕ) (size : ℕ) : Type 0 where
  pub within : size ≤ length bytes
  pub first : LogSays (take size bytes) outer
  pub second : LogSays (drop size bytes) (inverse_of outer)

pub halves_of : (bytes outer : List ℕ) → MapSays bytes outer → Halves bytes outer (length (log_array_of outer))
unfolding map_of
halves_of bytes outer says =
    let a : List ℕ = log_array_of outer in
    let b : List ℕ = log_array_of (inverse_of outer) in
    let front : take (length a) bytes ≡ a = ap (take (length a)) says.spelled ∙ take_at a b (length a) refl in
    let back : drop (length a) bytes ≡ b = ap (drop (length a)) says.spelled ∙ drop_at a b (length a) refl in
    record {
      within = omega (arith, ap length says.spelled, length-append a b);
      first = subst (λ l. LogSays l outer) (sym front) (outer_says outer says.permutes says.counted);
      second = subst (λ l. LogSays l (inverse_of outer)) (sym back) (inverse_says outer says.permutes says.counted);
    }

-- and two such log arrays make the map
pub says_by_halves : (bytes outer inverse : List ℕ) (size : ℕ) → LogSays (take size bytes) outer → LogSays (drop size bytes) inverse
    → AreInverse outer inverse → MapSays bytes outer
unfolding map_of
says_by_halves bytes outer inverse size first second are = record {
  permutes = are.permutes;
  spelled = sym (take-append-drop size bytes) ∙ ap (λ l. l ++ drop size bytes) first.spelled
      ∙ ap (λ l. log_array_of outer ++ l) (second.spelled ∙ ap log_array_of are.inverts);
  counted = first.counted;
}

-- what is found at the front is the permutation of any map that the bytes are, and what follows its inverse
pub halves_found : (bytes outer found : List ℕ) (size : ℕ) → FrontSaysOnly bytes size found → MapSays bytes outer
    → (outer ≡ found) × LogSays (drop size bytes) (inverse_of outer)
halves_found bytes outer found size only says =
    let halves = halves_of bytes outer says in
    let same : (length (log_array_of outer) ≡ size) × (outer ≡ found) = only (length (log_array_of outer)) outer halves.within halves.first in
    (same.1, subst (λ n. LogSays (drop n bytes) (inverse_of outer)) same.0 halves.second)

greatest_is : (n : ℕ) (xs : List ℕ) → 0 < n → ((i : ℕ) → i < length xs → get_or xs i 0 < n)
    → (i : ℕ) → i < length xs → get_or xs i 0 ≡ n - 1 → greatest xs ≡ n - 1
greatest_is n xs some below i h last =
    omega (arith, greatest_lt n xs some (Below-from_get_or n xs below), le_greatest xs i h)

nothing : (outer : List ℕ) → length outer ≡ 0 → greatest (inverse_of outer) ≡ greatest outer
unfolding inverse_of greatest
nothing [] h = refl
nothing (x ∷ xs) h = absurd (omega arith)

-- a permutation and its inverse have one greatest number, and so log arrays of one length
same_greatest : (outer : List ℕ) → Permutes outer → greatest (inverse_of outer) ≡ greatest outer
same_greatest outer p =
    elim (cases_eq (length outer) 0) [
      | inl none ↦ (nothing outer none)
      | inr some ↦
          let last : ℕ = length outer - 1 in
          let before : last < length outer = omega arith in
          let place : ℕ = place_in outer last in
          let number : ℕ = get_or outer last 0 in
          let here : greatest outer ≡ last =
          greatest_is (length outer) outer (omega arith) (λ i k. number_below outer i p k) place (place_below outer last p before) (get_or-place_in outer last p before) in
          let there : greatest (inverse_of outer) ≡ last =
          greatest_is (length outer) (inverse_of outer) (omega arith) (inverse_below outer p) number
          (omega (arith, length-inverse_of outer, number_below outer last p before))
          (get_or-inverse_of outer number (number_below outer last p before) ∙ place_in-get_or outer last p before) in
          there ∙ sym here
    ]

same_length : (outer : List ℕ) → Permutes outer → length (log_array_of (inverse_of outer)) ≡ length (log_array_of outer)
unfolding width_of
same_length outer p =
    let wide : width_of (inverse_of outer) ≡ width_of outer = ap (λ n. max 1 (length (digits_of 2 n))) (same_greatest outer p) in
    let words : words_for (width_of (inverse_of outer)) (length (inverse_of outer)) ≡ words_for (width_of outer) (length outer) =
    ap (λ w. words_for w (length (inverse_of outer))) wide ∙ ap (words_for (width_of outer)) (length-inverse_of outer) in
    omega (arith, length-log_array_of outer, length-log_array_of (inverse_of outer))

-- the second begins in the middle
pub middle_of : (bytes outer : List ℕ) → MapSays bytes outer → Halves bytes outer (length bytes / 2)
unfolding map_of
middle_of bytes outer says =
    let a : List ℕ = log_array_of outer in
    let b : List ℕ = log_array_of (inverse_of outer) in
    let middle : length a ≡ length bytes / 2 = omega (arith, ap length says.spelled, length-append a b, same_length outer says.permutes) in
    subst (Halves bytes outer) middle (halves_of bytes outer says)

-- bytes are the map of one permutation at most
pub one_map_said : (bytes a b : List ℕ) → MapSays bytes a → MapSays bytes b → a ≡ b
one_map_said bytes a b p q =
    let first = middle_of bytes a p in
    let second = middle_of bytes b q in
    one_list_said (take (length bytes / 2) bytes) a b first.first second.first
