use Rattle.std.proofs.Common.{◌≡◌, ◌≢◌, ℕ, zero, suc, ◌+◌, ◌-◌, ◌%◌, ◌^◌, ◌<◌, ◌≤◌, ◌==◌, cond, List, [], ◌++◌, length, take, drop, refl, sym, ◌∙◌, ap, arith, inl, inr, length-append, length-take}
use Rattle.std.proofs.lemmas.Bool.{cases_eq, cond-true, cond-false, eq-eqb, ne_eqb}
use Rattle.ts_front.specs.Shared.{text_at}
use Rattle.ts_front.specs.Dictionary.{place_of}
use Rattle.ts_front.specs.Pieces.{before_at, shared_at, suffix_at, piece_bytes, IsBlock}
use Rattle.ts_front.proofs.EntriesLemmas.{Stands, Found, stands, found_piece, before_first, before_other, entry_made, shared_fits, suffix_first, place_le, place_more, entry_piece, piece_long}

-- the last entry read of a block, and no bytes where none has been
unfoldable pub last_of : List (List ℕ) → ℕ → ℕ → List ℕ
last_of texts first i = cond (i == first) [] (text_at texts (i - 1))

pub last_start : (texts : List (List ℕ)) (first : ℕ) → last_of texts first first ≡ []
unfolding last_of
last_start texts first = cond-true (first == first) _ _ (eq-eqb first first refl)

pub last_later : (texts : List (List ℕ)) (first i : ℕ) → first < i → last_of texts first i ≡ text_at texts (i - 1)
unfolding last_of
last_later texts first i h = cond-false (i == first) _ _ (ne_eqb i first (λ same. omega arith))

pub last_next : (texts : List (List ℕ)) (first i : ℕ) → first ≤ i → last_of texts first (i + 1) ≡ text_at texts i
last_next texts first i h =
    last_later texts first (i + 1) (omega arith) ∙ ap (text_at texts) (let e : i + 1 - 1 ≡ i = omega arith in e)

-- the next entry is spelled from it
pub before_last : (texts : List (List ℕ)) (first i : ℕ) → first % 8 ≡ 0 → first ≤ i → i < first + 8 → before_at texts i ≡ last_of texts first i
before_last texts first i h low high =
    elim (cases_eq i first) [
      | inl same ↦ before_first texts i (omega arith) ∙ sym (last_start texts first) ∙ ap (last_of texts first) (sym same)
      | inr other ↦ before_other texts i (λ none. omega arith) ∙ sym (last_later texts first i (omega arith))
    ]

-- what a reader finds at the next entry of a block
pub record Step (texts : List (List ℕ)) (first i next shared : ℕ) (suffix : List ℕ) : Type 0 where
  pub goes_on : next ≡ place_of texts (i + 1)
  pub fits : shared ≤ length (last_of texts first i)
  pub made : take shared (last_of texts first i) ++ suffix ≡ last_of texts first (i + 1)

pub block_stands : (body : List ℕ) (place first end : ℕ) (texts : List (List ℕ)) (i : ℕ) → IsBlock body place first end texts → i < end → Stands texts body i
block_stands body place first end texts i block h = stands texts body block.rest i end h block.spelled

pub block_step : (body : List ℕ) (place first end : ℕ) (texts : List (List ℕ)) (i at next shared : ℕ) (suffix : List ℕ)
    → IsBlock body place first end texts → end ≤ first + 8 → first ≤ i → i < end → at ≡ place_of texts i
    → (at ≤ next) × (next ≤ length body) × (take (next - at) (drop at body) ≡ piece_bytes (i % 8 == 0) shared suffix) × (i % 8 ≡ 0 → shared ≡ 0)
    → Step texts first i next shared suffix
block_step body place first end texts i at next shared suffix block few low high e read =
    let found : Found texts i at next shared suffix =
    found_piece texts body i at next shared suffix (block_stands body place first end texts i block high) e read.0 read.1 read.2 read.3 in
    let before : before_at texts i ≡ last_of texts first i = before_last texts first i block.begins low (omega arith) in
    record {
      goes_on = found.goes_on;
      fits = omega (arith, found.shares, shared_fits texts i, ap length before);
      made = ap (λ s. take s (last_of texts first i) ++ suffix) found.shares
          ∙ ap (λ b. take (shared_at texts i) b ++ suffix) (sym before)
          ∙ ap (λ r. take (shared_at texts i) (before_at texts i) ++ r) found.adds
          ∙ entry_made texts i ∙ sym (last_next texts first i low);
    }

-- a text is no longer than the bytes up to its end
pub text_fits : (texts : List (List ℕ)) (i : ℕ) → length (text_at texts i) ≤ place_of texts (i + 1)
text_fits texts zero =
    let first : 0 % 8 ≡ 0 = refl in
    omega (arith, place_more texts 0, ap length (entry_piece texts 0), piece_long (0 % 8 == 0) (shared_at texts 0) (suffix_at texts 0), ap length (suffix_first texts 0 first))
text_fits texts (suc i) =
    elim (cases_eq (suc i % 8) 0) [
      | inl first ↦
          omega (
            arith,
            place_more texts (suc i),
            ap length (entry_piece texts (suc i)),
            piece_long (suc i % 8 == 0) (shared_at texts (suc i)) (suffix_at texts (suc i)),
            ap length (suffix_first texts (suc i) first),
          )
      | inr other ↦
          let before : before_at texts (suc i) ≡ text_at texts i =
          before_other texts (suc i) other ∙ ap (text_at texts) (let e : suc i - 1 ≡ i = omega arith in e) in
          let place : place_of texts (i + 1) ≡ place_of texts (suc i) = ap (place_of texts) (let e : i + 1 ≡ suc i = omega arith in e) in
          omega (
            arith,
            text_fits texts i,
            place,
            place_more texts (suc i),
            ap length (entry_piece texts (suc i)),
            piece_long (suc i % 8 == 0) (shared_at texts (suc i)) (suffix_at texts (suc i)),
            ap length (entry_made texts (suc i)),
            length-append (take (shared_at texts (suc i)) (before_at texts (suc i))) (suffix_at texts (suc i)),
            length-take (shared_at texts (suc i)) (before_at texts (suc i)),
            ap length before,
          )
    ]

-- what an entry is spelled from fits too
pub before_fits : (texts : List (List ℕ)) (i : ℕ) → length (before_at texts i) ≤ place_of texts i
before_fits texts i =
    elim (cases_eq (i % 8) 0) [
      | inl first ↦ omega (arith, ap length (before_first texts i first))
      | inr other ↦
          let before : before_at texts i ≡ text_at texts (i - 1) = before_other texts i other in
          let place : place_of texts (i - 1 + 1) ≡ place_of texts i = ap (place_of texts) (let e : i - 1 + 1 ≡ i = omega arith in e) in
          omega (arith, ap length before, text_fits texts (i - 1), place)
    ]

-- where an entry stands, a reader finds a piece
pub stands_read : (texts : List (List ℕ)) (body : List ℕ) (i at : ℕ) → Stands texts body i → length body < 2 ^ 64 → at ≡ place_of texts i
    → ((shared : ℕ) (suffix rest : List ℕ) → shared < 2 ^ 64 → length suffix < 2 ^ 64 → drop at body ≢ piece_bytes (i % 8 == 0) shared suffix ++ rest) → ⊥
stands_read texts body i at s small e none =
    let before : place_of texts i ≤ place_of texts (i + 1) = place_le texts i (i + 1) (omega arith) in
    let shared : shared_at texts i < 2 ^ 64 = omega (arith, shared_fits texts i, before_fits texts i, s.fits) in
    let rest : length (suffix_at texts i) < 2 ^ 64 =
    omega (arith, piece_long (i % 8 == 0) (shared_at texts i) (suffix_at texts i), ap length (entry_piece texts i), place_more texts i, s.fits) in
    none (shared_at texts i) (suffix_at texts i) s.after shared rest (ap (λ p. drop p body) e ∙ s.here)

-- so a reader of a block stands within the bytes
pub block_inside : (body : List ℕ) (place first end : ℕ) (texts : List (List ℕ)) (i at : ℕ) → IsBlock body place first end texts → i < end → at ≡ place_of texts i
    → at ≤ length body
block_inside body place first end texts i at block h e =
    omega (arith, (block_stands body place first end texts i block h).fits, place_le texts i (i + 1) (omega arith))

-- and finds a piece there
pub block_read : (body : List ℕ) (place first end : ℕ) (texts : List (List ℕ)) (i at : ℕ) → IsBlock body place first end texts → length body < 2 ^ 64 → i < end → at ≡ place_of texts i
    → ((shared : ℕ) (suffix rest : List ℕ) → shared < 2 ^ 64 → length suffix < 2 ^ 64 → drop at body ≢ piece_bytes (i % 8 == 0) shared suffix ++ rest) → ⊥
block_read body place first end texts i at block small h e none =
    stands_read texts body i at (block_stands body place first end texts i block h) small e none
