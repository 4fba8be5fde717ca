-- Words with one bit more, and objects of which each is marked.
use Rattle.std.proofs.Common.{◌≡◌, ◌≢◌, ℕ, ◌+◌, ◌*◌, ◌/◌, ◌%◌, ◌^◌, ◌<◌, ◌↔◌, List, length, slice_index, slice_set, get_or, bit_or, w64, sym, ◌∙◌, ap, subst, arith, inl, inr}
use Rattle.std.proofs.lemmas.Bool.{cases_eq, cases_lt}
use Rattle.std.proofs.lemmas.List.{get_or_default, get_or-set_same, get_or-set_other}
use Rattle.std.proofs.lemmas.Nat.Bits.{bit_at_set_same, bit_at_set_other}
use Rattle.std.specs.Int.{bit_at}
use Rattle.std.specs.List.Sorted.{IsStrictlyIncreasing}
use Rattle.ts_log.proofs.RisingLemmas.{rises}
use Rattle.ts_plane.specs.Marks.{IsMarked}
use Rattle.ts_plane.specs.Objects.{EachStands, Stands}

-- word i / 64 with bit i % 64 set
abbrev pub with_mark : List ℕ → ℕ → ℕ → List ℕ
with_mark words i word = slice_set words (i / 64) (bit_or word (1 * 2 ^ (i % 64) % 2 ^ 64))

pub mark_here : (words : List ℕ) (i word : ℕ) → i / 64 < length words → IsMarked (with_mark words i word) i
mark_here words i word within =
    ap (λ w. bit_at w (i % 64)) (get_or-set_same words (i / 64) (bit_or word (1 * 2 ^ (i % 64) % 2 ^ 64)) 0 within)
    ∙ bit_at_set_same w64 word (i % 64) (omega arith)

pub mark_other : (words : List ℕ) (i word k : ℕ) → i / 64 < length words → word ≡ get_or words (i / 64) word → k ≢ i
    → bit_at (slice_index (with_mark words i word) (k / 64)) (k % 64) ≡ bit_at (slice_index words (k / 64)) (k % 64)
mark_other words i word k within is apart =
    let new = bit_or word (1 * 2 ^ (i % 64) % 2 ^ 64) in
    elim (cases_eq (k / 64) (i / 64)) [
      | inl same ↦
          (let differ : k % 64 ≢ i % 64 = λ e. apart (omega (arith, same, e)) in
          ap (λ n. bit_at (get_or (with_mark words i word) n 0) (k % 64)) same
          ∙ ap (λ w. bit_at w (k % 64)) (get_or-set_same words (i / 64) new 0 within)
          ∙ bit_at_set_other w64 word (i % 64) (omega arith) (k % 64) differ
          ∙ ap (λ w. bit_at w (k % 64)) (is ∙ get_or_default words (i / 64) word 0 within)
          ∙ ap (λ n. bit_at (get_or words n 0) (k % 64)) (sym same))
      | inr other ↦ ap (λ w. bit_at w (k % 64)) (get_or-set_other words (i / 64) (k / 64) new 0 other)
    ]

pub marks_stay : (words : List ℕ) (i word k : ℕ) → i / 64 < length words → word ≡ get_or words (i / 64) word → k ≢ i
    → IsMarked (with_mark words i word) k ↔ IsMarked words k
marks_stay words i word k within is apart =
    let same = mark_other words i word k within is apart in
    ((λ e. sym same ∙ e), (λ e. same ∙ e))

-- a number stands at one place among rising ones
pub one_place : (xs : List ℕ) (i j : ℕ) → IsStrictlyIncreasing xs → i < length xs → j < length xs → slice_index xs i ≡ slice_index xs j → i ≡ j
one_place xs i j rising low high same = elim (cases_lt i j) [
  | inl less ↦ (let up = rises xs 0 (length xs) i j (λ k l m. rising k m) (omega arith) less (omega arith) in absurd (omega (arith, up, same)))
  | inr not ↦ elim (cases_lt j i) [
    | inl more ↦ (let up = rises xs 0 (length xs) j i (λ k l m. rising k m) (omega arith) more (omega arith) in absurd (omega (arith, up, same)))
    | inr neither ↦ omega arith
  ]
]

-- each number of the others is marked among rising ones, at its place
abbrev pub EachSeen : List ℕ → List ℕ → List ℕ → ℕ → Type 0
EachSeen words xs others n =
    (k : ℕ) → k < n → (i : ℕ) × (i < length xs) × (slice_index xs i ≡ slice_index others k) × IsMarked words i

-- and what is marked stands among the others
abbrev pub MarkedStand : List ℕ → List ℕ → List ℕ → Type 0
MarkedStand words xs others = (i : ℕ) → i < length xs → IsMarked words i → Stands others (slice_index xs i)

pub seen_marked : (words xs others : List ℕ) → IsStrictlyIncreasing xs → EachSeen words xs others (length others) → EachStands others xs
    → (i : ℕ) → i < length xs → IsMarked words i
seen_marked words xs others rising seen each i within =
    let stands = each i within in
    let at = seen stands.0 stands.1 in
    subst (IsMarked words) (one_place xs at.0 i rising at.1 within (at.2 ∙ stands.2)) at.3

-- one mark more
pub seen_more : (old new xs others : List ℕ) (i n : ℕ) → i < length xs → slice_index xs i ≡ slice_index others n → IsMarked new i
    → ((k : ℕ) → k ≢ i → (IsMarked new k ↔ IsMarked old k)) → EachSeen old xs others n → EachSeen new xs others (n + 1)
seen_more old new xs others i n within there here stay seen k low = elim (cases_lt k n) [
  | inl less ↦ (let at = seen k less in elim (cases_eq at.0 i) [
    | inl same ↦ (at.0, at.1, at.2, subst (IsMarked new) (sym same) here)
    | inr apart ↦ (at.0, at.1, at.2, (stay at.0 apart).1 at.3)
  ])
  | inr not ↦ (let e : n ≡ k = omega arith in (i, within, there ∙ ap (slice_index others) e, here))
]

pub stand_more : (old new xs others : List ℕ) (i n : ℕ) → n < length others → slice_index xs i ≡ slice_index others n
    → ((k : ℕ) → k ≢ i → (IsMarked new k ↔ IsMarked old k)) → MarkedStand old xs others → MarkedStand new xs others
stand_more old new xs others i n within there stay stand k low marked = elim (cases_eq k i) [
  | inl same ↦ (n, within, sym there ∙ ap (slice_index xs) (sym same))
  | inr apart ↦ stand k low ((stay k apart).0 marked)
]
