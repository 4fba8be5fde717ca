-- What is kept of groups of neighbours, and the marks of their ends.
use Rattle.std.proofs.Common.{◌≡◌, ℕ, zero, suc, ◌+◌, ◌-◌, ◌<◌, Bool, true, false, not, inl, inr, Some, List, [], ◌∷◌, length, get_or, refl, sym, ◌∙◌, ap, subst, arith}
use Rattle.std.proofs.lemmas.Bool.{cases_Bool, cond-true, cond-false}
use Rattle.std.specs.List.{dedup, dedup_from}
use Rattle.std.proofs.lemmas.List.Sums.{sum_by-cons}
use Rattle.std.proofs.lemmas.Option.{slice_get-get_or}
use Rattle.ts_bits.specs.Rank.{ones}
use Rattle.ts_bits.proofs.Ranks.{digit_of}
use Rattle.ts_adjacency.specs.Rows.{IsClosed}
use Rattle.ts_plane.specs.Groups.{marks_from, last_marks}
use Rattle.ts_plane.proofs.GroupLemmas.{length-marks_from}
use Rattle.ts_plane.proofs.Members.{In, Rises}

pub length-last_marks : {K : Type 0} (same : K → K → Bool) (xs : List K) → length (last_marks same xs) ≡ length xs
unfolding last_marks
length-last_marks same [] = refl
length-last_marks same (x ∷ xs) = length-marks_from same x xs

from_mark : {K : Type 0} (same : K → K → Bool) (k : K) (xs : List K) (j : ℕ) (d : K) → j < length xs
    → get_or (marks_from same k xs) j false ≡ not (same (get_or xs j d) (get_or (k ∷ xs) j d))
unfolding marks_from
from_mark same k [] j d h = absurd (omega arith)
from_mark same k (x ∷ xs) zero d h = refl
from_mark same k (x ∷ xs) (suc j) d h = from_mark same x xs j d (omega arith)

from_last : {K : Type 0} (same : K → K → Bool) (k : K) (xs : List K) → get_or (marks_from same k xs) (length xs) false ≡ true
unfolding marks_from
from_last same k [] = refl
from_last same k (x ∷ xs) = from_last same x xs

-- the mark of an element with a next one
pub mark_at : {K : Type 0} (same : K → K → Bool) (xs : List K) (j : ℕ) (d : K) → j + 1 < length xs
    → get_or (last_marks same xs) j false ≡ not (same (get_or xs (j + 1) d) (get_or xs j d))
unfolding last_marks
mark_at same [] j d h = absurd (omega arith)
mark_at same (x ∷ xs) j d h =
    let e : suc j ≡ j + 1 = omega arith in
    from_mark same x xs j d (omega arith) ∙ ap (λ n. not (same (get_or (x ∷ xs) n d) (get_or (x ∷ xs) j d))) e

-- and of the last
pub mark_last : {K : Type 0} (same : K → K → Bool) (xs : List K) (j : ℕ) → j + 1 ≡ length xs → get_or (last_marks same xs) j false ≡ true
unfolding last_marks
mark_last same [] j h = absurd (omega arith)
mark_last same (x ∷ xs) j h = (let e : j ≡ length xs = omega arith in ap (λ n. get_or (marks_from same x xs) n false) e) ∙ from_last same x xs

-- `dedup` keeps each key once
from_kept : {K : Type 0} (same : K → K → Bool) (z k : K) (xs : List K) → In z (dedup_from same k xs) → In z (k ∷ xs)
from_kept same z k [] h = h
from_kept same z k (x ∷ xs) h = elim (cases_Bool (same x k)) [
  | inl is_same ↦ elim (from_kept same z k xs (subst (In z) (cond-true (same x k) (dedup_from same k xs) (k ∷ dedup_from same x xs) is_same) h)) [
    | inl e ↦ inl e
    | inr later ↦ inr (inr later)
  ]
  | inr other ↦ elim (subst (In z) (cond-false (same x k) (dedup_from same k xs) (k ∷ dedup_from same x xs) other) h) [
    | inl e ↦ inl e
    | inr later ↦ inr (from_kept same z x xs later)
  ]
]

in_kept : {K : Type 0} (same : K → K → Bool) → ((a b : K) → same a b ≡ true → a ≡ b) → (z k : K) (xs : List K) → In z (k ∷ xs) → In z (dedup_from same k xs)
in_kept same equal z k [] h = h
in_kept same equal z k (x ∷ xs) h = elim (cases_Bool (same x k)) [
  | inl is_same ↦ subst (In z) (sym (cond-true (same x k) (dedup_from same k xs) (k ∷ dedup_from same x xs) is_same)) (in_kept same equal z k xs (elim h [
    | inl e ↦ inl e
    | inr later ↦ elim later [
      | inl e ↦ inl (e ∙ equal x k is_same)
      | inr behind ↦ inr behind
    ]
  ]))
  | inr other ↦ subst (In z) (sym (cond-false (same x k) (dedup_from same k xs) (k ∷ dedup_from same x xs) other)) (elim h [
    | inl e ↦ inl e
    | inr later ↦ inr (in_kept same equal z x xs later)
  ])
]

kept_rises : {K : Type 0} (same : K → K → Bool) (L R : K → K → Type 0) → ((a b : K) → L a b → same b a ≡ false → R a b)
    → ((a b c : K) → R a b → L b c → R a c) → (k : K) (xs : List K) → Rises L (k ∷ xs) → Rises R (dedup_from same k xs)
kept_rises same L R strict then k [] r = ((λ y h. absurd h), tt)
kept_rises same L R strict then k (x ∷ xs) r = elim (cases_Bool (same x k)) [
  | inl is_same ↦ subst (Rises R) (sym (cond-true (same x k) (dedup_from same k xs) (k ∷ dedup_from same x xs) is_same))
      (kept_rises same L R strict then k xs ((λ y h. r.0 y (inr h)), r.1.1))
  | inr other ↦ subst (Rises R) (sym (cond-false (same x k) (dedup_from same k xs) (k ∷ dedup_from same x xs) other)) (
    (λ y h.
        (let first : R k x = strict k x (r.0 x (inl refl)) other in
        elim (from_kept same y x xs h) [
          | inl e ↦ subst (R k) (sym e) first
          | inr later ↦ then k x y first (r.1.0 y later)
        ])),
    kept_rises same L R strict then x xs r.1,
  )
]

pub from_dedup : {K : Type 0} (same : K → K → Bool) (z : K) (xs : List K) → In z (dedup same xs) → In z xs
from_dedup same z [] h = h
from_dedup same z (x ∷ xs) h = from_kept same z x xs h

pub in_dedup : {K : Type 0} (same : K → K → Bool) → ((a b : K) → same a b ≡ true → a ≡ b) → (z : K) (xs : List K) → In z xs → In z (dedup same xs)
in_dedup same equal z [] h = h
in_dedup same equal z (x ∷ xs) h = in_kept same equal z x xs h

pub dedup_rises : {K : Type 0} (same : K → K → Bool) (L R : K → K → Type 0) → ((a b : K) → L a b → same b a ≡ false → R a b)
    → ((a b c : K) → R a b → L b c → R a c) → (xs : List K) → Rises L xs → Rises R (dedup same xs)
dedup_rises same L R strict then [] r = tt
dedup_rises same L R strict then (x ∷ xs) r = kept_rises same L R strict then x xs r

pub ones_cons : (b : Bool) (bits : List Bool) → ones (b ∷ bits) ≡ digit_of b + ones bits
ones_cons b bits = sum_by-cons digit_of b bits

kept_count : {K : Type 0} (same : K → K → Bool) → ((a b : K) → same a b ≡ true → a ≡ b) → (k : K) (xs : List K) → length (dedup_from same k xs) ≡ ones (marks_from same k xs)
unfolding marks_from
kept_count same equal k [] = refl
kept_count same equal k (x ∷ xs) = elim (cases_Bool (same x k)) [
  | inl is_same ↦
      let none : digit_of (not (same x k)) ≡ 0 = ap (λ b. digit_of (not b)) is_same in
      let ih = kept_count same equal k xs in
      let moved : ones (marks_from same x xs) ≡ ones (marks_from same k xs) = ap (λ y. ones (marks_from same y xs)) (equal x k is_same) in
      ap length (cond-true (same x k) (dedup_from same k xs) (k ∷ dedup_from same x xs) is_same)
      ∙ omega (arith, ih, none, moved, ones_cons (not (same x k)) (marks_from same x xs))
  | inr other ↦
      let one : digit_of (not (same x k)) ≡ 1 = ap (λ b. digit_of (not b)) other in
      let ih = kept_count same equal x xs in
      ap length (cond-false (same x k) (dedup_from same k xs) (k ∷ dedup_from same x xs) other)
      ∙ omega (arith, ih, one, ones_cons (not (same x k)) (marks_from same x xs))
]

-- as many groups as marks
pub dedup_count : {K : Type 0} (same : K → K → Bool) → ((a b : K) → same a b ≡ true → a ≡ b) → (xs : List K) → length (dedup same xs) ≡ ones (last_marks same xs)
unfolding last_marks
dedup_count same equal [] = refl
dedup_count same equal (x ∷ xs) = kept_count same equal x xs

-- the last element ends a group
pub marks_closed : {K : Type 0} (same : K → K → Bool) (xs : List K) → IsClosed (last_marks same xs)
marks_closed same xs = λ some.
    let marks : List Bool = last_marks same xs in
    let long = length-last_marks same xs in
    slice_get-get_or (last_marks same xs) (length (last_marks same xs) - 1) false (omega arith)
    ∙ ap (λ b. Some b) (mark_last same xs (length (last_marks same xs) - 1) (omega arith))
