use Rattle.std.proofs.Common.{◌≡◌, ◌≢◌, ℕ, zero, suc, ◌+◌, ◌<◌, ◌≤◌, ◌==◌, List, [], ◌∷◌, ◌++◌, length, take, drop, refl, sym, ◌∙◌, ap, arith, inl, inr}
use Rattle.std.specs.Cmp.Lexicographic.{slice_cmp}
use Rattle.std.specs.Ordering.{nat_cmp, ordering_then}
use Rattle.std.specs.declared.cmp.Ordering.TheVariants.{Less, Equal, Greater}
use Rattle.std.proofs.lemmas.Bool.{cases_eq, cases_order, cond-true, cond-false, eq-eqb, ne_eqb}
use Rattle.std.proofs.lemmas.Bool.Decides.{nat_tests}
use Rattle.ts_front.specs.Shared.{shared_length}
use Rattle.ts_front.specs.Pieces.{FirstBelow}

pub shared_same : (x : ℕ) (xs ys : List ℕ) → shared_length (x ∷ xs) (x ∷ ys) ≡ suc (shared_length xs ys)
unfolding shared_length
shared_same x xs ys = cond-true (x == x) _ _ (eq-eqb x x refl)

pub shared_apart : (x y : ℕ) (xs ys : List ℕ) → x ≢ y → shared_length (x ∷ xs) (y ∷ ys) ≡ 0
unfolding shared_length
shared_apart x y xs ys h = cond-false (x == y) _ _ (ne_eqb x y h)

pub shared_none : (ys : List ℕ) → shared_length [] ys ≡ 0
unfolding shared_length
shared_none ys = refl

pub shared_with_none : (xs : List ℕ) → shared_length xs [] ≡ 0
unfolding shared_length
shared_with_none [] = refl
shared_with_none (x ∷ xs) = refl

-- what an order says of the first numbers
cmp_same : (x : ℕ) → nat_cmp x x ≡ Equal
cmp_same x = grind (arith, nat_tests)

cmp_less : (x y : ℕ) → x < y → nat_cmp x y ≡ Less
cmp_less x y h = grind (arith, nat_tests)

cmp_greater : (x y : ℕ) → y < x → nat_cmp x y ≡ Greater
cmp_greater x y h = grind (arith, nat_tests)

pub order_same : (x : ℕ) (xs ys : List ℕ) → slice_cmp nat_cmp (x ∷ xs) (x ∷ ys) ≡ slice_cmp nat_cmp xs ys
order_same x xs ys = ap (λ o. ordering_then o (slice_cmp nat_cmp xs ys)) (cmp_same x)

pub order_less : (x y : ℕ) (xs ys : List ℕ) → x < y → slice_cmp nat_cmp (x ∷ xs) (y ∷ ys) ≡ Less
order_less x y xs ys h = ap (λ o. ordering_then o (slice_cmp nat_cmp xs ys)) (cmp_less x y h)

pub order_greater : (x y : ℕ) (xs ys : List ℕ) → y < x → slice_cmp nat_cmp (x ∷ xs) (y ∷ ys) ≡ Greater
order_greater x y xs ys h = ap (λ o. ordering_then o (slice_cmp nat_cmp xs ys)) (cmp_greater x y h)

-- where the first numbers differ, they alone tell the order
pub order_apart : (x y : ℕ) (xs ys zs ws : List ℕ) → x ≢ y → slice_cmp nat_cmp (x ∷ xs) (y ∷ ys) ≡ slice_cmp nat_cmp (x ∷ zs) (y ∷ ws)
order_apart x y xs ys zs ws h =
    elim (cases_order x y) [
      | inl same ↦ absurd (h same)
      | inr other ↦
          elim other [
            | inl less ↦ order_less x y xs ys less ∙ sym (order_less x y zs ws less)
            | inr more ↦ order_greater x y xs ys more ∙ sym (order_greater x y zs ws more)
          ]
    ]

-- no more is shared than either text has
pub shared_le : (xs ys : List ℕ) → shared_length xs ys ≤ length xs
shared_le [] ys = omega (arith, shared_none ys)
shared_le (x ∷ xs) [] = omega (arith, shared_with_none (x ∷ xs))
shared_le (x ∷ xs) (y ∷ ys) =
    elim (cases_eq x y) [
      | inl same ↦ rw (← same) (omega (arith, shared_same x xs ys, shared_le xs ys))
      | inr other ↦ omega (arith, shared_apart x y xs ys other)
    ]

pub shared_le_right : (xs ys : List ℕ) → shared_length xs ys ≤ length ys
shared_le_right [] ys = omega (arith, shared_none ys)
shared_le_right (x ∷ xs) [] = omega (arith, shared_with_none (x ∷ xs))
shared_le_right (x ∷ xs) (y ∷ ys) =
    elim (cases_eq x y) [
      | inl same ↦ rw (← same) (omega (arith, shared_same x xs ys, shared_le_right xs ys))
      | inr other ↦ omega (arith, shared_apart x y xs ys other)
    ]

-- a text is what it shares with another, and the rest of it
pub shared_made : (xs ys : List ℕ) → take (shared_length xs ys) xs ++ drop (shared_length xs ys) ys ≡ ys
shared_made [] ys = rw (shared_none ys) refl
shared_made (x ∷ xs) [] = rw (shared_with_none (x ∷ xs)) refl
shared_made (x ∷ xs) (y ∷ ys) =
    elim (cases_eq x y) [
      | inl same ↦ rw (← same) (rw (shared_same x xs ys) (ap (λ t. x ∷ t) (shared_made xs ys)))
      | inr other ↦ rw (shared_apart x y xs ys other) refl
    ]

-- of two texts in order, what the second adds begins greater than what it leaves of the first
pub FirstBelow-rising : (xs ys : List ℕ) → slice_cmp nat_cmp xs ys ≡ Less → FirstBelow (drop (shared_length xs ys) xs) (drop (shared_length xs ys) ys)
FirstBelow-rising [] [] e = absurd (cc)
FirstBelow-rising [] (y ∷ ys) e = rw (shared_none (y ∷ ys)) tt
FirstBelow-rising (x ∷ xs) [] e = absurd (cc)
FirstBelow-rising (x ∷ xs) (y ∷ ys) e =
    elim (cases_order x y) [
      | inl same ↦ rw (← same) (rw (shared_same x xs ys) (FirstBelow-rising xs ys (sym (order_same x xs ys) ∙ rw (← same) at e)))
      | inr other ↦
          elim other [
            | inl less ↦ rw (shared_apart x y xs ys (λ same. omega arith)) less
            | inr more ↦ absurd (let both : Less ≡ Greater = sym e ∙ order_greater x y xs ys more in cc)
          ]
    ]

-- and what begins greater than what it leaves makes a text that is greater, and shares no more
pub made_greater : (s : ℕ) (xs rest : List ℕ) → s ≤ length xs → FirstBelow (drop s xs) rest
    → (shared_length xs (take s xs ++ rest) ≡ s) × (slice_cmp nat_cmp xs (take s xs ++ rest) ≡ Less)
made_greater zero [] [] h below = absurd below
made_greater zero [] (y ∷ ys) h below = (shared_none (y ∷ ys), refl)
made_greater zero (x ∷ xs) [] h below = absurd below
made_greater zero (x ∷ xs) (y ∷ ys) h below = (shared_apart x y xs ys (λ same. omega arith), order_less x y xs ys below)
made_greater (suc s) [] rest h below = absurd (omega arith)
made_greater (suc s) (x ∷ xs) rest h below =
    let more : (shared_length xs (take s xs ++ rest) ≡ s) × (slice_cmp nat_cmp xs (take s xs ++ rest) ≡ Less) =
    made_greater s xs rest (omega arith) below in
    (shared_same x xs (take s xs ++ rest) ∙ ap suc more.0, order_same x xs (take s xs ++ rest) ∙ more.1)

-- how an entry compares with a text, where it takes no more from the one before than that shares with the text
pub compares_within : (s : ℕ) (xs rest text : List ℕ) → s ≤ length xs → s ≤ shared_length xs text
    → (shared_length (take s xs ++ rest) text ≡ s + shared_length rest (drop s text)) × (slice_cmp nat_cmp (take s xs ++ rest) text ≡ slice_cmp nat_cmp rest (drop s text))
compares_within zero xs rest text h k = (omega arith, refl)
compares_within (suc s) [] rest text h k = absurd (omega arith)
compares_within (suc s) (x ∷ xs) rest [] h k = absurd (omega (arith, shared_with_none (x ∷ xs)))
compares_within (suc s) (x ∷ xs) rest (y ∷ ys) h k =
    elim (cases_eq x y) [
      | inl same ↦
          rw (← same)
          (let less : s ≤ shared_length xs ys = omega (arith, shared_same x xs ys, ap (λ v. shared_length (x ∷ xs) (v ∷ ys)) same) in
          let more : (shared_length (take s xs ++ rest) ys ≡ s + shared_length rest (drop s ys)) × (slice_cmp nat_cmp (take s xs ++ rest) ys ≡ slice_cmp nat_cmp rest (drop s ys)) =
          compares_within s xs rest ys (omega arith) less in
          (omega (arith, shared_same x (take s xs ++ rest) ys, more.0), order_same x (take s xs ++ rest) ys ∙ more.1))
      | inr other ↦ absurd (omega (arith, shared_apart x y xs ys other))
    ]

-- and where it takes more, it compares as the one before
pub compares_past : (s : ℕ) (xs rest text : List ℕ) → s ≤ length xs → shared_length xs text < s
    → (shared_length (take s xs ++ rest) text ≡ shared_length xs text) × (slice_cmp nat_cmp (take s xs ++ rest) text ≡ slice_cmp nat_cmp xs text)
compares_past zero xs rest text h k = absurd (omega arith)
compares_past (suc s) [] rest text h k = absurd (omega arith)
compares_past (suc s) (x ∷ xs) rest [] h k = (shared_with_none (x ∷ (take s xs ++ rest)) ∙ sym (shared_with_none (x ∷ xs)), refl)
compares_past (suc s) (x ∷ xs) rest (y ∷ ys) h k =
    elim (cases_eq x y) [
      | inl same ↦
          rw (← same)
          (let less : shared_length xs ys < s = omega (arith, shared_same x xs ys, ap (λ v. shared_length (x ∷ xs) (v ∷ ys)) same) in
          let more : (shared_length (take s xs ++ rest) ys ≡ shared_length xs ys) × (slice_cmp nat_cmp (take s xs ++ rest) ys ≡ slice_cmp nat_cmp xs ys) =
          compares_past s xs rest ys (omega arith) less in
          (shared_same x (take s xs ++ rest) ys ∙ ap suc more.0 ∙ sym (shared_same x xs ys), order_same x (take s xs ++ rest) ys ∙ more.1 ∙ sym (order_same x xs ys)))
      | inr other ↦ (
        shared_apart x y (take s xs ++ rest) ys other ∙ sym (shared_apart x y xs ys other),
        order_apart x y (take s xs ++ rest) ys xs ys other,
      )
    ]
