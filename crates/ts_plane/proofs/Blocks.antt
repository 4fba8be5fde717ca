-- Edges in blocks, one block for each right side.
use Rattle.std.proofs.Common.{◌≡◌, ◌≢◌, ℕ, zero, suc, ◌<◌, ◌≤◌, eqb, List, [], ◌∷◌, ◌++◌, length, map, get_or, refl, ap, ◌∙◌, arith, inl, inr}
use Rattle.std.proofs.lemmas.Bool.{cases_lt, cases_eq, cond-true, cond-false, lt-ltb, le-ltb, eq-eqb, ne_eqb}
use Rattle.std.proofs.lemmas.List.{append-nil, map-append}
use Rattle.std.proofs.lemmas.List.Elements.{All-append, All-nil, filter-append}
use Rattle.std.specs.List.{All, AllByRecursion, dedup, dedup_from, filter, flat_map}
use Rattle.ts_plane.specs.Turned.{put, rising_of}

-- each number of a list is above the one before, and the first above this one
abbrev pub RisesFrom : ℕ → List ℕ → Type 0
RisesFrom r [] = Unit {0}
RisesFrom r (x ∷ xs) = (r < x) × RisesFrom x xs

abbrev pub Rises : List ℕ → Type 0
Rises [] = Unit {0}
Rises (x ∷ xs) = RisesFrom x xs

-- a number is put in its place
put_first : (x y : ℕ) (ys : List ℕ) → x < y → put x (y ∷ ys) ≡ x ∷ y ∷ ys
unfolding put
put_first x y ys h = cond-true _ _ _ (lt-ltb x y h)

put_same : (x y : ℕ) (ys : List ℕ) → x ≡ y → put x (y ∷ ys) ≡ y ∷ ys
unfolding put
put_same x y ys h = cond-false _ _ _ (le-ltb x y (omega arith)) ∙ cond-true _ _ _ (eq-eqb x y h)

put_later : (x y : ℕ) (ys : List ℕ) → y < x → put x (y ∷ ys) ≡ y ∷ put x ys
unfolding put
put_later x y ys h = cond-false _ _ _ (le-ltb x y (omega arith)) ∙ cond-false _ _ _ (ne_eqb x y (λ e. omega arith))

put_none : (x : ℕ) → put x [] ≡ x ∷ []
unfolding put
put_none x = refl

put_rises_from : (x r : ℕ) (ys : List ℕ) → RisesFrom r ys → r < x → RisesFrom r (put x ys)
put_rises_from x r [] rises h = rw (put_none x) (h, tt)
put_rises_from x r (y ∷ ys) rises h = elim (cases_lt x y) [
  | inl low ↦ rw (put_first x y ys low) (h, (low, rises.1))
  | inr not ↦ elim (cases_eq x y) [
    | inl same ↦ rw (put_same x y ys same) rises
    | inr other ↦ (let high : y < x = omega arith in rw (put_later x y ys high) (rises.0, put_rises_from x y ys rises.1 high))
  ]
]

put_rises : (x : ℕ) (ys : List ℕ) → Rises ys → Rises (put x ys)
put_rises x [] rises = rw (put_none x) tt
put_rises x (y ∷ ys) rises = elim (cases_lt x y) [
  | inl low ↦ rw (put_first x y ys low) (low, rises)
  | inr not ↦ elim (cases_eq x y) [
    | inl same ↦ rw (put_same x y ys same) rises
    | inr other ↦ (let high : y < x = omega arith in rw (put_later x y ys high) (put_rises_from x y ys rises high))
  ]
]

pub rising_of-rises : (xs : List ℕ) → Rises (rising_of xs)
unfolding rising_of
rising_of-rises [] = tt
rising_of-rises (x ∷ xs) = put_rises x (rising_of xs) (rising_of-rises xs)

-- what holds of the numbers holds of them in their places, and the other way round
put_all : (P : ℕ → Type 0) (x : ℕ) (ys : List ℕ) → P x → AllByRecursion P ys → AllByRecursion P (put x ys)
put_all P x [] one all = rw (put_none x) (one, tt)
put_all P x (y ∷ ys) one all = elim (cases_lt x y) [
  | inl low ↦ rw (put_first x y ys low) (one, all)
  | inr not ↦ elim (cases_eq x y) [
    | inl same ↦ rw (put_same x y ys same) all
    | inr other ↦ (let high : y < x = omega arith in rw (put_later x y ys high) (all.0, put_all P x ys one all.1))
  ]
]

pub rising_of-all : (P : ℕ → Type 0) (xs : List ℕ) → AllByRecursion P xs → AllByRecursion P (rising_of xs)
unfolding rising_of
rising_of-all P [] all = tt
rising_of-all P (x ∷ xs) all = put_all P x (rising_of xs) all.0 (rising_of-all P xs all.1)

put_all_since : (P : ℕ → Type 0) (x : ℕ) (ys : List ℕ) → AllByRecursion P (put x ys) → P x × AllByRecursion P ys
put_all_since P x [] all = (let whole : AllByRecursion P (x ∷ []) = rw (put_none x) at all in (whole.0, tt))
put_all_since P x (y ∷ ys) all = elim (cases_lt x y) [
  | inl low ↦ (let whole : AllByRecursion P (x ∷ y ∷ ys) = rw (put_first x y ys low) at all in (whole.0, whole.1))
  | inr not ↦ elim (cases_eq x y) [
    | inl same ↦
        (let whole : AllByRecursion P (y ∷ ys) = rw (put_same x y ys same) at all in
        (rw same whole.0, whole))
    | inr other ↦
        (let high : y < x = omega arith in
        let whole : AllByRecursion P (y ∷ put x ys) = rw (put_later x y ys high) at all in
        let rest = put_all_since P x ys whole.1 in
        (rest.0, (whole.0, rest.1)))
  ]
]

pub rising_of-all_since : (P : ℕ → Type 0) (xs : List ℕ) → AllByRecursion P (rising_of xs) → AllByRecursion P xs
unfolding rising_of
rising_of-all_since P [] all = tt
rising_of-all_since P (x ∷ xs) all = (let both = put_all_since P x (rising_of xs) all in (both.0, rising_of-all_since P xs both.1))

-- a number of a rising list is above those before
rises_above : (r : ℕ) (xs : List ℕ) (k : ℕ) → RisesFrom r xs → k < length xs → r < get_or xs k 0
rises_above r [] k rises h = absurd (omega arith)
rises_above r (x ∷ xs) zero rises h = rises.0
rises_above r (x ∷ xs) (suc k) rises h = (let up = rises_above x xs k rises.1 (omega arith) in let first = rises.0 in omega arith)

-- each is below the next
rises_next_from : (r : ℕ) (xs : List ℕ) (k : ℕ) → RisesFrom r xs → suc k < length xs → get_or xs k 0 < get_or xs (suc k) 0
rises_next_from r [] k rises h = absurd (omega arith)
rises_next_from r (x ∷ xs) zero rises h = rises_above x xs 0 rises.1 (omega arith)
rises_next_from r (x ∷ xs) (suc k) rises h = rises_next_from x xs k rises.1 (omega arith)

pub rises_next : (xs : List ℕ) (k : ℕ) → Rises xs → suc k < length xs → get_or xs k 0 < get_or xs (suc k) 0
rises_next [] k rises h = absurd (omega arith)
rises_next (x ∷ xs) zero rises h = rises_above x xs 0 rises (omega arith)
rises_next (x ∷ xs) (suc k) rises h = rises_next_from x xs k rises (omega arith)

-- right sides with their left sides
abbrev pub block : (ℕ → List ℕ) → ℕ → List (ℕ × ℕ)
block f r = map (λ l. (r, l)) (f r)

abbrev pub blocks : (ℕ → List ℕ) → List ℕ → List (ℕ × ℕ)
blocks f rs = flat_map (block f) rs

-- a block has one right side
same_from : (r : ℕ) (ls : List ℕ) (rest : List (ℕ × ℕ)) → dedup_from eqb r (map (λ (e : ℕ × ℕ). e.0) (map (λ l. (r, l)) ls ++ rest)) ≡ dedup_from eqb r (map (λ (e : ℕ × ℕ). e.0) rest)
same_from r [] rest = refl
same_from r (l ∷ ls) rest =
    cond-true (eqb r r) (dedup_from eqb r (map (λ (e : ℕ × ℕ). e.0) (map (λ l. (r, l)) ls ++ rest))) (r ∷ dedup_from eqb r (map (λ (e : ℕ × ℕ). e.0) (map (λ l. (r, l)) ls ++ rest))) (eq-eqb r r refl)
    ∙ same_from r ls rest

-- a block that isn't empty
abbrev pub IsSome : List ℕ → Type 0
IsSome ls = (l : ℕ) × (rest : List ℕ) × (ls ≡ l ∷ rest)

kept_from : (f : ℕ → List ℕ) (r : ℕ) (rs : List ℕ) → RisesFrom r rs → AllByRecursion (λ s. IsSome (f s)) rs → dedup_from eqb r (map (λ (e : ℕ × ℕ). e.0) (blocks f rs)) ≡ r ∷ rs
kept_from f r [] rises some = refl
kept_from f r (s ∷ rs) rises some =
    let first = some.0 in
    let up = rises.0 in
    let ys = map (λ (e : ℕ × ℕ). e.0) (map (λ l. (s, l)) first.1 ++ blocks f rs) in
    ap (λ ls. dedup_from eqb r (map (λ (e : ℕ × ℕ). e.0) (map (λ l. (s, l)) ls ++ blocks f rs))) first.2
    ∙ cond-false (eqb s r) (dedup_from eqb r ys) (r ∷ dedup_from eqb s ys) (ne_eqb s r (λ e. omega arith))
    ∙ ap (λ zs. r ∷ zs) (same_from s first.1 (blocks f rs) ∙ kept_from f s rs rises.1 some.1)

-- the distinct right sides are those of the blocks
pub distinct_blocks : (f : ℕ → List ℕ) (rs : List ℕ) → Rises rs → AllByRecursion (λ s. IsSome (f s)) rs → dedup eqb (map (λ (e : ℕ × ℕ). e.0) (blocks f rs)) ≡ rs
distinct_blocks f [] rises some = refl
distinct_blocks f (s ∷ rs) rises some =
    let first = some.0 in
    ap (λ ls. dedup eqb (map (λ (e : ℕ × ℕ). e.0) (map (λ l. (s, l)) ls ++ blocks f rs))) first.2
    ∙ same_from s first.1 (blocks f rs) ∙ kept_from f s rs rises some.1

-- what a block has of a right side
block_same : (o : ℕ) (ls : List ℕ) → filter (λ (e : ℕ × ℕ). eqb o e.0) (map (λ l. (o, l)) ls) ≡ map (λ l. (o, l)) ls
block_same o [] = refl
block_same o (l ∷ ls) =
    cond-true (eqb o o) ((o, l) ∷ filter (λ (e : ℕ × ℕ). eqb o e.0) (map (λ l. (o, l)) ls)) (filter (λ (e : ℕ × ℕ). eqb o e.0) (map (λ l. (o, l)) ls)) (eq-eqb o o refl)
    ∙ ap (λ ys. (o, l) ∷ ys) (block_same o ls)

block_other : (o r : ℕ) (ls : List ℕ) → o ≢ r → filter (λ (e : ℕ × ℕ). eqb o e.0) (map (λ l. (r, l)) ls) ≡ []
block_other o r [] h = refl
block_other o r (l ∷ ls) h =
    cond-false (eqb o r) ((r, l) ∷ filter (λ (e : ℕ × ℕ). eqb o e.0) (map (λ l. (r, l)) ls)) (filter (λ (e : ℕ × ℕ). eqb o e.0) (map (λ l. (r, l)) ls)) (ne_eqb o r h)
    ∙ block_other o r ls h

-- later blocks have none of a lower right side
blocks_above : (f : ℕ → List ℕ) (o r : ℕ) (rs : List ℕ) → RisesFrom r rs → o ≤ r → filter (λ (e : ℕ × ℕ). eqb o e.0) (blocks f rs) ≡ []
blocks_above f o r [] rises h = refl
blocks_above f o r (s ∷ rs) rises h =
    let up = rises.0 in
    filter-append (λ (e : ℕ × ℕ). eqb o e.0) (block f s) (blocks f rs)
    ∙ ap (λ ys. ys ++ filter (λ (e : ℕ × ℕ). eqb o e.0) (blocks f rs)) (block_other o s (f s) (λ e. omega arith))
    ∙ blocks_above f o s rs rises.1 (omega arith)

blocks_from : (f : ℕ → List ℕ) (r : ℕ) (rs : List ℕ) (x : ℕ) → RisesFrom r rs → x < length rs → filter (λ (e : ℕ × ℕ). eqb (get_or rs x 0) e.0) (blocks f rs) ≡ block f (get_or rs x 0)
blocks_from f r [] x rises h = absurd (omega arith)
blocks_from f r (s ∷ rs) zero rises h =
    filter-append (λ (e : ℕ × ℕ). eqb s e.0) (block f s) (blocks f rs)
    ∙ ap (λ ys. ys ++ filter (λ (e : ℕ × ℕ). eqb s e.0) (blocks f rs)) (block_same s (f s))
    ∙ ap (λ ys. block f s ++ ys) (blocks_above f s s rs rises.1 (omega arith)) ∙ append-nil (block f s)
blocks_from f r (s ∷ rs) (suc x) rises h =
    let up = rises_above s rs x rises.1 (omega arith) in
    filter-append (λ (e : ℕ × ℕ). eqb (get_or rs x 0) e.0) (block f s) (blocks f rs)
    ∙ ap (λ ys. ys ++ filter (λ (e : ℕ × ℕ). eqb (get_or rs x 0) e.0) (blocks f rs)) (block_other (get_or rs x 0) s (f s) (λ e. omega arith))
    ∙ blocks_from f s rs x rises.1 (omega arith)

-- the edges of one right side are its block
pub blocks_of : (f : ℕ → List ℕ) (rs : List ℕ) (x : ℕ) → Rises rs → x < length rs → filter (λ (e : ℕ × ℕ). eqb (get_or rs x 0) e.0) (blocks f rs) ≡ block f (get_or rs x 0)
blocks_of f [] x rises h = absurd (omega arith)
blocks_of f (s ∷ rs) zero rises h =
    filter-append (λ (e : ℕ × ℕ). eqb s e.0) (block f s) (blocks f rs)
    ∙ ap (λ ys. ys ++ filter (λ (e : ℕ × ℕ). eqb s e.0) (blocks f rs)) (block_same s (f s))
    ∙ ap (λ ys. block f s ++ ys) (blocks_above f s s rs rises (omega arith)) ∙ append-nil (block f s)
blocks_of f (s ∷ rs) (suc x) rises h =
    let up = rises_above s rs x rises (omega arith) in
    filter-append (λ (e : ℕ × ℕ). eqb (get_or rs x 0) e.0) (block f s) (blocks f rs)
    ∙ ap (λ ys. ys ++ filter (λ (e : ℕ × ℕ). eqb (get_or rs x 0) e.0) (blocks f rs)) (block_other (get_or rs x 0) s (f s) (λ e. omega arith))
    ∙ blocks_from f s rs x rises (omega arith)

-- the left sides of a block
pub second_of : (r : ℕ) (ls : List ℕ) → map (λ (e : ℕ × ℕ). e.1) (map (λ l. (r, l)) ls) ≡ ls
second_of r [] = refl
second_of r (l ∷ ls) = ap (λ ys. l ∷ ys) (second_of r ls)

-- what holds of all left sides
pub all_blocks : (P : ℕ → Type 0) (f : ℕ → List ℕ) (rs : List ℕ) → ((r : ℕ) → All P (f r)) → All P (map (λ (e : ℕ × ℕ). e.1) (blocks f rs))
all_blocks P f [] all = All-nil P
all_blocks P f (r ∷ rs) all =
    let seconds : (ls : List ℕ) → map (λ (e : ℕ × ℕ). e.1) (map (λ l. (r, l)) ls) ≡ ls = second_of r in
    rw (map-append (λ (e : ℕ × ℕ). e.1) (block f r) (blocks f rs), seconds (f r)) (All-append P (f r) (map (λ (e : ℕ × ℕ). e.1) (blocks f rs)) (all r) (all_blocks P f rs all))
