-- What a test keeps of the values at a run of places.
use Rattle.std.proofs.Common.{◌≡◌, ℕ, zero, suc, ◌+◌, ◌-◌, ◌<◌, ◌≤◌, Bool, true, false, ◌&&◌, cond, [], ◌∷◌, ◌++◌, map, refl, sym, ap, ◌∙◌, arith, inl, inr}
use Rattle.std.proofs.lemmas.Bool.{cases_lt, cond-true, cond-false, and_from, and_left, and_right}
use Rattle.std.proofs.lemmas.List.{append-nil}
use Rattle.std.proofs.lemmas.List.Elements.{filter-append}
use Rattle.std.specs.List.{filter, range_with_len}
use Rattle.ts_plane.specs.Lookups.{IsRun}

-- values at places side by side, in two parts
pub map-range_split : {X : Type 0} (f : ℕ → X) (a m n : ℕ) → map f (range_with_len a (m + n)) ≡ map f (range_with_len a m) ++ map f (range_with_len (a + m) n)
map-range_split f a zero n = let e : 0 + n ≡ n = omega arith in let k : a + 0 ≡ a = omega arith in rw (e, k) refl
map-range_split f a (suc m) n =
    let e : suc m + n ≡ suc (m + n) = omega arith in
    let k : a + suc m ≡ a + 1 + m = omega arith in
    rw (e, k) (ap (λ ys. f a ∷ ys) (map-range_split f (a + 1) m n))

-- none passes
pub filter_none : {X : Type 0} (p : X → Bool) (f : ℕ → X) (a n : ℕ) → ((j : ℕ) → a ≤ j → j < a + n → p (f j) ≡ false) → filter p (map f (range_with_len a n)) ≡ []
filter_none p f a zero h = refl
filter_none p f a (suc n) h =
    cond-false (p (f a)) (f a ∷ filter p (map f (range_with_len (a + 1) n))) (filter p (map f (range_with_len (a + 1) n))) (h a (omega arith) (omega arith))
    ∙ filter_none p f (a + 1) n (λ j low high. h j (omega arith) (omega arith))

-- all pass
pub filter_all : {X : Type 0} (p : X → Bool) (f : ℕ → X) (a n : ℕ) → ((j : ℕ) → a ≤ j → j < a + n → p (f j) ≡ true) → filter p (map f (range_with_len a n)) ≡ map f (range_with_len a n)
filter_all p f a zero h = refl
filter_all p f a (suc n) h =
    cond-true (p (f a)) (f a ∷ filter p (map f (range_with_len (a + 1) n))) (filter p (map f (range_with_len (a + 1) n))) (h a (omega arith) (omega arith))
    ∙ ap (λ ys. f a ∷ ys) (filter_all p f (a + 1) n (λ j low high. h j (omega arith) (omega arith)))

-- two tests that agree there
pub filter_same : {X : Type 0} (p q : X → Bool) (f : ℕ → X) (a n : ℕ) → ((j : ℕ) → a ≤ j → j < a + n → p (f j) ≡ q (f j)) → filter p (map f (range_with_len a n)) ≡ filter q (map f (range_with_len a n))
filter_same p q f a zero h = refl
filter_same p q f a (suc n) h =
    ap (λ b. cond b (f a ∷ filter p (map f (range_with_len (a + 1) n))) (filter p (map f (range_with_len (a + 1) n)))) (h a (omega arith) (omega arith))
    ∙ ap (λ ys. cond (q (f a)) (f a ∷ ys) ys) (filter_same p q f (a + 1) n (λ j low high. h j (omega arith) (omega arith)))

-- a test that fails outside some of the places, and agrees with another there
pub filter_part : {X : Type 0} (p q : X → Bool) (f : ℕ → X) (a b from to : ℕ) → a ≤ from → from ≤ to → to ≤ b
    → ((j : ℕ) → a ≤ j → j < from → p (f j) ≡ false) → ((j : ℕ) → from ≤ j → j < to → p (f j) ≡ q (f j)) → ((j : ℕ) → to ≤ j → j < b → p (f j) ≡ false)
    → filter p (map f (range_with_len a (b - a))) ≡ filter q (map f (range_with_len from (to - from)))
filter_part p q f a b from to low ordered high before inside behind =
    let whole : b - a ≡ from - a + (to - from + (b - to)) = omega arith in
    let second : a + (from - a) ≡ from = omega arith in
    let third : from + (to - from) ≡ to = omega arith in
    let front = map f (range_with_len a (from - a)) in
    let middle = map f (range_with_len from (to - from)) in
    let rest = map f (range_with_len to (b - to)) in
    let split : map f (range_with_len a (b - a)) ≡ map f (range_with_len a (from - a)) ++ (map f (range_with_len from (to - from)) ++ map f (range_with_len to (b - to))) =
    ap (λ n. map f (range_with_len a n)) whole ∙ map-range_split f a (from - a) (to - from + (b - to))
    ∙ ap (λ k. map f (range_with_len a (from - a)) ++ map f (range_with_len k (to - from + (b - to)))) second
    ∙ ap (λ ys. map f (range_with_len a (from - a)) ++ ys) (map-range_split f from (to - from) (b - to) ∙ ap (λ k. map f (range_with_len from (to - from)) ++ map f (range_with_len k (b - to))) third) in
    ap (filter p) split ∙ filter-append p front (middle ++ rest)
    ∙ ap (λ ys. ys ++ filter p (middle ++ rest)) (filter_none p f a (from - a) (λ j l h. before j l (omega arith)))
    ∙ filter-append p middle rest
    ∙ ap (λ ys. filter p middle ++ ys) (filter_none p f to (b - to) (λ j l h. behind j l (omega arith)))
    ∙ append-nil (filter p middle)
    ∙ filter_same p q f from (to - from) (λ j l h. inside j l (omega arith))

-- a run of places is what the test keeps
pub filter_run : {X : Type 0} (p : X → Bool) (f : ℕ → X) (n from to : ℕ) → IsRun (λ j. p (f j)) n from to → filter p (map f (range_with_len 0 n)) ≡ map f (range_with_len from (to - from))
filter_run p f n from to run =
    let e : n - 0 ≡ n = omega arith in
    ap (λ m. filter p (map f (range_with_len 0 m))) (sym e)
    ∙ filter_part p p f 0 n from to (omega arith) run.ordered run.within (λ j l h. run.before j h) (λ j l h. refl) run.behind
    ∙ filter_all p f from (to - from) (λ j l h. run.inside j l (omega arith))

-- a run of both tests lies where both have theirs
pub run_both : (p q : ℕ → Bool) (n a b start place : ℕ) → IsRun p n a b → IsRun q n start n → place ≡ start → a ≤ start → start ≤ b → IsRun (λ j. p j && q j) n place b
run_both p q n a b start place run later e low high = record {
  ordered = omega arith;
  within = run.within;
  before = λ j h. and_right (p j) (q j) (later.before j (omega arith));
  inside = λ j l h. and_from (p j) (q j) (run.inside j (omega arith) h) (later.inside j (omega arith) (omega (arith, run.within)));
  behind = λ j l h. and_left (p j) (q j) (run.behind j l h);
}

pub run_from : (p q : ℕ → Bool) (n a b start : ℕ) → IsRun p n a b → IsRun q n start n → start ≤ a → IsRun (λ j. p j && q j) n a b
run_from p q n a b start run later low = record {
  ordered = run.ordered;
  within = run.within;
  before = λ j h. and_left (p j) (q j) (run.before j h);
  inside = λ j l h. and_from (p j) (q j) (run.inside j l h) (later.inside j (omega arith) (omega (arith, run.within)));
  behind = λ j l h. and_left (p j) (q j) (run.behind j l h);
}

pub run_passed : (p q : ℕ → Bool) (n a b start : ℕ) → IsRun p n a b → IsRun q n start n → b ≤ start → IsRun (λ j. p j && q j) n b b
run_passed p q n a b start run later high = record {
  ordered = omega arith;
  within = run.within;
  before = λ j h. and_right (p j) (q j) (later.before j (omega arith));
  inside = λ j l h. absurd (omega arith);
  behind = λ j l h. and_left (p j) (q j) (run.behind j l h);
}

-- the run of a test, and of another that is passed from `start` on, begins at the later of the two, and no later than the first ends
pub run_since : (p q : ℕ → Bool) (n a b start place : ℕ) → IsRun p n a b → IsRun q n start n
    → (start ≤ a → place ≡ a) → (a ≤ start → start ≤ b → place ≡ start) → (b ≤ start → place ≡ b) → IsRun (λ j. p j && q j) n place b
run_since p q n a b start place run later first second third = elim (cases_lt a start) [
  | inr low ↦ (let e : a ≡ place = sym (first low) in rw (sym e) (run_from p q n a b start run later low))
  | inl above ↦ elim (cases_lt start b) [
    | inl within ↦ run_both p q n a b start place run later (second (omega arith) (omega arith)) (omega arith) (omega arith)
    | inr passed ↦ (let e : b ≡ place = sym (third passed) in rw (sym e) (run_passed p q n a b start run later passed))
  ]
]
