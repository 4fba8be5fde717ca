-- Where the elements that pass a test stand, among all and among those that pass.
use Rattle.std.proofs.Common.{◌≡◌, ℕ, zero, suc, ◌+◌, ◌-◌, ◌<◌, ◌≤◌, Bool, true, false, List, [], ◌∷◌, ◌++◌, length, take, map, get_or, refl, ap, ◌∙◌, arith, inl, inr}
use Rattle.std.proofs.lemmas.Bool.{cases_Bool, cases_lt, cond-true, cond-false}
use Rattle.std.proofs.lemmas.List.{length-append}
use Rattle.std.proofs.lemmas.List.Sums.{sum_by-cons, sum_by_more, sum_by-take-le}
use Rattle.ts_wavelet.specs.Nodes.{digit_of}
use Rattle.std.specs.List.{count_by, filter, flat_map, range_with_len}

-- the count of a longer list
pub count-cons : {X : Type 0} (p : X → Bool) (x : X) (xs : List X) → count_by p (x ∷ xs) ≡ digit_of (p x) + count_by p xs
count-cons p x xs = sum_by-cons (λ y. digit_of (p y)) x xs

pub count-cons_yes : {X : Type 0} (p : X → Bool) (x : X) (xs : List X) → p x ≡ true → count_by p (x ∷ xs) ≡ suc (count_by p xs)
count-cons_yes p x xs h = count-cons p x xs ∙ ap (λ b. digit_of b + count_by p xs) h ∙ omega arith

pub count-cons_no : {X : Type 0} (p : X → Bool) (x : X) (xs : List X) → p x ≡ false → count_by p (x ∷ xs) ≡ count_by p xs
count-cons_no p x xs h = count-cons p x xs ∙ ap (λ b. digit_of b + count_by p xs) h ∙ omega arith

-- a count that is the sum of two at each element
pub count_sum : {X : Type 0} (p q r : X → Bool) → ((x : X) → digit_of (p x) ≡ digit_of (q x) + digit_of (r x))
    → (xs : List X) → count_by p xs ≡ count_by q xs + count_by r xs
count_sum p q r e [] = refl
count_sum p q r e (x ∷ xs) =
    let ih = count_sum p q r e xs in
    omega (arith, count-cons p x xs, count-cons q x xs, count-cons r x xs, e x, ih)

-- the same test has the same count
pub count_same : {X : Type 0} (p q : X → Bool) → ((x : X) → digit_of (p x) ≡ digit_of (q x)) → (xs : List X) → count_by p xs ≡ count_by q xs
count_same p q e [] = refl
count_same p q e (x ∷ xs) =
    let ih = count_same p q e xs in
    omega (arith, count-cons p x xs, count-cons q x xs, e x, ih)

-- the count of a list that is made from another
pub count-map : {X Y : Type 0} (p : Y → Bool) (f : X → Y) (xs : List X) → count_by p (map f xs) ≡ count_by (λ x. p (f x)) xs
count-map p f [] = refl
count-map p f (x ∷ xs) =
    let ih = count-map p f xs in
    omega (arith, count-cons p (f x) (map f xs), count-cons (λ y. p (f y)) x xs, ih)

-- one place more
pub count_more : {X : Type 0} (p : X → Bool) (xs : List X) (j : ℕ) (d : X) → j < length xs
    → count_by p (take (j + 1) xs) ≡ count_by p (take j xs) + digit_of (p (get_or xs j d))
count_more p xs j d h = sum_by_more (λ y. digit_of (p y)) xs j d h

-- an element that passes is one of those that are counted
pub count_before : {X : Type 0} (p : X → Bool) (xs : List X) (j : ℕ) (d : X) → j < length xs → p (get_or xs j d) ≡ true
    → count_by p (take j xs) < count_by p xs
count_before p xs j d h pass =
    let more = count_more p xs j d h in
    let one : digit_of (p (get_or xs j d)) ≡ 1 = ap (λ b. digit_of b) pass in
    let most = sum_by-take-le (λ y. digit_of (p y)) xs (j + 1) in
    omega arith

-- where an element that passes stands among those that pass
pub filter_place : {X : Type 0} (p : X → Bool) (xs : List X) (j : ℕ) (d : X) → j < length xs → p (get_or xs j d) ≡ true
    → get_or (filter p xs) (count_by p (take j xs)) d ≡ get_or xs j d
filter_place p [] j d h pass = absurd (omega arith)
filter_place p (x ∷ xs) zero d h pass =
    ap (λ ys. get_or ys 0 d) (cond-true (p x) (x ∷ filter p xs) (filter p xs) pass)
filter_place p (x ∷ xs) (suc j) d h later =
    let ih = filter_place p xs j d (omega arith) later in
    elim (cases_Bool (p x)) [
      | inl pass ↦
          ap (λ ys. get_or ys (count_by p (x ∷ take j xs)) d) (cond-true (p x) (x ∷ filter p xs) (filter p xs) pass)
          ∙ ap (λ i. get_or (x ∷ filter p xs) i d) (count-cons_yes p x (take j xs) pass) ∙ ih
      | inr fail ↦
          ap (λ ys. get_or ys (count_by p (x ∷ take j xs)) d) (cond-false (p x) (x ∷ filter p xs) (filter p xs) fail)
          ∙ ap (λ i. get_or (filter p xs) i d) (count-cons_no p x (take j xs) fail) ∙ ih
    ]

-- the element that passes with so many before it
pub record IsPassing {X : Type 0} (p : X → Bool) (xs : List X) (d : X) (o : ℕ) : Type 0 where
  pub place : ℕ
  pub within : place < length xs
  pub passes : p (get_or xs place d) ≡ true
  pub before : count_by p (take place xs) ≡ o

pub passing : {X : Type 0} (p : X → Bool) (xs : List X) (d : X) (o : ℕ) → o < count_by p xs → IsPassing p xs d o
passing p [] d o h = absurd (omega arith)
passing p (x ∷ xs) d zero h = elim (cases_Bool (p x)) [
  | inl pass ↦ record { place = 0; within = omega arith; passes = pass; before = refl }
  | inr fail ↦
      let later = passing p xs d 0 (omega (arith, count-cons_no p x xs fail)) in
      record { place = suc later.place; within = omega (arith, later.within); passes = later.passes; before = count-cons_no p x (take later.place xs) fail ∙ later.before }
]
passing p (x ∷ xs) d (suc o) h = elim (cases_Bool (p x)) [
  | inl pass ↦
      let later = passing p xs d o (omega (arith, count-cons_yes p x xs pass)) in
      record { place = suc later.place; within = omega (arith, later.within); passes = later.passes; before = count-cons_yes p x (take later.place xs) pass ∙ ap suc later.before }
  | inr fail ↦
      let later = passing p xs d (suc o) (omega (arith, count-cons_no p x xs fail)) in
      record { place = suc later.place; within = omega (arith, later.within); passes = later.passes; before = count-cons_no p x (take later.place xs) fail ∙ later.before }
]

-- which piece of joined pieces a place is in
pub record IsPiece {X A : Type 0} (f : X → List A) (xs : List X) (e : X) (q : ℕ) : Type 0 where
  pub piece : ℕ
  pub place : ℕ
  pub within : piece < length xs
  pub inside : place < length (f (get_or xs piece e))
  pub is : q ≡ length (flat_map f (take piece xs)) + place

pub piece_of : {X A : Type 0} (f : X → List A) (xs : List X) (e : X) (q : ℕ) → q < length (flat_map f xs) → IsPiece f xs e q
piece_of f [] e q h = absurd (omega arith)
piece_of f (x ∷ xs) e q h = elim (cases_lt q (length (f x))) [
  | inl here ↦ record { piece = 0; place = q; within = omega arith; inside = here; is = omega arith }
  | inr behind ↦
      let both = length-append (f x) (flat_map f xs) in
      let later = piece_of f xs e (q - length (f x)) (omega arith) in
      record {
        piece = suc later.piece;
        place = later.place;
        within = omega (arith, later.within);
        inside = later.inside;
        is = omega (arith, later.is, length-append (f x) (flat_map f (take later.piece xs)));
      }
]

-- a front of a range
pub take-range : (a n k : ℕ) → k ≤ n → take k (range_with_len a n) ≡ range_with_len a k
take-range a n zero h = refl
take-range a zero (suc k) h = absurd (omega arith)
take-range a (suc n) (suc k) h = ap (λ xs. a ∷ xs) (take-range (a + 1) n k (omega arith))

-- one more of a range
range_more_from : (a n : ℕ) → range_with_len a (n + 1) ≡ range_with_len a n ++ (a + n) ∷ []
range_more_from a zero = let e : a + 0 ≡ a = omega arith in rw e refl
range_more_from a (suc n) =
    let e : suc n + 1 ≡ suc (n + 1) = omega arith in
    let f : a + suc n ≡ (a + 1) + n = omega arith in
    rw (e, f) (ap (λ xs. a ∷ xs) (range_more_from (a + 1) n))

pub range_more : (n : ℕ) → range_with_len 0 (n + 1) ≡ range_with_len 0 n ++ n ∷ []
range_more n = let e : 0 + n ≡ n = omega arith in range_more_from 0 n ∙ ap (λ (m : ℕ). range_with_len 0 n ++ m ∷ []) e
