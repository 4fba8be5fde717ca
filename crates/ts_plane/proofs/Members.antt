-- Members of lists, and lists that rise by a relation.
use Rattle.std.proofs.Common.{◌≡◌, ℕ, zero, suc, ◌<◌, Bool, true, ◌⊎◌, inl, inr, true≢false, List, [], ◌∷◌, ◌++◌, map, length, get_or, refl, sym, ◌∙◌, ap, ap₂, subst, arith}
use Rattle.std.specs.Prelude.{⊤}
use Rattle.std.specs.List.{filter, flat_map}
use Rattle.std.proofs.lemmas.Bool.{cases_Bool, cond-true, cond-false}

-- x is one of the elements
abbrev pub In : {X : Type 0} → X → List X → Type 0
In x [] = ⊥
In x (y ∷ ys) = (x ≡ y) ⊎ In x ys

-- each element is related to all later ones
abbrev pub Rises : {X : Type 0} → (X → X → Type 0) → List X → Type 0
Rises R [] = ⊤
Rises {X} R (x ∷ xs) = ((y : X) → In y xs → R x y) × Rises R xs

pub in_left : {X : Type 0} (x : X) (xs ys : List X) → In x xs → In x (xs ++ ys)
in_left x [] ys h = absurd h
in_left x (y ∷ xs) ys h = elim h [
  | inl e ↦ inl e
  | inr later ↦ inr (in_left x xs ys later)
]

pub in_right : {X : Type 0} (x : X) (xs ys : List X) → In x ys → In x (xs ++ ys)
in_right x [] ys h = h
in_right x (y ∷ xs) ys h = inr (in_right x xs ys h)

pub in_either : {X : Type 0} (x : X) (xs ys : List X) → In x (xs ++ ys) → In x xs ⊎ In x ys
in_either x [] ys h = inr h
in_either x (y ∷ xs) ys h = elim h [
  | inl e ↦ inl (inl e)
  | inr later ↦ elim (in_either x xs ys later) [
    | inl here ↦ inl (inr here)
    | inr there ↦ inr there
  ]
]

pub in_map : {X Y : Type 0} (f : X → Y) (x : X) (xs : List X) → In x xs → In (f x) (map f xs)
in_map f x [] h = absurd h
in_map f x (y ∷ xs) h = elim h [
  | inl e ↦ inl (ap f e)
  | inr later ↦ inr (in_map f x xs later)
]

-- an element that f makes
pub record IsMade {X Y : Type 0} (f : X → Y) (xs : List X) (y : Y) : Type 0 where
  pub of : X
  pub inside : In of xs
  pub is : y ≡ f of

pub from_map : {X Y : Type 0} (f : X → Y) (y : Y) (xs : List X) → In y (map f xs) → IsMade f xs y
from_map f y [] h = absurd h
from_map f y (x ∷ xs) h = elim h [
  | inl e ↦ record { of = x; inside = inl refl; is = e }
  | inr later ↦ (let made = from_map f y xs later in record { of = made.of; inside = inr made.inside; is = made.is })
]

pub in_filter : {X : Type 0} (p : X → Bool) (x : X) (xs : List X) → In x xs → p x ≡ true → In x (filter p xs)
in_filter p x [] h pass = absurd h
in_filter p x (y ∷ xs) h pass = elim (cases_Bool (p y)) [
  | inl holds ↦ subst (In x) (sym (cond-true (p y) (y ∷ filter p xs) (filter p xs) holds)) (elim h [
    | inl e ↦ inl e
    | inr later ↦ inr (in_filter p x xs later pass)
  ])
  | inr fails ↦ subst (In x) (sym (cond-false (p y) (y ∷ filter p xs) (filter p xs) fails)) (elim h [
    | inl e ↦ absurd (true≢false (sym pass ∙ ap p e ∙ fails))
    | inr later ↦ in_filter p x xs later pass
  ])
]

pub from_filter : {X : Type 0} (p : X → Bool) (x : X) (xs : List X) → In x (filter p xs) → In x xs × (p x ≡ true)
from_filter p x [] h = absurd h
from_filter p x (y ∷ xs) h = elim (cases_Bool (p y)) [
  | inl holds ↦ elim (subst (In x) (cond-true (p y) (y ∷ filter p xs) (filter p xs) holds) h) [
    | inl e ↦ (inl e, ap p e ∙ holds)
    | inr later ↦ (let found = from_filter p x xs later in (inr found.0, found.1))
  ]
  | inr fails ↦ (let found = from_filter p x xs (subst (In x) (cond-false (p y) (y ∷ filter p xs) (filter p xs) fails) h) in (inr found.0, found.1))
]

pub in_flat_map : {X Y : Type 0} (f : X → List Y) (y : Y) (x : X) (xs : List X) → In x xs → In y (f x) → In y (flat_map f xs)
in_flat_map f y x [] h in_it = absurd h
in_flat_map f y x (z ∷ xs) h in_it = elim h [
  | inl e ↦ in_left y (f z) (flat_map f xs) (subst (λ w. In y (f w)) e in_it)
  | inr later ↦ in_right y (f z) (flat_map f xs) (in_flat_map f y x xs later in_it)
]

-- an element of one of the lists that f makes
pub record IsPieced {X Y : Type 0} (f : X → List Y) (xs : List X) (y : Y) : Type 0 where
  pub of : X
  pub inside : In of xs
  pub piece : In y (f of)

pub from_flat_map : {X Y : Type 0} (f : X → List Y) (y : Y) (xs : List X) → In y (flat_map f xs) → IsPieced f xs y
from_flat_map f y [] h = absurd h
from_flat_map f y (x ∷ xs) h = elim (in_either y (f x) (flat_map f xs) h) [
  | inl here ↦ record { of = x; inside = inl refl; piece = here }
  | inr there ↦ (let later = from_flat_map f y xs there in record { of = later.of; inside = inr later.inside; piece = later.piece })
]

pub rises_append : {X : Type 0} (R : X → X → Type 0) (xs ys : List X) → Rises R xs → Rises R ys
    → ((x y : X) → In x xs → In y ys → R x y) → Rises R (xs ++ ys)
rises_append R [] ys rx ry between = ry
rises_append R (x ∷ xs) ys rx ry between = (
  (λ y h. elim (in_either y xs ys h) [
    | inl here ↦ rx.0 y here
    | inr there ↦ between x y (inl refl) there
  ]),
  rises_append R xs ys rx.1 ry (λ a b ha hb. between a b (inr ha) hb),
)

pub rises_map : {X Y : Type 0} (R : X → X → Type 0) (S : Y → Y → Type 0) (f : X → Y) (xs : List X)
    → ((x y : X) → In x xs → In y xs → R x y → S (f x) (f y)) → Rises R xs → Rises S (map f xs)
rises_map R S f [] keeps r = tt
rises_map R S f (x ∷ xs) keeps r = (
  (λ y h. (let made = from_map f y xs h in subst (S (f x)) (sym made.is) (keeps x made.of (inl refl) (inr made.inside) (r.0 made.of made.inside)))),
  rises_map R S f xs (λ a b ha hb. keeps a b (inr ha) (inr hb)) r.1,
)

pub rises_filter : {X : Type 0} (R : X → X → Type 0) (p : X → Bool) (xs : List X) → Rises R xs → Rises R (filter p xs)
rises_filter R p [] r = tt
rises_filter R p (x ∷ xs) r = elim (cases_Bool (p x)) [
  | inl holds ↦ subst (Rises R) (sym (cond-true (p x) (x ∷ filter p xs) (filter p xs) holds)) (
    (λ y h. r.0 y (from_filter p y xs h).0),
    rises_filter R p xs r.1,
  )
  | inr fails ↦ subst (Rises R) (sym (cond-false (p x) (x ∷ filter p xs) (filter p xs) fails)) (rises_filter R p xs r.1)
]

pub rises_flat_map : {X Y : Type 0} (Q : X → X → Type 0) (S : Y → Y → Type 0) (f : X → List Y) (xs : List X) → Rises Q xs
    → ((x : X) → In x xs → Rises S (f x))
    → ((x z : X) (y w : Y) → Q x z → In y (f x) → In w (f z) → S y w)
    → Rises S (flat_map f xs)
rises_flat_map Q S f [] r within between = tt
rises_flat_map Q S f (x ∷ xs) r within between = rises_append S (f x) (flat_map f xs) (within x (inl refl))
    (rises_flat_map Q S f xs r.1 (λ z h. within z (inr h)) between)
    (λ y w hy hw. (let later = from_flat_map f w xs hw in between x later.of y w (r.0 later.of later.inside) hy later.piece))

-- two lists that rise and have the same members are the same
pub rising_same : {X : Type 0} (R : X → X → Type 0) → ((x y : X) → R x y → R y x → ⊥) → (xs ys : List X) → Rises R xs → Rises R ys
    → ((x : X) → In x xs → In x ys) → ((x : X) → In x ys → In x xs) → xs ≡ ys
rising_same R asym [] [] rx ry there back = refl
rising_same R asym [] (y ∷ ys) rx ry there back = absurd (back y (inl refl))
rising_same R asym (x ∷ xs) [] rx ry there back = absurd (there x (inl refl))
rising_same R asym (x ∷ xs) (y ∷ ys) rx ry there back =
    let first : x ≡ y = elim (there x (inl refl)) [
      | inl e ↦ e
      | inr later ↦ elim (back y (inl refl)) [
        | inl e ↦ sym e
        | inr behind ↦ absurd (asym x y (rx.0 y behind) (ry.0 x later))
      ]
    ] in
    let rest = rising_same R asym xs ys rx.1 ry.1
    (λ z h. elim (there z (inr h)) [
      | inl e ↦ (let same = subst (R x) (e ∙ sym first) (rx.0 z h) in absurd (asym x x same same))
      | inr later ↦ later
    ])
    (λ z h. elim (back z (inr h)) [
      | inl e ↦ (let same = subst (R y) (e ∙ first) (ry.0 z h) in absurd (asym y y same same))
      | inr later ↦ later
    ]) in
    ap₂ (λ h t. h ∷ t) first rest

pub in_at : {X : Type 0} (xs : List X) (j : ℕ) (d : X) → j < length xs → In (get_or xs j d) xs
in_at [] j d h = absurd (omega arith)
in_at (x ∷ xs) zero d h = inl refl
in_at (x ∷ xs) (suc j) d h = inr (in_at xs j d (omega arith))

-- the place of a member
pub record IsAt {X : Type 0} (xs : List X) (x d : X) : Type 0 where
  pub place : ℕ
  pub within : place < length xs
  pub is : get_or xs place d ≡ x

pub at_in : {X : Type 0} (x : X) (xs : List X) (d : X) → In x xs → IsAt xs x d
at_in x [] d h = absurd h
at_in x (y ∷ xs) d h = elim h [
  | inl e ↦ record { place = 0; within = omega arith; is = sym e }
  | inr later ↦ (let there = at_in x xs d later in record { place = suc there.place; within = omega (arith, there.within); is = there.is })
]

pub rises_from_places : {X : Type 0} (R : X → X → Type 0) (xs : List X) (d : X)
    → ((i j : ℕ) → i < j → j < length xs → R (get_or xs i d) (get_or xs j d)) → Rises R xs
rises_from_places R [] d h = tt
rises_from_places R (x ∷ xs) d h = (
  (λ y hy. (let there = at_in y xs d hy in subst (R x) there.is (h 0 (suc there.place) (omega arith) (omega (arith, there.within))))),
  rises_from_places R xs d (λ i j low high. h (suc i) (suc j) (omega arith) (omega arith)),
)

pub rises_at : {X : Type 0} (R : X → X → Type 0) (xs : List X) (d : X) (i j : ℕ) → Rises R xs → i < j → j < length xs
    → R (get_or xs i d) (get_or xs j d)
rises_at R [] d i j r low high = absurd (omega arith)
rises_at R (x ∷ xs) d i zero r low high = absurd (omega arith)
rises_at R (x ∷ xs) d zero (suc j) r low high = r.0 (get_or xs j d) (in_at xs j d (omega arith))
rises_at R (x ∷ xs) d (suc i) (suc j) r low high = rises_at R xs d i j r.1 (omega arith) (omega arith)
