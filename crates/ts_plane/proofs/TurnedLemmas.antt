-- Edges turned around: which edges these are, and that they rise.
use Rattle.std.proofs.Common.{◌≡◌, ℕ, ◌<◌, ◌≤◌, ◌==◌, Bool, ◌⊎◌, inl, inr, List, [], ◌∷◌, map, refl, sym, ◌∙◌, ap, ap₂, subst, arith, nat_lt, eqb-true, eq-eqb, ne_eqb, lt-ltb, le-ltb}
use Rattle.std.specs.List.{filter}
use Rattle.std.proofs.lemmas.Bool.{cases_order, cond-true, cond-false}
use Rattle.ts_plane.specs.Turned.{put, rising_of, lefts, turned}
use Rattle.ts_plane.proofs.Members.{In, Rises, IsMade, IsPieced, in_map, from_map, in_filter, from_filter, in_flat_map, from_flat_map, rises_map, rises_filter, rises_flat_map}

abbrev pub Less : ℕ → ℕ → Type 0
Less x y = x < y

-- by the first number, then the second
abbrev pub Below : ℕ × ℕ → ℕ × ℕ → Type 0
Below a b = (a.0 ≤ b.0) × (a.0 ≡ b.0 → a.1 < b.1)

pub below_asym : (a b : ℕ × ℕ) → Below a b → Below b a → ⊥
below_asym a b ab ba =
    let same : a.0 ≡ b.0 = omega (arith, ab.0, ba.0) in
    omega (arith, ab.1 same, ba.1 (sym same))

pub less_asym : (x y : ℕ) → Less x y → Less y x → ⊥
less_asym x y a b = omega (arith, a, b)

-- the three cases of a number put before another
put_less : (x y : ℕ) (ys : List ℕ) → x < y → put x (y ∷ ys) ≡ x ∷ y ∷ ys
unfolding put
put_less x y ys h = cond-true (nat_lt x y) _ _ (lt-ltb x y h)

put_same : (x y : ℕ) (ys : List ℕ) → x ≡ y → put x (y ∷ ys) ≡ y ∷ ys
unfolding put
put_same x y ys h = cond-false (nat_lt x y) _ _ (le-ltb x y (omega (arith, h))) ∙ cond-true (x == y) _ _ (eq-eqb x y h)

put_more : (x y : ℕ) (ys : List ℕ) → y < x → put x (y ∷ ys) ≡ y ∷ put x ys
unfolding put
put_more x y ys h = cond-false (nat_lt x y) _ _ (le-ltb x y (omega (arith, h))) ∙ cond-false (x == y) _ _ (ne_eqb x y (λ e. omega (arith, e, h)))

in_put : (z x : ℕ) (ys : List ℕ) → (z ≡ x) ⊎ In z ys → In z (put x ys)
unfolding put
in_put z x [] h = h
in_put z x (y ∷ ys) h = elim (cases_order x y) [
  | inl same ↦ subst (In z) (sym (put_same x y ys same)) (elim h [
    | inl e ↦ inl (e ∙ same)
    | inr later ↦ later
  ])
  | inr apart ↦ elim apart [
    | inl less ↦ subst (In z) (sym (put_less x y ys less)) h
    | inr more ↦ subst (In z) (sym (put_more x y ys more)) (elim h [
      | inl e ↦ inr (in_put z x ys (inl e))
      | inr later ↦ elim later [
        | inl e ↦ inl e
        | inr behind ↦ inr (in_put z x ys (inr behind))
      ]
    ])
  ]
]

from_put : (z x : ℕ) (ys : List ℕ) → In z (put x ys) → (z ≡ x) ⊎ In z ys
unfolding put
from_put z x [] h = h
from_put z x (y ∷ ys) h = elim (cases_order x y) [
  | inl same ↦ inr (subst (In z) (put_same x y ys same) h)
  | inr apart ↦ elim apart [
    | inl less ↦ subst (In z) (put_less x y ys less) h
    | inr more ↦ elim (subst (In z) (put_more x y ys more) h) [
      | inl e ↦ inr (inl e)
      | inr later ↦ elim (from_put z x ys later) [
        | inl e ↦ inl e
        | inr behind ↦ inr (inr behind)
      ]
    ]
  ]
]

rises_put : (x : ℕ) (ys : List ℕ) → Rises Less ys → Rises Less (put x ys)
unfolding put
rises_put x [] r = ((λ y h. absurd h), tt)
rises_put x (y ∷ ys) r = elim (cases_order x y) [
  | inl same ↦ subst (Rises Less) (sym (put_same x y ys same)) r
  | inr apart ↦ elim apart [
    | inl less ↦ subst (Rises Less) (sym (put_less x y ys less)) (
      (λ z h. elim h [
        | inl e ↦ omega (arith, e, less)
        | inr later ↦ omega (arith, less, r.0 z later)
      ]),
      r,
    )
    | inr more ↦ subst (Rises Less) (sym (put_more x y ys more)) (
      (λ z h. elim (from_put z x ys h) [
        | inl e ↦ omega (arith, e, more)
        | inr later ↦ r.0 z later
      ]),
      rises_put x ys r.1,
    )
  ]
]

pub in_rising_of : (z : ℕ) (xs : List ℕ) → In z xs → In z (rising_of xs)
unfolding rising_of
in_rising_of z [] h = absurd h
in_rising_of z (x ∷ xs) h = in_put z x (rising_of xs) (elim h [
  | inl e ↦ inl e
  | inr later ↦ inr (in_rising_of z xs later)
])

pub from_rising_of : (z : ℕ) (xs : List ℕ) → In z (rising_of xs) → In z xs
unfolding rising_of
from_rising_of z [] h = absurd h
from_rising_of z (x ∷ xs) h = elim (from_put z x (rising_of xs) h) [
  | inl e ↦ inl e
  | inr later ↦ inr (from_rising_of z xs later)
]

pub rises_rising_of : (xs : List ℕ) → Rises Less (rising_of xs)
unfolding rising_of
rises_rising_of [] = tt
rises_rising_of (x ∷ xs) = rises_put x (rising_of xs) (rises_rising_of xs)

-- edges whose left sides rise where their right sides agree
abbrev pub Forward : ℕ × ℕ → ℕ × ℕ → Type 0
Forward a b = a.1 ≡ b.1 → a.0 < b.0

abbrev has_right : ℕ → ℕ × ℕ → Bool
has_right right edge = edge.1 == right

abbrev pub row_turned : List (ℕ × ℕ) → ℕ → List (ℕ × ℕ)
row_turned edges right = map (λ left. (right, left)) (lefts edges right)

in_lefts : (edges : List (ℕ × ℕ)) (left right : ℕ) → In (left, right) edges → In left (lefts edges right)
unfolding lefts
in_lefts edges left right h =
    in_map (λ edge. edge.0) (left, right) (filter (has_right right) edges)
    (in_filter (has_right right) (left, right) edges h (eq-eqb right right refl))

from_lefts : (edges : List (ℕ × ℕ)) (left right : ℕ) → In left (lefts edges right) → In (left, right) edges
unfolding lefts
from_lefts edges left right h =
    let made : IsMade (λ edge. edge.0) (filter (has_right right) edges) left = from_map (λ edge. edge.0) left (filter (has_right right) edges) h in
    let found = from_filter (has_right right) made.of edges made.inside in
    subst (λ e. In e edges) (ap₂ (λ l r. (l, r)) (sym made.is) (eqb-true made.of.1 right found.1)) found.0

-- each edge, turned, and no other
pub in_turned : (edges : List (ℕ × ℕ)) (left right : ℕ) → In (left, right) edges → In (right, left) (turned edges)
unfolding turned
in_turned edges left right h =
    in_flat_map (row_turned edges) (right, left) right (rising_of (map (λ edge. edge.1) edges))
    (in_rising_of right (map (λ edge. edge.1) edges) (in_map (λ edge. edge.1) (left, right) edges h))
    (in_map (λ l. (right, l)) left (lefts edges right) (in_lefts edges left right h))

pub from_turned : (edges : List (ℕ × ℕ)) (t : ℕ × ℕ) → In t (turned edges) → In (t.1, t.0) edges
unfolding turned
from_turned edges t h =
    let pieced : IsPieced (row_turned edges) (rising_of (map (λ edge. edge.1) edges)) t = from_flat_map (row_turned edges) t (rising_of (map (λ edge. edge.1) edges)) h in
    let made : IsMade (λ left. (pieced.of, left)) (lefts edges pieced.of) t = from_map (λ left. (pieced.of, left)) t (lefts edges pieced.of) pieced.piece in
    subst (λ e. In e edges) (ap (λ (u : ℕ × ℕ). (u.1, u.0)) (sym made.is)) (from_lefts edges made.of pieced.of made.inside)

pub rises_turned : (edges : List (ℕ × ℕ)) → Rises Forward edges → Rises Below (turned edges)
unfolding turned lefts
rises_turned edges r =
    rises_flat_map Less Below (row_turned edges) (rising_of (map (λ edge. edge.1) edges)) (rises_rising_of (map (λ edge. edge.1) edges))
    (λ right h. rises_map Less Below (λ left. (right, left)) (lefts edges right)
    (λ x y hx hy less. (omega arith, (λ _. less)))
    (rises_map Forward Less (λ edge. edge.0) (filter (has_right right) edges)
    (λ a b ha hb forward. forward (eqb-true a.1 right (from_filter (has_right right) a edges ha).1 ∙ sym (eqb-true b.1 right (from_filter (has_right right) b edges hb).1)))
    (rises_filter Forward (has_right right) edges r)))
    (λ x z y w less hy hw.
    (let first = (from_map (λ left. (x, left)) y (lefts edges x) hy).is in
    let second = (from_map (λ left. (z, left)) w (lefts edges z) hw).is in
    let y0 : y.0 ≡ x = ap (λ (u : ℕ × ℕ). u.0) first in
    let w0 : w.0 ≡ z = ap (λ (u : ℕ × ℕ). u.0) second in
    (omega (arith, y0, w0, less), (λ e. absurd (omega (arith, y0, w0, less, e))))))
