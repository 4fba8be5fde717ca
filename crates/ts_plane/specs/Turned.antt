-- Edges turned around: for each right side its left sides.
use Rattle.std.specs.Prelude.{◌≡◌, ℕ, ◌<◌, ◌==◌, if◌then◌else◌, nat_lt, List, [], ◌∷◌, map, refl}
use Rattle.std.specs.List.{AllPairs, filter, flat_map}

-- a number put into a rising list, where it isn't there
unfoldable pub put : ℕ → List ℕ → List ℕ
put x [] = x ∷ []
put x (y ∷ ys) = if nat_lt x y then x ∷ y ∷ ys else if x == y then y ∷ ys else y ∷ put x ys

-- the numbers of a list, each once, rising
unfoldable pub rising_of : List ℕ → List ℕ
rising_of [] = []
rising_of (x ∷ xs) = put x (rising_of xs)

-- the left sides of the edges with this right side, in the edges' order
unfoldable pub lefts : List (ℕ × ℕ) → ℕ → List ℕ
lefts edges right = map (λ edge. edge.0) (filter (λ edge. edge.1 == right) edges)

-- where right sides agree, the left sides rise
abbrev pub IsForward : List (ℕ × ℕ) → Type 0
IsForward edges = AllPairs (λ a b. a.1 ≡ b.1 → a.0 < b.0) edges

-- for each right side, rising, it with each of its left sides
unfoldable pub turned : List (ℕ × ℕ) → List (ℕ × ℕ)
turned edges = flat_map (λ right. map (λ left. (right, left)) (lefts edges right)) (rising_of (map (λ edge. edge.1) edges))

pub turned_edges : turned ((0, 9) ∷ (1, 7) ∷ (1, 9) ∷ []) ≡ (7, 1) ∷ (9, 0) ∷ (9, 1) ∷ []
unfolding put rising_of lefts turned
turned_edges = refl
