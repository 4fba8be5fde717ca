-- An adjacency list: each place in a row holds a number, the right side of an edge whose left side is the row.
use Rattle.std.specs.Prelude.{◌≡◌, ℕ, Bool, true, false, nat_le, List, [], ◌∷◌, length, map, refl, slice_index}
use Rattle.std.specs.List.{filter, range_with_len}
use Rattle.ts_adjacency.specs.Rows.{IsClosed, row_of}

-- for each place, whether it is its row's last, and its number
pub record Adjacency : Type 0 where
  pub ends : List Bool
  pub rights : List ℕ

-- each place has a row that ends, and a number
pub record IsWhole (a : Adjacency) : Type 0 where
  pub closed : IsClosed a.ends
  pub paired : length a.ends ≡ length a.rights

-- the edge at place j: its row, and its number
abbrev pub edge_at : Adjacency → ℕ → ℕ × ℕ
edge_at a j = (row_of a.ends j, slice_index a.rights j)

-- the edges, in the order of their places
unfoldable pub edges : Adjacency → List (ℕ × ℕ)
edges a = map (edge_at a) (range_with_len 0 (length a.ends))

-- those of the rows from i on
unfoldable pub edges_from : Adjacency → ℕ → List (ℕ × ℕ)
edges_from a i = filter (λ edge. nat_le i edge.0) (edges a)

-- two rows: 7 and 9, then 8
pub edges_of_two_rows : edges (record { ends = false ∷ true ∷ true ∷ []; rights = 7 ∷ 9 ∷ 8 ∷ [] }) ≡ (0, 7) ∷ (0, 9) ∷ (1, 8) ∷ []
unfolding edges
edges_of_two_rows = refl

-- the second row alone
pub edges_from_second_row : edges_from (record { ends = false ∷ true ∷ true ∷ []; rights = 7 ∷ 9 ∷ 8 ∷ [] }) 1 ≡ (1, 8) ∷ []
unfolding edges edges_from
edges_from_second_row = refl
