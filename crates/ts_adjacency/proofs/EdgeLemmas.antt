-- The edges of an adjacency list, one after another and from a row on.
use Rattle.std.proofs.Common.{◌≡◌, ℕ, zero, suc, ◌+◌, ◌<◌, ◌≤◌, Bool, true, false, nat_le, List, [], ◌∷◌, length, get_or, drop, sym, ◌∙◌, ap, arith, inl, inr}
use Rattle.std.proofs.lemmas.Bool.{cond-true, cond-false, le-leb}
use Rattle.std.proofs.lemmas.Bool.Decides.{leb_tells}
use Rattle.std.proofs.lemmas.List.{drop_more, drop_all}
use Rattle.std.proofs.lemmas.List.FromFn.{length-map-range_with_len, get_or-map-range_with_len}
use Rattle.std.specs.List.{filter}
use Rattle.ts_bits.proofs.Ranks.{rank-mono}
use Rattle.ts_adjacency.specs.Rows.{BeginsAt, row_of}
use Rattle.ts_adjacency.specs.Adjacency.{Adjacency, edge_at, edges, edges_from}

pub length-edges : (a : Adjacency) → length (edges a) ≡ length a.ends
unfolding edges
length-edges a = length-map-range_with_len (edge_at a) 0 (length a.ends)

pub edge_of : (a : Adjacency) (j : ℕ) → j < length a.ends → get_or (edges a) j (0, 0) ≡ edge_at a j
unfolding edges
edge_of a j h = get_or-map-range_with_len (edge_at a) 0 (length a.ends) j j (0, 0) h (omega arith)

-- the next edge, and those after it
pub edges_more : (a : Adjacency) (j : ℕ) → j < length a.ends → drop j (edges a) ≡ edge_at a j ∷ drop (j + 1) (edges a)
edges_more a j h =
    let inside : j < length (edges a) = omega (arith, length-edges a) in
    drop_more (edges a) j (0, 0) inside ∙ ap (λ e. e ∷ drop (j + 1) (edges a)) (edge_of a j h)

pub edges_end : (a : Adjacency) (j : ℕ) → length a.ends ≤ j → drop j (edges a) ≡ []
edges_end a j h = drop_all j (edges a) (omega (arith, length-edges a))

-- a test that begins to hold at place k keeps what stands from there on
pub filter_from : {X : Type 0} (p : X → Bool) (xs : List X) (k : ℕ) (d : X)
    → ((j : ℕ) → j < length xs → j < k → p (get_or xs j d) ≡ false)
    → ((j : ℕ) → j < length xs → k ≤ j → p (get_or xs j d) ≡ true)
    → filter p xs ≡ drop k xs
filter_from {X} p [] k d fails holds = sym (drop_all k [] (omega arith))
filter_from p (x ∷ xs) zero d fails holds =
    let rest : filter p xs ≡ xs = filter_from p xs 0 d (λ j w h. absurd (omega arith)) (λ j w h. holds (suc j) (omega arith) (omega arith)) in
    cond-true (p x) _ _ (holds 0 (omega arith) (omega arith)) ∙ ap (λ l. x ∷ l) rest
filter_from p (x ∷ xs) (suc k) d fails holds =
    cond-false (p x) _ _ (fails 0 (omega arith) (omega arith))
    ∙ filter_from p xs k d (λ j w h. fails (suc j) (omega arith) (omega arith)) (λ j w h. holds (suc j) (omega arith) (omega arith))

nat_le_fails : (m n : ℕ) → n < m → nat_le m n ≡ false
nat_le_fails m n h = elim (leb_tells m n) [
  | inl holds ↦ absurd (omega (arith, holds.1))
  | inr fails ↦ fails.0
]

-- the row of an edge
row_at : (a : Adjacency) (j : ℕ) → j < length (edges a) → (get_or (edges a) j (0, 0)).0 ≡ row_of a.ends j
row_at a j h = ap (λ (e : ℕ × ℕ). e.0) (edge_of a j (omega (arith, length-edges a)))

pub edges_behind : (a : Adjacency) (i first : ℕ) → BeginsAt a.ends i first → drop first (edges a) ≡ edges_from a i
unfolding edges_from
edges_behind a i first begin = sym (filter_from (λ edge. nat_le i edge.0) (edges a) first (0, 0)
    (λ j within before. nat_le_fails i _ (omega (arith, row_at a j within, begin.before j before)))
    (λ j within behind. le-leb i _ (let mono = rank-mono a.ends first j behind in omega (arith, row_at a j within, mono.0, begin.here))))
