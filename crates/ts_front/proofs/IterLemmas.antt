use Rattle.std.proofs.Common.{◌≡◌, ℕ, ◌+◌, ◌<◌, ◌≤◌, List, [], ◌∷◌, length, get_or, drop, ◌∙◌, ap, arith}
use Rattle.std.proofs.lemmas.List.{drop_more, drop_all}
use Rattle.std.proofs.lemmas.List.FromFn.{length-map-range_with_len, get_or-map-range_with_len}
use Rattle.ts_front.specs.Pieces.{pieces_of, shared_at, suffix_at}

pub length-pieces_of : (texts : List (List ℕ)) → length (pieces_of texts) ≡ length texts
unfolding pieces_of
length-pieces_of texts = length-map-range_with_len (λ i. (shared_at texts i, suffix_at texts i)) 0 (length texts)

pub piece_of : (texts : List (List ℕ)) (i : ℕ) → i < length texts → get_or (pieces_of texts) i (0, []) ≡ (shared_at texts i, suffix_at texts i)
unfolding pieces_of
piece_of texts i h = get_or-map-range_with_len (λ k. (shared_at texts k, suffix_at texts k)) 0 (length texts) i i (0, []) h (omega arith)

-- the next piece, and those after it
pub pieces_more : (texts : List (List ℕ)) (i : ℕ) → i < length texts → drop i (pieces_of texts) ≡ (shared_at texts i, suffix_at texts i) ∷ drop (i + 1) (pieces_of texts)
pieces_more texts i h =
    let inside : i < length (pieces_of texts) = omega (arith, length-pieces_of texts) in
    drop_more (pieces_of texts) i (0, []) inside ∙ ap (λ p. p ∷ drop (i + 1) (pieces_of texts)) (piece_of texts i h)

pub pieces_end : (texts : List (List ℕ)) (i : ℕ) → length texts ≤ i → drop i (pieces_of texts) ≡ []
pieces_end texts i h = drop_all i (pieces_of texts) (omega (arith, length-pieces_of texts))
