use Rattle.std.proofs.Common.{◌≡◌, ℕ, ◌+◌, ◌<◌, ◌≤◌, List, [], ◌∷◌, ◌++◌, length, get_or, take, refl, subst, arith, inl, inr, length-append}
use Rattle.std.proofs.lemmas.Bool.{cases_lt}
use Rattle.std.proofs.lemmas.List.{take-append-le, get_or_append_left, take_at}
use Rattle.std.proofs.Math.Seq.{get_or-append_seam}
use Rattle.std.proofs.lemmas.List.Sums.{fold_more, fold-append}
use Rattle.ts_front.specs.declared.piece.Piece.{Piece}
use Rattle.ts_front.specs.Made.{made_on, made_by, Fit}

-- a piece more
pub made_more : (pieces : List Piece) (k : ℕ) (d : Piece) → k < length pieces
    → made_by (take (k + 1) pieces) ≡ take (get_or pieces k d).shared (made_by (take k pieces)) ++ (get_or pieces k d).suffix.now
unfolding made_by
made_more pieces k d h = fold_more made_on [] pieces k d h

pub made_none : made_by [] ≡ []
unfolding made_by
made_none = refl

pub made_push : (pieces : List Piece) (piece : Piece) → made_by (pieces ++ piece ∷ []) ≡ take piece.shared (made_by pieces) ++ piece.suffix.now
unfolding made_by
made_push pieces piece = fold-append made_on [] pieces (piece ∷ [])

pub fit_none : Fit []
fit_none k d h = absurd (omega arith)

fit_before : (pieces : List Piece) (piece : Piece) (k : ℕ) (d : Piece) → Fit pieces → k < length pieces
    → (get_or (pieces ++ piece ∷ []) k d).shared ≤ length (made_by (take k (pieces ++ piece ∷ [])))
fit_before pieces piece k d fit h =
    rw (get_or_append_left pieces (piece ∷ []) d k h, take-append-le k pieces (piece ∷ []) (let le : k ≤ length pieces = omega arith in le)) (fit k d h)

fit_last : (pieces : List Piece) (piece : Piece) (d : Piece) → piece.shared ≤ length (made_by pieces)
    → (get_or (pieces ++ piece ∷ []) (length pieces) d).shared ≤ length (made_by (take (length pieces) (pieces ++ piece ∷ [])))
fit_last pieces piece d h = rw (get_or-append_seam pieces piece [] d, take_at pieces (piece ∷ []) (length pieces) refl) h

pub fit_push : (pieces : List Piece) (piece : Piece) → Fit pieces → piece.shared ≤ length (made_by pieces) → Fit (pieces ++ piece ∷ [])
fit_push pieces piece fit fits k d h =
    elim (cases_lt k (length pieces)) [
      | inl before ↦ fit_before pieces piece k d fit before
      | inr last ↦
          let at : length pieces ≡ k = omega (arith, length-append pieces (piece ∷ [])) in
          subst (λ n. (get_or (pieces ++ piece ∷ []) n d).shared ≤ length (made_by (take n (pieces ++ piece ∷ [])))) at (fit_last pieces piece d fits)
    ]
