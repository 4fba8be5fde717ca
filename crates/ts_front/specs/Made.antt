use Rattle.std.specs.Prelude.{ℕ, ◌<◌, ◌≤◌, List, [], ◌++◌, length, take, fold, slice_index_or}
use Rattle.ts_front.specs.declared.piece.Piece.{Piece}

-- the text that a piece makes of the one before it
abbrev pub made_on : List ℕ → Piece → List ℕ
made_on before piece = take piece.shared before ++ piece.suffix.now

-- the text that pieces make one after another, the first of them of nothing
unfoldable pub made_by : List Piece → List ℕ
made_by pieces = fold made_on [] pieces

-- no piece shares more than the text before it has
abbrev pub Fit : List Piece → Type 0
Fit pieces = (k : ℕ) (d : Piece) → k < length pieces → (slice_index_or pieces k d).shared ≤ length (made_by (take k pieces))
