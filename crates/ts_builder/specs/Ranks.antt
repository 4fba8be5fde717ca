-- Different terms, one behind another.
use Rattle.std.specs.Borrow.{Bor}
use Rattle.std.specs.Prelude.{ℕ, map, Bool, false, if◌then◌else◌, List, [], ◌∷◌, ◌++◌}
use Rattle.ts_model.specs.Birth.{is_term}
use Rattle.ts_model.specs.TextTerm.{TextTerm}

-- the last of them is the term
abbrev pub ends_with : List TextTerm → TextTerm → Bool
ends_with [] term = false
ends_with (x ∷ []) term = is_term term x
ends_with (x ∷ y ∷ ys) term = ends_with (y ∷ ys) term

-- the term comes behind them, unless it is the last
abbrev pub with_term : List TextTerm → TextTerm → List TextTerm
with_term terms term = if ends_with terms term then terms else terms ++ term ∷ []

-- the terms of occurrences, each with its place
abbrev pub placed : List (Bor TextTerm × ℕ × ℕ) → List (TextTerm × ℕ)
placed occurrences = map (λ (occurrence : Bor TextTerm × ℕ × ℕ). (occurrence.0.now, occurrence.1)) occurrences
