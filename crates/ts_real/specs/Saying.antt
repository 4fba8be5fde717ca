-- What is noted of a piece that was said.
use Rattle.std.specs.Prelude.{◌≡◌, ℕ, List, ◌∷◌, Option, take}
use Rattle.std.specs.Io.KnownBytes.{Appends}

-- a front of the piece was noted, and known bytes grew by it
abbrev pub Notes : Option (List ℕ) → Option (List ℕ) → List ℕ → List (List ℕ) → List (List ℕ) → Type 0
Notes old new piece before after = (count : ℕ) × (after ≡ take count piece ∷ before) × Appends old new (take count piece)
