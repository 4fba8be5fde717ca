-- What was said.
use Rattle.std.specs.Prelude.{◌≡◌, ℕ, List, ◌++◌, take, Result, MatchResult}

-- at Ok the whole piece was said, and after a failure a front of it
abbrev pub Says : {T E : Type 0} → Result T E → List ℕ → List ℕ → List ℕ → Type 0
Says result piece old new = MatchResult result (λ _. new ≡ old ++ piece) (λ _. (n : ℕ) × (new ≡ old ++ take n piece))
