-- The bytes that a source gives.
use Rattle.std.specs.Prelude.{◌≡◌, ◌↔◌, ℕ, ◌≤◌, List, [], take, drop, length, Result, MatchResult}

-- the first n bytes of what is left move to the front of a buffer; none comes exactly at the end
pub record Takes (n : ℕ) (old new into : List ℕ) : Type 0 where
  pub stand : n ≤ length old
  pub front : take n into ≡ take n old
  pub rest : new ≡ drop n old
  pub end : (n ≡ 0) ↔ (old ≡ [])

-- a failure takes nothing
abbrev pub TakesOrKeeps : {E : Type 0} → Result ℕ E → List ℕ → List ℕ → List ℕ → Type 0
TakesOrKeeps result old new into = MatchResult result (λ n. Takes n old new into) (λ _. new ≡ old)
