-- The moments of a site, and what goes on from one to another.
use Rattle.std.specs.Prelude.{◌≡◌, ◌⊎◌, ℕ, List, ◌++◌, All, Result, MatchResult}
use Rattle.ts_site.specs.Crash.{CrashState}

-- what a crash at this moment leaves, and the bytes said by then
pub record Moment : Type 0 where
  pub crash : CrashState
  pub told : List ℕ

-- Moments, the latest first, to which came some that are all like that. The earlier ones are as they were.
abbrev pub GoesOn : (Moment → Type 0) → List Moment → List Moment → Type 0
GoesOn P old new = (more : List Moment) × (new ≡ more ++ old) × All P more

-- the change came about, or nothing did
abbrev pub IsChangedOrNot : CrashState → CrashState → CrashState → Type 0
IsChangedOrNot changed old new = (new ≡ changed) ⊎ (new ≡ old)

-- a call that changes files or names, or settles: at Ok the change came about, and after a failure it did or not
abbrev pub Changes : {E : Type 0} → Result (Unit {0}) E → CrashState → CrashState → CrashState → Type 0
Changes result changed old new = MatchResult result (λ _. new ≡ changed) (λ _. IsChangedOrNot changed old new)
