-- How far a listing is said.
use Rattle.std.specs.Prelude.{◌≡◌, ◌++◌, ℕ, List, Result, MatchResult}
use Rattle.ts_store.specs.declared.stop.Stop.{Stop}
use Rattle.ts_store.specs.declared.stop.Stop.TheVariants.{OutputFault}
use Rattle.ts_store.specs.Leaves.{AreLines}

-- a front of the text was said, and this is left of it
abbrev pub SaysPrefix : (List ℕ → Type 0) → List ℕ → List ℕ → List ℕ → List ℕ → Type 0
SaysPrefix Is text old new rest = (said : List ℕ) × Is said × (new ≡ old ++ said) × (said ++ rest ≡ text)

-- at a fault of the output anything may be said, and else lines alone
abbrev pub IsSaidAt : Stop → List ℕ → Type 0
IsSaidAt OutputFault said = Unit {0}
IsSaidAt _ said = AreLines said

-- all but this rest was said, or a front
abbrev pub SaysSoFar : {T : Type 0} → Result T Stop → List ℕ → List ℕ → List ℕ → List ℕ → Type 0
SaysSoFar result text old new rest = MatchResult result (λ _. SaysPrefix AreLines text old new rest) (λ stop. (left : List ℕ) × SaysPrefix (IsSaidAt stop) text old new left)
