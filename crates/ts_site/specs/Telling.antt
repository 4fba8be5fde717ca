-- Meanings that an implementation may tell or not.
use Rattle.std.specs.Prelude.{Bool, IsTrue}

-- what is told after a call was told before it; where it is told after the call, the fact holds
abbrev pub Tells : Bool → Bool → Type 0 → Type 0
Tells before after fact = (IsTrue after → IsTrue before) × (IsTrue after → fact)
