-- The line of a triple: its terms and a dot, with one space after each term.
use Rattle.std.specs.Prelude.{◌≡◌, ℕ, List, [], ◌∷◌, ◌++◌}
use Rattle.ts_model.specs.TextTriple.{TextTriple}

-- one space after each term, then a dot and a line feed
abbrev pub triple_line : TextTriple → List ℕ
triple_line triple =
    triple.subject.spelling ++ 0x20 ∷ [] ++ triple.predicate.spelling ++ 0x20 ∷ [] ++ triple.object.spelling ++ 0x20 ∷ 0x2E ∷ 0x0A ∷ []

-- the new bytes are the old ones and perhaps more
abbrev pub Extends : List ℕ → List ℕ → Type 0
Extends old new = (more : List ℕ) × (new ≡ old ++ more)
