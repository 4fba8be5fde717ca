-- Productions of the grammar, each at the front of a text: what stands there, and the text after it. A text is a list of characters.
use Rattle.std.specs.Prelude.{◌≡◌, ℕ, List, [], ◌∷◌, ◌++◌, Option, None, Some}

-- any number of items at the front of a text, each as `item` reads it, and the text after them
abbrev pub Reads : (List ℕ → Option (ℕ × List ℕ)) → List ℕ → List ℕ → List ℕ → Type 0
Reads item text [] rest = text ≡ rest
Reads item text (c ∷ characters) rest = (more : List ℕ) × (item text ≡ Some (c, more)) × Reads item more characters rest

-- What is read of a production that spells something: its spelling behind what stood there and the text after it, or
-- nothing, where the production doesn't stand at the front of the text.
abbrev pub Finds : (List ℕ → List ℕ → List ℕ → Type 0) → List ℕ → List ℕ → List ℕ → Option (List ℕ) → Type 0
Finds At text old new (Some rest) = (spelling : List ℕ) × At text spelling rest × (new ≡ old ++ spelling)
Finds At text old new None = (spelling rest : List ℕ) → At text spelling rest → ⊥
