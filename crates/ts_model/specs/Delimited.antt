-- Characters between two delimiters, as an IRI and a string have them.
use Rattle.std.specs.Prelude.{◌≡◌, ℕ, List, ◌∷◌, ◌++◌, flat_map, All}
use Rattle.std.specs.Char.{IsScalar}

-- the text begins with characters, each spelled as `written` says, and then the delimiter that ends them; `rest` is what follows
pub record EndsAt (written : ℕ → List ℕ) (delimiter : ℕ) (text rest : List ℕ) : Type 0 where
  pub characters : List ℕ
  pub scalars : All IsScalar characters
  pub spelled : text ≡ flat_map written characters ++ delimiter ∷ rest
