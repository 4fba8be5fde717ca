-- Spellings that are read back as they were written.
use Rattle.std.specs.Prelude.{◌≡◌, ℕ, List, ◌∷◌, ◌++◌, encode_utf8_all, All}
use Rattle.std.specs.Char.{IsScalar}

-- the spelling is a text at whose front the production stands, whatever follows
abbrev pub Prints : (List ℕ → List ℕ → Type 0) → List ℕ → Type 0
Prints At spelling = (text : List ℕ) × All IsScalar text × (encode_utf8_all text ≡ spelling) × ((more : List ℕ) → At (text ++ more) more)

-- the same where a space follows
abbrev pub PrintsBeforeSpace : (List ℕ → List ℕ → Type 0) → List ℕ → Type 0
PrintsBeforeSpace At spelling =
    (text : List ℕ) × All IsScalar text × (encode_utf8_all text ≡ spelling) × ((more : List ℕ) → At (text ++ 0x20 ∷ more) (0x20 ∷ more))
