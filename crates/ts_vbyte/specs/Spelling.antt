use Rattle.std.specs.Prelude.{◌≡◌, ℕ, ◌+◌, ◌^◌, ◌<◌, ◌≤◌, ◌==◌, if◌then◌else◌, List, [], ◌∷◌, length, take, reverse}
use Rattle.std.specs.Int.Digits.{digits_of}

-- the groups of seven binary digits of a number, the lowest first; 0 has one
unfoldable pub groups_of : ℕ → List ℕ
groups_of x = if x == 0 then 0 ∷ [] else reverse (digits_of 128 x)

-- bit 7 set on the last byte alone
unfoldable pub mark_last : List ℕ → List ℕ
mark_last [] = []
mark_last (group ∷ []) = (128 + group) ∷ []
mark_last (group ∷ next ∷ rest) = group ∷ mark_last (next ∷ rest)

-- the one spelling of a number
unfoldable pub spelling : ℕ → List ℕ
spelling x = mark_last (groups_of x)

-- the bytes, whole, spell this number
pub record NumberSays (bytes : List ℕ) (x : ℕ) : Type 0 where
  pub spelled : bytes ≡ spelling x
  pub fits : x < 2 ^ 64

-- no other front of the bytes is a spelling, and this one is that of no other number
abbrev pub FrontSaysOnly : List ℕ → ℕ → ℕ → Type 0
FrontSaysOnly bytes size x = (front y : ℕ)
    → front ≤ length bytes → NumberSays (take front bytes) y → (front ≡ size) × (y ≡ x)
