-- A blank label: `_:`, a first character, then name characters and dots, of which the last is no dot.
use Rattle.std.specs.Prelude.{◌≡◌, ℕ, Bool, ◌||◌, ◌==◌, List, [], ◌∷◌, ◌++◌, ◌⊎◌, encode_utf8_all, All, IsTrue}
use Rattle.std.specs.Char.{IsScalar}
use Rattle.ts_model.specs.Characters.{is_name_start, is_name_character, is_digit}

abbrev pub starts_label : ℕ → Bool
starts_label c = is_name_start c || is_digit c

abbrev pub is_label_character : ℕ → Bool
is_label_character c = is_name_character c || (c == 0x2E)

-- nothing, or label characters and then a name character
abbrev pub IsLabelRest : List ℕ → Type 0
IsLabelRest rest =
    (rest ≡ [])
    ⊎ ((middle : List ℕ) × ((last : ℕ) × (All (λ c. IsTrue (is_label_character c)) middle × IsTrue (is_name_character last) × (rest ≡ middle ++ last ∷ []))))

-- what BLANK_NODE_LABEL has behind `_:`
abbrev pub IsLabel : List ℕ → Type 0
IsLabel label = (first : ℕ) × (others : List ℕ) × IsTrue (starts_label first) × IsLabelRest others × (label ≡ first ∷ others)

pub record IsBlankLabel (spelling : List ℕ) : Type 0 where
  pub label : List ℕ
  pub scalars : All IsScalar label
  pub is_label : IsLabel label
  pub spelled : spelling ≡ 0x5F ∷ 0x3A ∷ encode_utf8_all label
