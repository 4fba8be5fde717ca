-- The parts of a plain file, from its front to its end.
use Rattle.std.specs.Prelude.{◌≡◌, ◌≢◌, ℕ, ◌<◌, ◌≤◌, ◌⊎◌, List, ◌∷◌, ◌++◌, All, Contains, Option, IfSome}
use Rattle.std.specs.List.Sorted.{IsStrictlySortedBy}
use Rattle.ts_model.specs.TextTriple.{TextTriple, IsTriple}
use Rattle.ts_model.specs.Order.{triple_cmp}
use Rattle.ts_plain.specs.PlainFile.{head_line, change_lines}

-- no line feed stands in the text
abbrev pub HasNoEnd : List ℕ → Type 0
HasNoEnd text = All (λ byte. byte ≢ 0x0A) text

-- a parent's number is at least 1 and less than the layer's
abbrev pub IsParent : ℕ → Option ℕ → Type 0
IsParent number parent = IfSome parent (λ p. (1 ≤ p) × (p < number))

-- the bytes don't begin with the sign and a space
abbrev pub HasNoSign : ℕ → List ℕ → Type 0
HasNoSign sign bytes = (rest : List ℕ) → bytes ≢ sign ∷ 0x20 ∷ rest

-- the lines of a sign at the front of the bytes are those of triples that rise, and the rest follows them
pub record IsSection (sign : ℕ) (bytes : List ℕ) (these : List TextTriple) (rest : List ℕ) : Type 0 where
  pub rise : IsStrictlySortedBy triple_cmp these
  pub triples : All IsTriple these
  pub ends : HasNoSign sign rest
  pub lines : bytes ≡ change_lines sign these ++ rest

-- no triple stands in both
abbrev pub AreApart : List TextTriple → List TextTriple → Type 0
AreApart additions removals = (triple : TextTriple) → Contains additions triple → Contains removals triple → ⊥

-- the bytes begin with a line, and that with the sign and a space
abbrev pub BeginsWithLine : ℕ → List ℕ → Type 0
BeginsWithLine sign bytes = (text : List ℕ) × (rest : List ℕ) × (bytes ≡ sign ∷ 0x20 ∷ (text ++ 0x0A ∷ rest))

-- the head of a layer of that number stands at the front, and then a line of an addition or of a removal
pub record HasHeadAndLine (number : ℕ) (bytes : List ℕ) : Type 0 where
  pub parent : Option ℕ
  pub body : List ℕ
  pub numbered : 1 ≤ number
  pub parented : IsParent number parent
  pub head : bytes ≡ head_line number parent ++ body
  pub line : BeginsWithLine 0x2B body ⊎ BeginsWithLine 0x2D body
