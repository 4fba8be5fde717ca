-- The parts of the text of a triple, from its front to its end.
use Rattle.std.specs.Prelude.{◌≡◌, ℕ, ◌==◌, if◌then◌else◌, List, [], ◌∷◌}
use Rattle.ts_model.specs.declared.term.TermKind.{TermKind}
use Rattle.ts_model.specs.declared.term.TermKind.TheVariants.{Node, Predicate, Value}
use Rattle.ts_model.specs.declared.signed.Sign.{Sign}
use Rattle.ts_model.specs.declared.signed.Sign.TheVariants.{Add, Remove}
use Rattle.ts_model.specs.TextTriple.{TextTriple}
use Rattle.ts_nt.specs.TripleText.{after_blanks, IsNothingOrComment, IsTripleText}

-- the sign that stands at the front, and what follows it
abbrev pub sign_at : List ℕ → Sign × List ℕ
sign_at [] = (Add, [])
sign_at (c ∷ text) = if c == 0x2B then (Add, text) else (if c == 0x2D then (Remove, text) else (Add, c ∷ text))

-- what an object that stands at the front is: a value where it begins with `"`
abbrev pub object_kind : List ℕ → TermKind
object_kind [] = Node
object_kind (c ∷ text) = if c == 0x22 then Value else Node

-- the end of a line behind the object
abbrev pub IsEnd : List ℕ → Type 0
IsEnd text = (behind : List ℕ) × (after_blanks text ≡ 0x2E ∷ behind) × IsNothingOrComment (after_blanks behind)

-- the triple of three spellings
abbrev pub triple_of : TermKind → List ℕ → List ℕ → List ℕ → TextTriple
triple_of kind subject predicate object = record {
  subject = record { kind = Node; spelling = subject };
  predicate = record { kind = Predicate; spelling = predicate };
  object = record { kind = kind; spelling = object };
}

-- it is the text of no triple
abbrev pub IsNoTriple : List ℕ → Type 0
IsNoTriple text = (sign : Sign) (triple : TextTriple) → IsTripleText text sign triple → ⊥
