-- Whether a chain has a triple of spellings.
use Rattle.std.specs.Prelude.{ℕ, ◌==◌, if◌then◌else◌, List, [], ◌∷◌, IsTrue}
use Rattle.ts_model.specs.declared.term.TermKind.{TermKind}
use Rattle.ts_model.specs.declared.term.TermKind.TheVariants.{Node, Predicate, Value}
use Rattle.ts_model.specs.TextTriple.{TextTriple}
use Rattle.ts_plane.specs.declared.triple.IdTriple.{IdTriple}
use Rattle.ts_part.specs.Facts.{Facts}
use Rattle.ts_chain.specs.Content.{stands_in}
use Rattle.ts_chain.specs.Ids.{HasId}

-- the chain has the triple's terms under these numbers
pub record HasIds (parts : List Facts) (triple : TextTriple) (t : IdTriple) : Type 0 where
  pub subject : HasId parts triple.subject t.s
  pub predicate : HasId parts triple.predicate t.p
  pub object : HasId parts triple.object t.o

-- and the triple of these numbers stands
pub record Holds (parts : List Facts) (triple : TextTriple) : Type 0 where
  pub ids : IdTriple
  pub has : HasIds parts triple ids
  pub stands : IsTrue (stands_in parts ids)

-- an object that begins with a quotation mark is a value
abbrev pub object_kind : List ℕ → TermKind
object_kind [] = Node
object_kind (byte ∷ bytes) = if byte == 34 then Value else Node

-- the triple of three spellings
abbrev pub spelled_triple : List ℕ → List ℕ → List ℕ → TextTriple
spelled_triple s p o = record {
  subject = record { kind = Node; spelling = s };
  predicate = record { kind = Predicate; spelling = p };
  object = record { kind = object_kind o; spelling = o };
}
