-- A base layer with the triples of another layer.
use Rattle.std.specs.Prelude.{◌≡◌, ℕ, List, [], ◌∷◌, flat_map, map, None}
use Rattle.std.specs.FinMap.{empty, insert}
use Rattle.ts_model.specs.History.{History, content_at}
use Rattle.ts_plane.specs.declared.triple.IdTriple.{IdTriple}
use Rattle.ts_part.specs.declared.header.PartKind.TheVariants.{Layer}
use Rattle.ts_part.specs.Facts.{Facts}
use Rattle.ts_part.specs.Header.{KeepsHeaderRules, header_of}

-- the history with a base of this number that has the triples of layer k
abbrev pub squashed : History → ℕ → ℕ → History
squashed history number k = insert history number (record { parent = None; additions = content_at history k; removals = empty })

-- the facts have the header of a base of this number
pub record IsBase (n : ℕ) (facts : Facts) : Type 0 where
  pub kind : facts.kind ≡ Layer
  pub number : facts.number ≡ n
  pub parent : facts.parent ≡ None
  pub terms : facts.terms_before ≡ 0
  pub predicates : facts.predicates_before ≡ 0
  pub rules : KeepsHeaderRules (header_of facts 0)

-- the numbers of subjects and objects, and those of predicates
abbrev pub ends_of : List IdTriple → List ℕ
ends_of triples = flat_map (λ t. t.s ∷ t.o ∷ []) triples

abbrev pub relations_of : List IdTriple → List ℕ
relations_of triples = map (λ t. t.p) triples
