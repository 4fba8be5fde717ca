-- Headers, sections and files as they are written.
use Rattle.std.specs.Prelude.{◌≡◌, ℕ, ◌+◌, ◌≤◌, List, [], ◌∷◌, ◌++◌, length, map, flat_map, codes}
use Rattle.std.specs.Int.{w16, to_be_bytes}
use Rattle.ts_front.specs.Dictionary.{DictionarySays}
use Rattle.ts_idmap.specs.IdMap.{MapSays}
use Rattle.ts_plane.specs.declared.triple.IdTriple.{IdTriple}
use Rattle.ts_plane.specs.Plane.{PlaneSays}
use Rattle.ts_part.specs.declared.header.PartKind.{PartKind}
use Rattle.ts_part.specs.declared.header.PartKind.TheVariants.{Layer, Rollup}
use Rattle.ts_part.specs.declared.write.Body.{Body}
use Rattle.ts_part.specs.Facts.{Facts, spellings}
use Rattle.ts_part.specs.Header.{kind_number, section_count}
use Rattle.ts_part.specs.Layout.{of_kind, padded}
use Rattle.ts_part.specs.Part.{SectionsSay}
use Rattle.ts_part.specs.Sayable.{IsSayable}

-- what each header of a kind begins with: `TSPART`, version 1, the kind, order rule 1, the number of sections
abbrev pub kind_bytes : PartKind → List ℕ
kind_bytes kind = codes "TSPART" ++ to_be_bytes w16 1 ++ kind_number kind ∷ 1 ∷ to_be_bytes w16 (section_count kind)

-- the body holds these sections, each with its zeros, and how long each is
pub record HoldsSections (body : Body) (sections : List (List ℕ)) : Type 0 where
  pub content : body.content.items ≡ flat_map padded sections
  pub sizes : body.sizes.items ≡ map length sections

-- behind them it holds the two sections of a dictionary
pub record HoldsTerms (body : Body) (before : List (List ℕ)) (texts : List (List ℕ)) : Type 0 where
  pub starts : List ℕ
  pub bytes : List ℕ
  pub says : DictionarySays starts bytes texts
  pub holds : HoldsSections body (before ++ starts ∷ bytes ∷ [])

-- behind them it holds the eight sections of a plane
pub record HoldsPlane (body : Body) (before : List (List ℕ)) (triples : List IdTriple) : Type 0 where
  pub eight : List (List ℕ)
  pub says : PlaneSays eight triples
  pub holds : HoldsSections body (before ++ eight)

-- the 22 sections that each file has
abbrev pub lists_of : List (List ℕ) → List (List ℕ) → List (List ℕ) → List (List ℕ) → List (List ℕ) → List (List ℕ)
lists_of nodes predicates values additions removals = nodes ++ predicates ++ values ++ additions ++ removals

-- the body holds the dictionaries of the facts' terms, and the planes of their triples
pub record HoldsLists (body : Body) (facts : Facts) : Type 0 where
  pub node_starts : List ℕ
  pub node_bytes : List ℕ
  pub predicate_starts : List ℕ
  pub predicate_bytes : List ℕ
  pub value_starts : List ℕ
  pub value_bytes : List ℕ
  pub additions : List (List ℕ)
  pub removals : List (List ℕ)
  pub nodes_say : DictionarySays node_starts node_bytes (spellings facts.nodes)
  pub predicates_say : DictionarySays predicate_starts predicate_bytes (spellings facts.predicates)
  pub values_say : DictionarySays value_starts value_bytes (spellings facts.values)
  pub additions_say : PlaneSays additions facts.additions
  pub removals_say : PlaneSays removals facts.removals
  pub holds : HoldsSections body (lists_of (node_starts ∷ node_bytes ∷ []) (predicate_starts ∷ predicate_bytes ∷ [])
      (value_starts ∷ value_bytes ∷ []) additions removals)

-- the sections of maps: a rollup has two, and a layer none
abbrev pub AreMapsOf : PartKind → List (List ℕ) → List ℕ → List ℕ → Type 0
AreMapsOf Layer maps terms predicates = (terms ≡ []) × (predicates ≡ [])
AreMapsOf Rollup maps terms predicates = MapSays (of_kind maps 1) terms × MapSays (of_kind maps 2) predicates

-- behind other sections the body holds these maps
pub record HoldsMaps (kind : PartKind) (body : Body) (before : List (List ℕ)) (terms predicates : List ℕ) : Type 0 where
  pub maps : List (List ℕ)
  pub counted : 22 + length maps ≡ section_count kind
  pub are : AreMapsOf kind maps terms predicates
  pub holds : HoldsSections body (before ++ maps)

-- the body holds all sections of the facts
pub record HoldsFacts (body : Body) (facts : Facts) : Type 0 where
  pub sections : List (List ℕ)
  pub holds : HoldsSections body sections
  pub counted : length sections ≡ section_count facts.kind
  pub say : SectionsSay sections facts

-- the body holds all sections of the facts, where a file can say them, and no more than a file has
pub record IsBodyOf (body : Body) (facts : Facts) : Type 0 where
  pub sections : List (List ℕ)
  pub holds : HoldsSections body sections
  pub few : length sections ≤ 24
  pub counted : IsSayable facts → length sections ≡ section_count facts.kind
  pub say : IsSayable facts → SectionsSay sections facts
