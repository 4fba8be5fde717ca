-- What a part file says.
use Rattle.std.specs.Prelude.{◌≡◌, ◌≢◌, ℕ, List, [], length, take, All, Some}
use Rattle.ts_front.specs.Dictionary.{DictionarySays}
use Rattle.ts_idmap.specs.IdMap.{MapSays}
use Rattle.ts_model.specs.declared.term.TermKind.{TermKind}
use Rattle.ts_model.specs.declared.term.TermKind.TheVariants.{Node, Predicate, Value}
use Rattle.ts_model.specs.TextTerm.{TextTerm}
use Rattle.ts_plane.specs.Plane.{PlaneSays}
use Rattle.ts_part.specs.declared.header.Header.{Header}
use Rattle.ts_part.specs.declared.header.PartKind.{PartKind}
use Rattle.ts_part.specs.declared.header.PartKind.TheVariants.{Layer, Rollup}
use Rattle.ts_part.specs.Facts.{Facts, spellings}
use Rattle.ts_part.specs.Header.{FitsHeader, header_bytes, header_of, section_count}
use Rattle.ts_part.specs.Layout.{AreSections, of_kind, plane_from}
use Rattle.ts_part.specs.Rules.{KeepsRules}

-- a rollup has a map of its terms and one of its predicates; a layer has none
abbrev pub MapsSay : PartKind → List (List ℕ) → Facts → Type 0
MapsSay Layer sections facts = (facts.term_map ≡ []) × (facts.predicate_map ≡ [])
MapsSay Rollup sections facts = MapSays (of_kind sections 23) facts.term_map × MapSays (of_kind sections 24) facts.predicate_map

-- sections 1 to 6 are dictionaries, 7 to 14 the plane of the additions, 15 to 22 that of the removals
pub record SectionsSay (sections : List (List ℕ)) (facts : Facts) : Type 0 where
  pub nodes : DictionarySays (of_kind sections 1) (of_kind sections 2) (spellings facts.nodes)
  pub predicates : DictionarySays (of_kind sections 3) (of_kind sections 4) (spellings facts.predicates)
  pub values : DictionarySays (of_kind sections 5) (of_kind sections 6) (spellings facts.values)
  pub additions : PlaneSays (plane_from sections 7) facts.additions
  pub removals : PlaneSays (plane_from sections 15) facts.removals
  pub maps : MapsSay facts.kind sections facts

abbrev pub AreOf : TermKind → List TextTerm → Type 0
AreOf kind terms = All (λ term. term.kind ≡ kind) terms

-- the lists have terms of their kinds, and no parent is `Some 0`
pub record HasKinds (facts : Facts) : Type 0 where
  pub nodes : AreOf Node facts.nodes
  pub predicates : AreOf Predicate facts.predicates
  pub values : AreOf Value facts.values
  pub parent : facts.parent ≢ Some 0

-- the file's header, table and sections are those of the facts
pub record PartSays (file : List ℕ) (facts : Facts) : Type 0 where
  pub kinds : HasKinds facts
  pub head : take 88 file ≡ header_bytes (header_of facts (length file))
  pub fits : FitsHeader (header_of facts (length file))
  pub sections : List (List ℕ)
  pub lie : AreSections file (section_count facts.kind) sections
  pub say : SectionsSay sections facts

-- the file says no other facts
abbrev pub PartSaysOnly : List ℕ → Facts → Type 0
PartSaysOnly file facts = (others : Facts) → PartSays file others → others ≡ facts

-- the file has this header, and says facts that keep all rules
pub record LocalForm (file : List ℕ) (h : Header) : Type 0 where
  pub facts : Facts
  pub says : PartSays file facts
  pub headed : header_of facts (length file) ≡ h
  pub rules : KeepsRules facts
