-- The rules of a file's sections: each speaks of its section, the header, and the sections before it.
use Rattle.std.specs.Prelude.{◌≡◌, ℕ, ◌+◌, ◌-◌, ◌<◌, ◌≤◌, List, length, All}
use Rattle.ts_front.specs.Dictionary.{DictionarySays}
use Rattle.ts_idmap.specs.IdMap.{MapSays}
use Rattle.ts_log.specs.LogArray.{LogSays}
use Rattle.ts_model.specs.declared.term.TermKind.{TermKind}
use Rattle.ts_model.specs.declared.term.TermKind.TheVariants.{Node, Predicate, Value}
use Rattle.ts_model.specs.TextTerm.{IsTerm}
use Rattle.ts_plane.specs.Parts.{PlaneParts}
use Rattle.ts_plane.specs.Rules.{KeepsBefore}
use Rattle.ts_part.specs.declared.header.Header.{Header}
use Rattle.ts_part.specs.Header.{section_count}
use Rattle.ts_part.specs.Layout.{of_kind, plane_from}

-- what sections are read as
pub record Reading : Type 0 where
  pub nodes : List (List ℕ)
  pub predicates : List (List ℕ)
  pub values : List (List ℕ)
  pub additions : PlaneParts
  pub removals : PlaneParts
  pub term_map : List ℕ
  pub predicate_map : List ℕ

-- the section is a log array
abbrev pub StartsRule : List ℕ → Type 0
StartsRule starts = (numbers : List ℕ) × LogSays starts numbers

-- with the starts it is a dictionary of so many entries, each a term of the kind
pub record BytesRule (kind : TermKind) (count : ℕ) (starts bytes : List ℕ) (texts : List (List ℕ)) : Type 0 where
  pub says : DictionarySays starts bytes texts
  pub counted : length texts ≡ count
  pub terms : All (λ text. IsTerm (record { kind = kind; spelling = text })) texts

-- the first so many of the eight sections of a plane of `count` triples: its ends of triples say how many there are
pub record PlaneRule (terms predicates count : ℕ) (sections : List (List ℕ)) (parts : PlaneParts) (first : ℕ) : Type 0 where
  pub keep : KeepsBefore sections terms predicates parts first
  pub counted : 3 < first → length parts.object_ends ≡ count

-- it is the map of so many entries
pub record MapRule (count : ℕ) (bytes outer : List ℕ) : Type 0 where
  pub says : MapSays bytes outer
  pub counted : length outer ≡ count

-- the sections of the kinds from 1 to `last` keep their rules
pub record KeepUpTo (h : Header) (sections : List (List ℕ)) (read : Reading) (last : ℕ) : Type 0 where
  pub node_starts : 1 ≤ last → StartsRule (of_kind sections 1)
  pub node_bytes : 2 ≤ last → BytesRule Node h.nodes (of_kind sections 1) (of_kind sections 2) read.nodes
  pub predicate_starts : 3 ≤ last → StartsRule (of_kind sections 3)
  pub predicate_bytes : 4 ≤ last → BytesRule Predicate h.predicates (of_kind sections 3) (of_kind sections 4) read.predicates
  pub value_starts : 5 ≤ last → StartsRule (of_kind sections 5)
  pub value_bytes : 6 ≤ last → BytesRule Value h.values (of_kind sections 5) (of_kind sections 6) read.values
  pub additions : PlaneRule (h.terms_before + h.nodes + h.values) (h.predicates_before + h.predicates) h.additions
      (plane_from sections 7) read.additions (last - 6)
  pub removals : PlaneRule h.terms_before h.predicates_before h.removals (plane_from sections 15) read.removals (last - 14)
  pub term_map : 23 ≤ last → MapRule (h.nodes + h.values) (of_kind sections 23) read.term_map
  pub predicate_map : 24 ≤ last → MapRule h.predicates (of_kind sections 24) read.predicate_map

-- the least kind whose rule fails
pub record IsFirstFault (h : Header) (sections : List (List ℕ)) (kind : ℕ) : Type 0 where
  pub some : 1 ≤ kind
  pub there : kind ≤ section_count h.kind
  pub read : Reading
  pub before : KeepUpTo h sections read (kind - 1)
  pub fault : (others : Reading) → ¬ KeepUpTo h sections others kind
