-- The header of a part file: 88 bytes, each number with its most significant byte first.
use Rattle.std.specs.Prelude.{◌≡◌, ℕ, ◌+◌, ◌^◌, ◌<◌, ◌≤◌, List, ◌∷◌, ◌++◌, length, take, codes, Option, None, Some, IfSome}
use Rattle.std.specs.Int.{w16, w32, w64, to_be_bytes}
use Rattle.ts_model.specs.Limits.{number_limit}
use Rattle.ts_part.specs.declared.header.Header.{Header}
use Rattle.ts_part.specs.declared.header.PartKind.{PartKind}
use Rattle.ts_part.specs.declared.header.PartKind.TheVariants.{Layer, Rollup}
use Rattle.ts_part.specs.Facts.{Facts}

abbrev pub kind_number : PartKind → ℕ
kind_number Layer = 1
kind_number Rollup = 2

-- how many sections a file has
abbrev pub section_count : PartKind → ℕ
section_count Layer = 22
section_count Rollup = 24

-- 0 stands for no parent
abbrev pub parent_number : Option ℕ → ℕ
parent_number None = 0
parent_number (Some parent) = parent

-- `TSPART`, version 1, the kind, order rule 1, the number of sections, and the fields
unfoldable pub header_bytes : Header → List ℕ
header_bytes h =
    codes "TSPART" ++ to_be_bytes w16 1 ++ kind_number h.kind ∷ 1 ∷ to_be_bytes w16 (section_count h.kind)
    ++ to_be_bytes w32 h.number ++ to_be_bytes w32 (parent_number h.parent) ++ to_be_bytes w32 0
    ++ to_be_bytes w64 h.terms_before ++ to_be_bytes w64 h.predicates_before
    ++ to_be_bytes w64 h.nodes ++ to_be_bytes w64 h.values ++ to_be_bytes w64 h.predicates
    ++ to_be_bytes w64 h.additions ++ to_be_bytes w64 h.removals ++ to_be_bytes w64 h.length

-- the parent comes before the layer; without a parent nothing comes before, and nothing goes
pub record IsPlaced (h : Header) : Type 0 where
  pub parent : IfSome h.parent (λ parent. (1 ≤ parent) × (parent < h.number))
  pub base : h.parent ≡ None → (h.terms_before ≡ 0) × (h.predicates_before ≡ 0) × (h.removals ≡ 0)

-- what a header keeps
pub record KeepsHeaderRules (h : Header) : Type 0 where
  pub number : 1 ≤ h.number
  pub placed : IsPlaced h
  pub terms : h.terms_before + h.nodes + h.values < number_limit
  pub predicates : h.predicates_before + h.predicates < number_limit

-- the numbers fit their fields
pub record FitsHeader (h : Header) : Type 0 where
  pub number : h.number < 2 ^ 32
  pub parent : parent_number h.parent < 2 ^ 32
  pub terms_before : h.terms_before < 2 ^ 64
  pub predicates_before : h.predicates_before < 2 ^ 64
  pub nodes : h.nodes < 2 ^ 64
  pub values : h.values < 2 ^ 64
  pub predicates : h.predicates < 2 ^ 64
  pub additions : h.additions < 2 ^ 64
  pub removals : h.removals < 2 ^ 64
  pub length : h.length < 2 ^ 64

-- the bytes are those of a header that keeps its rules
pub record HeaderSays (bytes : List ℕ) (h : Header) : Type 0 where
  pub spelled : bytes ≡ header_bytes h
  pub fits : FitsHeader h
  pub rules : KeepsHeaderRules h

-- a file begins with this header, which has the file's length
pub record HasHeader (file : List ℕ) (h : Header) : Type 0 where
  pub says : HeaderSays (take 88 file) h
  pub long : h.length ≡ length file

-- the header of a file of so many bytes that says these facts
abbrev pub header_of : Facts → ℕ → Header
header_of facts size = record {
  kind = facts.kind;
  number = facts.number;
  parent = facts.parent;
  terms_before = facts.terms_before;
  predicates_before = facts.predicates_before;
  nodes = length facts.nodes;
  values = length facts.values;
  predicates = length facts.predicates;
  additions = length facts.additions;
  removals = length facts.removals;
  length = size;
}
