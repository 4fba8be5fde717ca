-- A part that is loaded.
use Rattle.std.specs.Prelude.{ℕ, List, length}
use Rattle.ts_part.specs.declared.header.Header.{Header}
use Rattle.ts_part.specs.Facts.{Facts}
use Rattle.ts_part.specs.Header.{header_of}
use Rattle.ts_part.specs.Part.{PartSays}
use Rattle.ts_part.specs.Rules.{KeepsRules}

-- its file, and the facts that it says
pub record LoadedPart : Type 0 where
  pub file : List ℕ
  pub facts : Facts

abbrev pub part_header : LoadedPart → Header
part_header part = header_of part.facts (length part.file)

-- the file says these facts, which keep all rules
pub record IsLoaded (part : LoadedPart) : Type 0 where
  pub says : PartSays part.file part.facts
  pub rules : KeepsRules part.facts
