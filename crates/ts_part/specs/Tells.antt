-- A file whose sections are known to keep their rules, and the facts that it says.
use Rattle.std.specs.Prelude.{◌≡◌, ℕ, List, length}
use Rattle.ts_part.specs.declared.header.Header.{Header}
use Rattle.ts_part.specs.declared.sections.Sections.{Sections}
use Rattle.ts_part.specs.Facts.{Facts}
use Rattle.ts_part.specs.Header.{header_of, section_count}
use Rattle.ts_part.specs.Part.{PartSays}
use Rattle.ts_part.specs.Places.{ArePlaces}
use Rattle.ts_part.specs.Rules.{KeepsListRules}

pub record IsFileOf (file : List ℕ) (places : List (ℕ × ℕ)) (h : Header) (facts : Facts) : Type 0 where
  pub says : PartSays file facts
  pub headed : header_of facts (length file) ≡ h
  pub placed : ArePlaces file (section_count h.kind) places
  pub lists : KeepsListRules facts

abbrev pub Tells : Sections → Facts → Type 0
Tells s facts = IsFileOf s.file.now s.places.now s.header.now facts
