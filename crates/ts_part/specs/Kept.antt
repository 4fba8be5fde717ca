-- What a loaded part keeps.
use Rattle.std.specs.Prelude.{◌≡◌, ℕ, List, length}
use Rattle.ts_part.specs.declared.header.Header.{Header}
use Rattle.ts_part.specs.Header.{header_of, section_count}
use Rattle.ts_part.specs.Loaded.{LoadedPart, IsLoaded}
use Rattle.ts_part.specs.Places.{ArePlaces}
use Rattle.ts_part.specs.Read.{facts_in}

abbrev pub loaded : List ℕ → LoadedPart
loaded file = record { file = file; facts = facts_in file }

pub record Keeps (file : List ℕ) (places : List (ℕ × ℕ)) (h : Header) : Type 0 where
  pub is : IsLoaded (loaded file)
  pub headed : header_of (facts_in file) (length file) ≡ h
  pub placed : ArePlaces file (section_count h.kind) places
