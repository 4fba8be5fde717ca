-- Why a file is refused: the first of its faults, in the order header, table, sections, facts.
use Rattle.std.specs.Prelude.{◌≡◌, ℕ, List, length}
use Rattle.ts_part.specs.declared.damage.Damage.{Damage}
use Rattle.ts_part.specs.declared.damage.Damage.TheVariants as faults
use Rattle.ts_part.specs.declared.header.Header.{Header}
use Rattle.ts_part.specs.Facts.{Facts}
use Rattle.ts_part.specs.Header.{HasHeader, header_of, section_count}
use Rattle.ts_part.specs.Layout.{AreSections}
use Rattle.ts_part.specs.Part.{PartSays}
use Rattle.ts_part.specs.Rules.{KeepsListRules, KeepsFactRules}
use Rattle.ts_part.specs.Sections.{IsFirstFault}

-- the table is at fault: the file has no sections that lie as it says
pub record IsTableFault (file : List ℕ) (h : Header) : Type 0 where
  pub headed : HasHeader file h
  pub fault : (sections : List (List ℕ)) → ¬ AreSections file (section_count h.kind) sections

-- the section of this kind is the first at fault
pub record IsSectionFault (file : List ℕ) (h : Header) (kind : ℕ) : Type 0 where
  pub headed : HasHeader file h
  pub sections : List (List ℕ)
  pub lie : AreSections file (section_count h.kind) sections
  pub first : IsFirstFault h sections kind

-- all sections keep their rules, and what they say together doesn't
pub record IsFactsFault (file : List ℕ) (h : Header) : Type 0 where
  pub facts : Facts
  pub says : PartSays file facts
  pub headed : header_of facts (length file) ≡ h
  pub lists : KeepsListRules facts
  pub fault : ¬ KeepsFactRules facts

abbrev pub IsDamagedBy : List ℕ → Header → Damage → Type 0
IsDamagedBy file h faults.Header = ¬ HasHeader file h
IsDamagedBy file h faults.Table = IsTableFault file h
IsDamagedBy file h (faults.Section kind) = IsSectionFault file h kind
IsDamagedBy file h faults.Facts = IsFactsFault file h
