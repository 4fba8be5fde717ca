-- The parts of a chain by name, and the files that the chain of a layer is read from.
use Rattle.std.specs.Prelude.{◌≡◌, ℕ, List, map, All, Option, Some}
use Rattle.ts_model.specs.History.{History}
use Rattle.ts_part.specs.declared.header.PartKind.{PartKind}
use Rattle.ts_part.specs.declared.header.PartKind.TheVariants.{Layer, Rollup}
use Rattle.ts_part.specs.Descent.{AreParents, AreRolled}
use Rattle.ts_part.specs.Facts.{Facts}
use Rattle.ts_part.specs.Loaded.{LoadedPart, IsLoaded}
use Rattle.ts_part.specs.PartNames as names
use Rattle.ts_part.specs.PartNames.{Parents, parts_of}
use Rattle.ts_part.specs.Step.{LayerSays, RollupSays}
use Rattle.ts_chain.specs.declared.parts.PartName.{PartName}

abbrev pub name_of : Facts → PartName
name_of part = record { kind = part.kind; number = part.number; parent = part.parent }

-- a chain's name of a part as one of the parts that a layer is read from
abbrev pub as_name : PartName → names.PartName
as_name part = record { kind = part.kind; number = part.number; parent = part.parent }

-- the same as a name of the parts that a layer is read from
abbrev pub named_by : Facts → names.PartName
named_by part = record { kind = part.kind; number = part.number; parent = part.parent }

-- a layer's file says the layer, and a rollup's the rollup
abbrev pub SaysOf : PartKind → List ℕ → History → Option ℕ → ℕ → Type 0
SaysOf Layer file history parent k = LayerSays file history k
SaysOf Rollup file history parent k = RollupSays file history parent k

-- the part is loaded from the file of its name
pub record IsFromFile (history : History) (part : LoadedPart) : Type 0 where
  pub loaded : IsLoaded part
  pub says : SaysOf part.facts.kind part.file history part.facts.parent part.facts.number

-- the parts that a layer is read from where these rollups stand, loaded from their files
pub record AreReadFrom (history : History) (parents rolled : Parents) (k : ℕ) (parts : List LoadedPart) : Type 0 where
  pub told : AreParents history parents
  pub rolled_up : AreRolled history rolled
  pub named : map (λ part. named_by part.facts) parts ≡ parts_of parents rolled (Some k)
  pub files : All (IsFromFile history) parts
