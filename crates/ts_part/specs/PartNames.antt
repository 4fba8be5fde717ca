-- The parts that a layer's chain is read from: its rollup where one stands, and else its own file.
use Rattle.std.specs.Prelude.{ℕ, zero, suc, List, [], ◌∷◌, Option, None, Some}
use Rattle.std.specs.Ordering.{nat_cmp}
use Rattle.std.specs.FinMap.{FinMap, get}
use Rattle.ts_part.specs.declared.header.PartKind.{PartKind}
use Rattle.ts_part.specs.declared.header.PartKind.TheVariants.{Layer, Rollup}

-- a part by its kind, its layer, and the layer that it goes down to
pub record PartName : Type 0 where
  pub kind : PartKind
  pub number : ℕ
  pub parent : Option ℕ

-- of a layer its parent, and of a layer that is rolled up, the layer up to which: a layer that isn't there has neither
abbrev pub Parents : Type 0
Parents = FinMap nat_cmp (Option ℕ)

abbrev pub part_of : Option (Option ℕ) → Option (Option ℕ) → ℕ → PartName
part_of parent (Some upto) k = record { kind = Rollup; number = k; parent = upto }
part_of (Some parent) None k = record { kind = Layer; number = k; parent = parent }
part_of None None k = record { kind = Layer; number = k; parent = None }

-- at most so many parts, by what tells the parent of a layer, and what tells the layer up to which it is rolled up
abbrev pub parts_within : ℕ → (ℕ → Option (Option ℕ)) → (ℕ → Option (Option ℕ)) → Option ℕ → List PartName
parts_within most parent upto None = []
parts_within zero parent upto (Some k) = []
parts_within (suc most) parent upto (Some k) =
    let part = part_of (parent k) (upto k) k in part ∷ parts_within most parent upto part.parent

-- The parts of a layer, newest first. Each goes down to a lesser layer and none is 0, so layer k has at most k parts.
abbrev pub parts_of : Parents → Parents → Option ℕ → List PartName
parts_of parents rolled None = []
parts_of parents rolled (Some k) = parts_within k (get parents) (get rolled) (Some k)
