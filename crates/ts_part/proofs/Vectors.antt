-- Headers, rows and chains of parts that were worked out by hand.
use Rattle.std.proofs.Common.{◌≡◌, ℕ, [], ◌∷◌, ◌++◌, replicate, zero, suc, nat_eq, if◌then◌else◌, refl, Option, None, Some}
use Rattle.ts_part.specs.declared.header.Header.{Header}
use Rattle.ts_part.specs.declared.header.PartKind.TheVariants.{Layer, Rollup}
use Rattle.ts_part.specs.Header.{header_bytes}
use Rattle.ts_part.specs.Layout.{row, rows_from}
use Rattle.ts_part.specs.PartNames.{parts_within}

-- of a first layer with two nodes, a predicate and one triple, in 1056 bytes
first_header : Header
first_header = record {
  kind = Layer;
  number = 1;
  parent = None;
  terms_before = 0;
  predicates_before = 0;
  nodes = 2;
  values = 0;
  predicates = 1;
  additions = 1;
  removals = 0;
  length = 1056;
}

header_of_first_layer : header_bytes first_header ≡
    0x54 ∷ 0x53 ∷ 0x50 ∷ 0x41 ∷ 0x52 ∷ 0x54 ∷ 0 ∷ 1 ∷ 1 ∷ 1 ∷ 0 ∷ 0x16 ∷ 0 ∷ 0 ∷ 0 ∷ 1 ∷ replicate 31 0
    ++ 2 ∷ replicate 15 0 ++ 1 ∷ replicate 7 0 ++ 1 ∷ replicate 14 0 ++ 4 ∷ 0x20 ∷ []
unfolding header_bytes first_header
header_of_first_layer = refl

-- its fourth row: 12 bytes at 680
fourth_row : row 4 680 12 ≡ 0 ∷ 0 ∷ 0 ∷ 4 ∷ replicate 10 0 ++ 2 ∷ 0xA8 ∷ replicate 7 0 ++ 12 ∷ []
unfolding row
fourth_row = refl

-- the row after it: its section starts behind four zeros
rows_after : rows_from 4 680 (replicate 12 7 ∷ replicate 16 7 ∷ []) ≡ row 4 680 12 ++ row 5 696 16
unfolding rows_from row
rows_after = refl

-- five layers in a row
parent : ℕ → Option (Option ℕ)
parent k = elim k [ zero ↦ None | suc below ↦ (if nat_eq below 0 then Some None else Some (Some below)) ]

-- the fourth is rolled up down to the second
upto : ℕ → Option (Option ℕ)
upto k = if nat_eq k 4 then Some (Some 2) else None

parts_of_fifth_layer : parts_within 5 parent upto (Some 5) ≡
    record { kind = Layer; number = 5; parent = Some 4 } ∷ record { kind = Rollup; number = 4; parent = Some 2 }
    ∷ record { kind = Layer; number = 2; parent = Some 1 } ∷ record { kind = Layer; number = 1; parent = None } ∷ []
unfolding parent upto
parts_of_fifth_layer = refl
