-- Four layers, of which the third is a child of the first, are rows of a store.
use Rattle.std.proofs.Common.{ℕ, zero, suc, ◌<◌, ◌≤◌, List, [], ◌∷◌, Option, None, Some, refl, arith}
use Rattle.std.specs.Prelude.{All, IfSome}
use Rattle.std.specs.List.Sorted.{IsStrictlyIncreasing}
use Rattle.ts_purge.specs.declared.rows.LayerRow.{LayerRow}
use Rattle.ts_purge.specs.Rows.{AreRows, StandsAmong}

abbrev row : ℕ → Option ℕ → LayerRow
row number parent = record { number = number; parent = parent }

abbrev pub four : List LayerRow
four = row 1 None ∷ row 2 None ∷ row 3 (Some 1) ∷ row 4 None ∷ []

rise : IsStrictlyIncreasing (1 ∷ 2 ∷ 3 ∷ 4 ∷ [])
rise zero h = omega arith
rise (suc zero) h = omega arith
rise (suc (suc zero)) h = omega arith
rise (suc (suc (suc k))) h = absurd (omega arith)

pub first_stands : StandsAmong four 1
first_stands = (0, omega arith, refl)

pub third_stands : StandsAmong four 3
third_stands = (2, omega arith, refl)

numbered : All (λ row. 1 ≤ row.number) four
numbered zero d h = omega arith
numbered (suc zero) d h = omega arith
numbered (suc (suc zero)) d h = omega arith
numbered (suc (suc (suc zero))) d h = omega arith
numbered (suc (suc (suc (suc k)))) d h = absurd (omega arith)

parents : All (λ row. IfSome row.parent (λ parent. (parent < row.number) × StandsAmong four parent)) four
parents zero d h = tt
parents (suc zero) d h = tt
parents (suc (suc zero)) d h = (omega arith, first_stands)
parents (suc (suc (suc zero))) d h = tt
parents (suc (suc (suc (suc k)))) d h = absurd (omega arith)

pub are_rows : AreRows four
are_rows = record { rise = rise; numbered = numbered; parents = parents }

pub named : (k : ℕ) → StandsAmong four k → All (StandsAmong four) (k ∷ [])
named k stands zero d h = stands
named k stands (suc i) d h = absurd (omega arith)
