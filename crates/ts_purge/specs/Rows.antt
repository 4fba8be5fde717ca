-- The layers of a history as rows, a number and a parent each.
use Rattle.std.specs.Prelude.{◌≡◌, ℕ, ◌<◌, ◌≤◌, List, map, All, Contains, IfSome}
use Rattle.std.specs.List.Sorted.{IsStrictlyIncreasing}
use Rattle.std.specs.FinMap.{keys}
use Rattle.ts_model.specs.History.{History, parent_at}
use Rattle.ts_purge.specs.declared.rows.LayerRow.{LayerRow}

-- the numbers of the rows
abbrev pub numbers_of : List LayerRow → List ℕ
numbers_of rows = map (λ row. row.number) rows

-- a row has the number
abbrev pub StandsAmong : List LayerRow → ℕ → Type 0
StandsAmong rows number = Contains (numbers_of rows) number

-- each number is from 1 on and below the next, and each parent has a row and is less than its child
pub record AreRows (rows : List LayerRow) : Type 0 where
  pub rise : IsStrictlyIncreasing (numbers_of rows)
  pub numbered : All (λ row. 1 ≤ row.number) rows
  pub parents : All (λ row. IfSome row.parent (λ parent. (parent < row.number) × StandsAmong rows parent)) rows

-- the rows are those of the history's layers
pub record AreRowsOf (history : History) (rows : List LayerRow) : Type 0 where
  pub numbers : keys history ≡ numbers_of rows
  pub parents : All (λ row. parent_at history row.number ≡ row.parent) rows
