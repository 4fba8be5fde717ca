-- The labels of a store.
use Rattle.std.specs.Prelude.{ℕ}
use Rattle.std.specs.Ordering.{nat_cmp}
use Rattle.std.specs.Cmp.Lexicographic.{slice_cmp}
use Rattle.std.specs.FinMap.{FinMap}
use Rattle.ts_labels.specs.declared.label.Label.{Label}

-- each label under the bytes of its name
abbrev pub Labels : Type 0
Labels = FinMap (slice_cmp nat_cmp) Label

-- labels, and for how many more names there is room
pub record Table : Type 0 where
  pub labels : Labels
  pub spare : ℕ
