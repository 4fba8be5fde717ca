-- The place of a name in a rising list of names with their labels.
use Rattle.std.specs.Prelude.{◌≡◌, ℕ, ◌≤◌, List, length, slice_get, Some, Result, MatchResult}
use Rattle.std.specs.declared.cmp.Ordering.TheVariants.{Less, Greater}
use Rattle.std.specs.Ordering.{nat_cmp}
use Rattle.std.specs.Cmp.Lexicographic.{slice_cmp}
use Rattle.std.specs.List.Sorted.{IsPartitionPoint}
use Rattle.ts_labels.specs.declared.label.Label.{Label}

-- the entry at the place is that of the name
abbrev pub StandsAt : List ℕ → List (List ℕ × Label) → ℕ → Type 0
StandsAt name entries i = (label : Label) × (slice_get entries i ≡ Some (name, label))

-- the names before the place are less, and those from it on are greater
pub record BelongsAt (name : List ℕ) (entries : List (List ℕ × Label)) (i : ℕ) : Type 0 where
  pub within : i ≤ length entries
  pub between : IsPartitionPoint (λ entry. slice_cmp nat_cmp entry.0 name ≡ Less) (λ entry. slice_cmp nat_cmp entry.0 name ≡ Greater) entries i

abbrev pub IsPlaceOf : List ℕ → List (List ℕ × Label) → Result ℕ ℕ → Type 0
IsPlaceOf name entries result = MatchResult result (StandsAt name entries) (BelongsAt name entries)
