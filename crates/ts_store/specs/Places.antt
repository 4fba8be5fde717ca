-- A list of cursors by their names.
use Rattle.std.specs.Prelude.{◌≡◌, ℕ, List, [], ◌∷◌, None}
use Rattle.std.specs.Ordering.{nat_cmp}
use Rattle.std.specs.Cmp.Lexicographic.{slice_cmp}
use Rattle.std.specs.FinMap.{find}
use Rattle.ts_model.specs.TextTriple.{TextTriple}

-- no two have one name
abbrev pub AreApart : List (List ℕ × List TextTriple) → Type 0
AreApart [] = Unit {0}
AreApart (cursor ∷ cursors) = (find (slice_cmp nat_cmp) cursor.0 cursors ≡ None) × AreApart cursors
