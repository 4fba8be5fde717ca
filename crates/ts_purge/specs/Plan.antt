-- What a purge takes away: each layer that neither a label nor the newest layer reaches, after its rollup, the greatest number first.
use Rattle.std.specs.Prelude.{ℕ, ◌==◌, Bool, not, if◌then◌else◌, List, [], ◌∷◌, ◌++◌, reverse, take, filter}
use Rattle.std.specs.List.{list_any, flat_map}
use Rattle.std.specs.FinMap.{keys}
use Rattle.ts_model.specs.History.{History, chain_of}
use Rattle.ts_purge.specs.declared.rows.DropKind.TheVariants.{Rollup, Layer}
use Rattle.ts_purge.specs.declared.rows.DropRow.{DropRow}

-- the number is one of the numbers
abbrev pub is_among : List ℕ → ℕ → Bool
is_among numbers k = list_any (λ n. n == k) numbers

-- the layers from which others are reached: the newest, and those that labels name
abbrev pub roots_of : History → List ℕ → List ℕ
roots_of history named = take 1 (reverse (keys history)) ++ named

-- the layer is in the chain of a root
abbrev pub is_kept : History → List ℕ → ℕ → Bool
is_kept history roots k = list_any (λ root. is_among (chain_of history root) k) roots

-- the layers that aren't kept, the greatest number first
abbrev pub unkept_of : History → List ℕ → List ℕ
unkept_of history roots = filter (λ k. not (is_kept history roots k)) (reverse (keys history))

-- a layer's own removals: its rollup, where it has one, and then the layer
abbrev pub drops_of : List ℕ → ℕ → List DropRow
drops_of rolled k =
    if is_among rolled k
    then record { kind = Rollup; number = k } ∷ record { kind = Layer; number = k } ∷ []
    else record { kind = Layer; number = k } ∷ []

-- all removals, one after another
abbrev pub plan_of : History → List ℕ → List ℕ → List DropRow
plan_of history rolled named = flat_map (drops_of rolled) (unkept_of history (roots_of history named))
