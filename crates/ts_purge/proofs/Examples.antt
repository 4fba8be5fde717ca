-- Layer 1 has a label, 2 a rollup, 3 is a child of 1, and 4 is the newest: 3 goes, then the rollup of 2, then 2.
use Rattle.std.proofs.Common.{◌≡◌, ℕ, ◌||◌, false, not, List, [], ◌∷◌, ◌++◌, take, reverse, filter, ap, ◌∙◌}
use Rattle.std.specs.List.{flat_map}
use Rattle.std.specs.FinMap.{keys}
use Rattle.ts_model.specs.History.{History, chain_of}
use Rattle.ts_purge.specs.declared.rows.DropKind.TheVariants.{Rollup, Layer}
use Rattle.ts_purge.specs.Plan.{drops_of, is_among, is_kept, plan_of}

-- the numbers of these layers that no two chains have, the last first
abbrev left : List ℕ → List ℕ → List ℕ
left one other = filter (λ k. not (is_among one k || (is_among other k || false))) (4 ∷ 3 ∷ 2 ∷ 1 ∷ [])

plan_of_four : (history : History) → keys history ≡ 1 ∷ 2 ∷ 3 ∷ 4 ∷ [] → chain_of history 1 ≡ 1 ∷ [] → chain_of history 4 ≡ 4 ∷ []
    → plan_of history (2 ∷ []) (1 ∷ []) ≡ record { kind = Layer; number = 3 } ∷ record { kind = Rollup; number = 2 } ∷ record { kind = Layer; number = 2 } ∷ []
plan_of_four history layers first last =
    ap (λ ks. flat_map (drops_of (2 ∷ [])) (filter (λ k. not (is_kept history (take 1 (reverse ks) ++ 1 ∷ []) k)) (reverse ks))) layers
    ∙ ap (λ chain. flat_map (drops_of (2 ∷ [])) (left chain (chain_of history 1))) last
    ∙ ap (λ chain. flat_map (drops_of (2 ∷ [])) (left (4 ∷ []) chain)) first
