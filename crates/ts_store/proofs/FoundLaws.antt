-- What the names and the files of a folder tell of it.
use Rattle.std.proofs.Common.{◌≡◌, ℕ, zero, suc, ◌<◌, true, false, List, [], ◌∷◌, length, All, None, Bool, refl, sym, ap, subst, inl, inr, arith}
use Rattle.std.specs.Prelude.{Contains, MatchOption}
use Rattle.std.specs.FinMap.{contains_key, get}
use Rattle.std.proofs.lemmas.Map.Keys.{below_from_sorted, sorted_from_strictly_increasing}
use Rattle.ts_plain.specs.declared.write.PlainLayer.{PlainLayer}
use Rattle.ts_plain.specs.History.{AreHistory, history_of}
use Rattle.ts_plain.proofs.PlaceLaws.{numbers}
use Rattle.ts_replace.specs.Names.{IsLayerNumber, layer_name, rollup_name}
use Rattle.ts_replace.specs.Scanned.{AreThoseOf, Rise}
use Rattle.ts_site.specs.Folder.{Folder}
use Rattle.ts_store.specs.declared.stop.Stop.{Stop}
use Rattle.ts_store.specs.declared.stop.Stop.TheVariants.{Damaged}
use Rattle.ts_store.specs.FolderSays.{AreSoundLayers, IsFileOf, IsFirstDamaged}
use Rattle.ts_store.specs.Opened.{AreLayersRead, IsFirstOf, IsReadFrom, IsRollupStop}
use Rattle.ts_store.proofs.OneHistory.{undamaged}
use Rattle.ts_store.proofs.OpenLaws.{tells_at}

none_in : {A : Type 0} (xs : List A) (x : A) → xs ≡ [] → Contains xs x → ⊥
none_in xs x none (i, lt, is) = omega (arith, lt, ap length none)

absent : (b : Bool) → (b ≡ true → ⊥) → b ≡ false
absent false h = refl
absent true h = absurd (h refl)

module _ (folder : Folder) (all rollups : List ℕ) (labels : List (List ℕ)) (those : AreThoseOf folder all rollups labels) where
  -- the first damaged one of the layers that were found
  pub first_layer : (name : List ℕ) → IsFirstOf folder all name → IsFirstDamaged folder name
  first_layer name first = inl (first.first those.each_layer)

  module _ (layers : List PlainLayer) (history : AreHistory layers) (is : numbers layers ≡ all) (read : All (IsReadFrom folder) layers) where
    told : (k : ℕ) → IsLayerNumber k → MatchOption (get folder (layer_name k)) (get (history_of layers) k ≡ None) (IsFileOf (history_of layers) k)
    told k number = tells_at folder layers history read k (λ stands. subst (λ (ns : List ℕ). Contains ns k) (sym is) ((those.each_layer k).1 (number, stands)))

    pub sound : AreSoundLayers folder
    sound = undamaged folder (history_of layers) history.well_kept told

    -- the folder's layers are read
    pub layers_read : rollups ≡ [] → AreLayersRead folder (history_of layers) labels
    layers_read none = record {
      kept = history.well_kept;
      layers = told;
      rollups = λ k number. absent (contains_key folder (rollup_name k)) (λ stands. none_in rollups k none ((those.each_rollup k).1 (number, stands)));
      labels = those.each_label;
    }

-- ---- rollups

rollup_stop : (folder : Folder) (all rollups : List ℕ) (labels : List (List ℕ)) (name : List ℕ) → AreThoseOf folder all rollups labels → Rise all rollups labels → AreSoundLayers folder
    → IsRollupStop rollups (Damaged name) → IsFirstDamaged folder name
rollup_stop folder all (k ∷ rollups) labels name those rise sounds is =
    inr (inl (k, record { sound = sounds; stands = (those.each_rollup k).0 (0, omega arith, refl); first = λ j less has. before j less ((those.each_rollup j).1 has) }, is))
  where
    before : (j : ℕ) → j < k → Contains (k ∷ rollups) j → ⊥
    before j less (zero, lt, at) = omega arith
    before j less (suc i, lt, at) = let above = below_from_sorted (k ∷ rollups) 0 (suc i) j (sorted_from_strictly_increasing (k ∷ rollups) rise.rollups_rise) (omega arith) lt in omega arith
rollup_stop folder all [] labels name those rise sounds is = absurd is

pub rollup_fault : (folder : Folder) (all rollups : List ℕ) (labels : List (List ℕ)) (stop : Stop) → AreThoseOf folder all rollups labels → Rise all rollups labels → AreSoundLayers folder
    → IsRollupStop rollups stop → (name : List ℕ) → stop ≡ Damaged name → IsFirstDamaged folder name
rollup_fault folder all rollups labels stop those rise sounds is name e = rollup_stop folder all rollups labels name those rise sounds (subst (IsRollupStop rollups) e is)
