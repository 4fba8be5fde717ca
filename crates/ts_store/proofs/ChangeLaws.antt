-- What a change of one file leaves of the folder.
use Rattle.std.proofs.Common.{◌≡◌, ◌≢◌, ◌⊎◌, ℕ, List, Option, None, IfErr, Result, Ok, Err, inl, inr, sym, ap, ◌∙◌, subst}
use Rattle.std.specs.Prelude.{MatchOption}
use Rattle.std.specs.Option.{is_some}
use Rattle.std.specs.FinMap.{get}
use Rattle.ts_replace.specs.Names.{layer_name, rollup_name, label_file_name}
use Rattle.ts_replace.specs.Replaced.{new_tmp, replaced}
use Rattle.ts_site.specs.Folder.{Folder, IsAnyAt}
use Rattle.ts_site.proofs.FolderLemmas.{get-insert_other, get-remove_other}
use Rattle.ts_store.specs.declared.stop.Stop.{Stop}
use Rattle.ts_store.specs.declared.stop.Stop.TheVariants.{DiskFault, OutputFault}
use Rattle.ts_store.specs.declared.stop.Kind.{Kind}
use Rattle.ts_store.specs.FolderSays.{FolderSays, IsFileOf, IsLabelFileOf}
use Rattle.ts_store.specs.Leaves.{Follows, LeavesFolder, LeavesState}
use Rattle.ts_store.specs.Publishes.{LeavesReplaced}
use Rattle.ts_store.specs.State.{State}
use Rattle.ts_store.specs.Stops.{IsStepStop}
use Rattle.ts_store.proofs.NameLaws.{layer_is_not_new, rollup_is_not_new, label_is_not_new}

-- the temporary file says nothing
says_any : (old new : Folder) (state : State) → IsAnyAt new_tmp old new → FolderSays old state → FolderSays new state
says_any old new state any says = record {
  kept = says.kept;
  named = says.named;
  layers = λ k is. subst (λ (file : Option (List ℕ)). MatchOption file (get state.history k ≡ None) (IsFileOf state.history k)) (sym (same (layer_name k) (layer_is_not_new k) any)) (says.layers k is);
  rollups = λ k is. ap is_some (same (rollup_name k) (rollup_is_not_new k) any) ∙ says.rollups k is;
  labels = λ name is.
      subst (λ (file : Option (List ℕ)). MatchOption file (get state.labels name ≡ None) (IsLabelFileOf state.labels name)) (sym (same (label_file_name name) (label_is_not_new name) any)) (says.labels name is);
}
  where
    same : (name : List ℕ) → name ≢ new_tmp → IsAnyAt new_tmp old new → get new name ≡ get old name
    same name other (inl removed) = ap (λ f. get f name) removed ∙ get-remove_other old new_tmp name other
    same name other (inr (bytes, put)) = ap (λ f. get f name) put ∙ get-insert_other old new_tmp bytes name other

abbrev pub IsChangeStop : Stop → Type 0
IsChangeStop stop = (stop ≡ DiskFault) ⊎ (stop ≡ OutputFault)

pub stop_after : (result : Result Kind Stop) → IfErr result IsChangeStop → IfErr result IsStepStop
stop_after (Ok kind) why = tt
stop_after (Err stop) (inl disk) = subst IsStepStop (sym disk) tt
stop_after (Err stop) (inr output) = subst IsStepStop (sym output) tt

module _ (before after : State) (name file : List ℕ) (old new : Folder) where
  abbrev pub Put : Type 0
  Put = new ≡ replaced old name file

  abbrev Left : Result Kind Stop → Type 0
  Left result = LeavesReplaced result name file old new

  module _ (follows : Put → Follows before after old new) where
    at_fault : Left (Err DiskFault) → LeavesFolder (Err DiskFault) before after old new
    at_fault (inl any) = inl any
    at_fault (inr put) = inr (follows put)

    pub folder_after : (result : Result Kind Stop) → IfErr result IsChangeStop → Left result → LeavesFolder result before after old new
    folder_after (Ok kind) why left = follows left
    folder_after (Err stop) (inl disk) left = subst (λ (stop : Stop). Left (Err stop) → LeavesFolder (Err stop) before after old new) (sym disk) at_fault left
    folder_after (Err stop) (inr output) left = subst (λ (stop : Stop). Left (Err stop) → LeavesFolder (Err stop) before after old new) (sym output) follows left

  module _ (says : FolderSays old before) (says_put : Put → FolderSays new after) where
    says_at_fault : Left (Err DiskFault) → LeavesState (FolderSays new) (Err DiskFault) before after
    says_at_fault (inl any) = inl (says_any old new before any says)
    says_at_fault (inr put) = inr (says_put put)

    pub says_after : (result : Result Kind Stop) → IfErr result IsChangeStop → Left result → LeavesState (FolderSays new) result before after
    says_after (Ok kind) why left = says_put left
    says_after (Err stop) (inl disk) left = subst (λ (stop : Stop). Left (Err stop) → LeavesState (FolderSays new) (Err stop) before after) (sym disk) says_at_fault left
    says_after (Err stop) (inr output) left = subst (λ (stop : Stop). Left (Err stop) → LeavesState (FolderSays new) (Err stop) before after) (sym output) says_put left
