-- What a folder tells it tells once: its history, which is well kept, and its labels, or the first of its files at fault.
use Rattle.std.proofs.Common.{◌≡◌, ℕ, ◌<◌, cond, Bool, true, false, List, Option, Some, None, IsTrue, IfSome, refl, sym, ap, ◌∙◌, subst, inl, inr, arith, true≢false}
use Rattle.std.specs.Prelude.{MatchOption}
use Rattle.std.specs.declared.cmp.Ordering.TheVariants.{Less, Equal, Greater}
use Rattle.std.specs.Ordering.{nat_cmp, eq_by_cmp, is_eq, ordering_reverse}
use Rattle.std.specs.Cmp.{nat_cmp_total, Equal-is, tied_itself}
use Rattle.std.specs.Cmp.Lexicographic.{slice_cmp, nat_list_cmp_total}
use Rattle.std.specs.FinMap.{get, insert, contains_key, get-insert, same_map, nat_cmp-IsAntisymmetric, slice_cmp-IsAntisymmetric}
use Rattle.std.proofs.lemmas.Bool.{cases_lt}
use Rattle.ts_labels.specs.declared.label.Label.{Label}
use Rattle.ts_model.specs.History.{History, LayerRecord, IsWellKept, IsLayerKept}
use Rattle.ts_model.specs.Names.{IsLabelName}
use Rattle.ts_model.specs.Sets.{members, from_list}
use Rattle.ts_model.proofs.TripleSets.{from_list-members}
use Rattle.ts_plain.proofs.OneLayer.{same_layer}
use Rattle.ts_replace.specs.Names.{IsLayerNumber, layer_name, rollup_name, label_file_name}
use Rattle.ts_site.specs.Folder.{Folder}
use Rattle.ts_store.specs.FolderSays.{AreSoundLayers, FolderSays, IsLayerFile, IsFileOf, IsLabelFileOf, SaysBelow, IsDamagedLabel, IsFirstDamagedLayer, HasRollup, IsFirstDamaged}
use Rattle.ts_store.specs.State.{State}
use Rattle.ts_store.proofs.BelowLaws.{AgreeTo, FallTo, kept_too}
use Rattle.ts_store.proofs.LabelFileLaws.{one_label}
use Rattle.ts_store.proofs.LabelLaws.{names_file}
use Rattle.ts_store.proofs.PlainLayers.{kept_is_plain}

-- ---- a file is that of one layer

module _ (k : ℕ) (a b : History) (one : IsWellKept a) (other : IsWellKept b) (layer twin : LayerRecord) (stands : get a k ≡ Some layer) (found : get b k ≡ Some twin) (file : List ℕ) where
  one_file : IsLayerFile k layer file → IsLayerFile k twin file → layer ≡ twin
  one_file is too =
      let small = (one k layer stands).number.1 in
      let same = same_layer k k layer.parent twin.parent (members layer.additions) (members layer.removals) (members twin.additions) (members twin.removals)
      small small (kept_is_plain a one k layer stands) (kept_is_plain b other k twin found) (sym is ∙ too) in
      let added : layer.additions ≡ twin.additions = sym (from_list-members layer.additions) ∙ ap from_list same.2 ∙ from_list-members twin.additions in
      let removed : layer.removals ≡ twin.removals = sym (from_list-members layer.removals) ∙ ap from_list same.3 ∙ from_list-members twin.removals in
      λ i. record { parent = same.1 i; additions = added i; removals = removed i }

-- ---- two histories of which the files of one folder tell

-- what a folder tells of one layer, of two well kept histories
module _ (a b : History) (one : IsWellKept a) (other : IsWellKept b) (k : ℕ) where
  at_file : (found : Option (List ℕ)) (x y : Option LayerRecord) → get a k ≡ x → get b k ≡ y → MatchOption found (get a k ≡ None) (IsFileOf a k) → MatchOption found (get b k ≡ None) (IsFileOf b k) → get a k ≡ get b k
  at_file None x y e f here there = here ∙ sym there
  at_file (Some file) x y e f (layer, stands, is) (twin, found, too) =
      stands ∙ ap Some (one_file k a b one other layer twin stands found file is too) ∙ sym found

  -- where the number is none of a layer, neither has it
  at_none : (x y : Option LayerRecord) → get a k ≡ x → get b k ≡ y → (IsLayerNumber k → get a k ≡ get b k) → get a k ≡ get b k
  at_none None None e f is = e ∙ sym f
  at_none None (Some layer) e f is = is (other k layer f).number
  at_none (Some layer) y e f is = is (one k layer e).number

module _ (folder : Folder) (a b : State) (one : FolderSays folder a) (other : FolderSays folder b) where
  same_at : (k : ℕ) → get a.history k ≡ get b.history k
  same_at k = at_none a.history b.history one.kept other.kept k (get a.history k) (get b.history k) refl refl
      (λ is. at_file a.history b.history one.kept other.kept k (get folder (layer_name k)) (get a.history k) (get b.history k) refl refl (one.layers k is) (other.layers k is))

  pub same_history : a.history ≡ b.history
  same_history = same_map nat_cmp_total nat_cmp-IsAntisymmetric a.history b.history same_at

-- ---- and the labels

module _ (folder : Folder) (a b : State) (one : FolderSays folder a) (other : FolderSays folder b) (name : List ℕ) where
  at_label_file : (found : Option (List ℕ)) → MatchOption found (get a.labels name ≡ None) (IsLabelFileOf a.labels name) → MatchOption found (get b.labels name ≡ None) (IsLabelFileOf b.labels name)
      → get a.labels name ≡ get b.labels name
  at_label_file None here there = here ∙ sym there
  at_label_file (Some file) (label, stands, is) (twin, found, too) =
      stands ∙ ap Some (one_label label twin (one.named name label stands).proper (other.named name twin found).proper (sym is ∙ too)) ∙ sym found

  -- where the name is none of a label, neither has it
  at_no_label : (x y : Option Label) → get a.labels name ≡ x → get b.labels name ≡ y → (IsLabelName name → get a.labels name ≡ get b.labels name) → get a.labels name ≡ get b.labels name
  at_no_label None None e f is = e ∙ sym f
  at_no_label None (Some label) e f is = is (other.named name label f).named
  at_no_label (Some label) y e f is = is (one.named name label e).named

  label_at : get a.labels name ≡ get b.labels name
  label_at = at_no_label (get a.labels name) (get b.labels name) refl refl (λ is. at_label_file (get folder (label_file_name name)) (one.labels name is) (other.labels name is))

pub same_labels : (folder : Folder) (a b : State) → FolderSays folder a → FolderSays folder b → a.labels ≡ b.labels
same_labels folder a b one other = same_map nat_list_cmp_total (slice_cmp-IsAntisymmetric nat_cmp-IsAntisymmetric) a.labels b.labels (label_at folder a b one other)

-- ---- no file of a folder that tells a history is damaged

get-inserted : (history : History) (k : ℕ) (layer : LayerRecord) → get (insert history k layer) k ≡ Some layer
get-inserted history k layer = get-insert nat_cmp_total history k layer k ∙ ap (λ r. cond (is_eq r) (Some layer) (get history k)) (tied_itself nat_cmp_total k)

pub get-other : (history : History) (k j : ℕ) (layer : LayerRecord) → j < k → get (insert history k layer) j ≡ get history j
get-other history k j layer below = get-insert nat_cmp_total history k layer j ∙ ap (λ (b : Bool). cond b (Some layer) (get history j)) (apart (eq_by_cmp nat_cmp j k) refl)
  where
    apart : (b : Bool) → eq_by_cmp nat_cmp j k ≡ b → b ≡ false
    apart false e = refl
    apart true e = let same : j ≡ k = nat_cmp-IsAntisymmetric j k ((Equal-is (nat_cmp j k)).0 e) in absurd (omega (arith, same, below))

-- the layers below one of a well kept history, which a folder tells, and with it
module _ (folder : Folder) (whole : History) (kept : IsWellKept whole) (k : ℕ) (layer : LayerRecord) (stands : get whole k ≡ Some layer) (below : History) (says : SaysBelow folder k below)
    (tells : (j : ℕ) → IsLayerNumber j → j < k → MatchOption (get folder (layer_name j)) (get whole j ≡ None) (IsFileOf whole j)) where
  agree_below : (j : ℕ) → j < k → get whole j ≡ get below j
  agree_below j less = at_none whole below kept says.kept j (get whole j) (get below j) refl refl
      (λ is. at_file whole below kept says.kept j (get folder (layer_name j)) (get whole j) (get below j) refl refl (tells j is less) (says.layers j is less))

  agree_with : AgreeTo k whole (insert below k layer)
  agree_with j to = elim (cases_lt j k) as (λ _. get whole j ≡ get (insert below k layer) j) [
    | inl less ↦ agree_below j less ∙ sym (get-other below k j layer less)
    | inr late ↦ let same : j ≡ k = omega arith in ap (get whole) same ∙ stands ∙ sym (get-inserted below k layer) ∙ ap (get (insert below k layer)) (sym same)
  ]

  falls : FallTo k whole
  falls j twin to found = parent_falls twin.parent (kept j twin found).parent
    where
      parent_falls : (parent : Option ℕ) → IfSome parent (λ p. (p < j) × IsTrue (contains_key whole p)) → IfSome parent (λ p. p < j)
      parent_falls None h = tt
      parent_falls (Some p) h = h.0

  pub keeps_with : IsLayerKept (insert below k layer) k layer
  keeps_with = kept_too k whole (insert below k layer) agree_with falls layer (kept k layer stands)

-- where each file is that of a layer of a well kept history, none is damaged
pub undamaged : (folder : Folder) (history : History) → IsWellKept history → ((k : ℕ) → IsLayerNumber k → MatchOption (get folder (layer_name k)) (get history k ≡ None) (IsFileOf history k)) → AreSoundLayers folder
undamaged folder history kept layers k fault =
    let told = subst (λ (found : Option (List ℕ)). MatchOption found (get history k ≡ None) (IsFileOf history k)) fault.stands (layers k fault.number) in
    fault.damaged told.0 (keeps_with folder history kept k told.0 told.1 fault.history fault.says (λ j is less. layers j is)) told.2

pub not_damaged : (folder : Folder) (state : State) (name : List ℕ) → FolderSays folder state → IsFirstDamaged folder name → ⊥
not_damaged folder state name says (inl (k, fault, named)) = undamaged folder state.history says.kept says.layers k fault
not_damaged folder state name says (inr (inl (k, fault, named))) = true≢false (sym fault.stands.1 ∙ says.rollups k fault.stands.0)
not_damaged folder state name says (inr (inr (label, fault, named))) =
    let file = fault.damaged in
    let told = subst (λ (found : Option (List ℕ)). MatchOption found (get state.labels label ≡ None) (IsLabelFileOf state.labels label)) file.stands (says.labels label file.named) in
    let is = says.named label told.0 told.1 in
    file.damaged told.0 is.proper (names_file folder state.history says.layers told.0.layer is.proper.1 is.stands) told.2

-- ---- one of the files at fault is the first

-- a layer below a damaged one is sound
module _ (folder : Folder) (k j : ℕ) (less : k < j) (fault : IsFirstDamagedLayer folder k) (later : IsFirstDamagedLayer folder j) where
  pub no_earlier : ⊥
  no_earlier =
      let told = subst (λ (found : Option (List ℕ)). MatchOption found (get later.history k ≡ None) (IsFileOf later.history k)) fault.stands (later.says.layers k fault.number less) in
      fault.damaged told.0 (keeps_with folder later.history later.says.kept k told.0 told.1 fault.history fault.says (λ i is below. later.says.layers i is (omega (arith, less, below)))) told.2

one_layer : (folder : Folder) (k j : ℕ) → IsFirstDamagedLayer folder k → IsFirstDamagedLayer folder j → k ≡ j
one_layer folder k j here there = elim (cases_lt k j) as (λ _. k ≡ j) [
  | inl less ↦ absurd (no_earlier folder k j less here there)
  | inr late ↦ elim (cases_lt j k) as (λ _. k ≡ j) [ inl less ↦ absurd (no_earlier folder j k less there here) | inr early ↦ omega arith ]
]

-- the first number of a kind is one number
one_number : (P : ℕ → Type 0) (k j : ℕ) → P k → P j → ((i : ℕ) → i < k → P i → ⊥) → ((i : ℕ) → i < j → P i → ⊥) → k ≡ j
one_number P k j here there first second = elim (cases_lt k j) as (λ _. k ≡ j) [
  | inl less ↦ absurd (second k less here)
  | inr late ↦ elim (cases_lt j k) as (λ _. k ≡ j) [ inl less ↦ absurd (first j less there) | inr early ↦ omega arith ]
]

-- and the first text of a kind one text
one_text : (P : List ℕ → Type 0) (a b : List ℕ) → P a → P b → ((c : List ℕ) → slice_cmp nat_cmp c a ≡ Less → P c → ⊥) → ((c : List ℕ) → slice_cmp nat_cmp c b ≡ Less → P c → ⊥) → a ≡ b
one_text P a b here there first second = elim (slice_cmp nat_cmp a b) as (λ r. slice_cmp nat_cmp a b ≡ r → a ≡ b) [
  | Less ↦ λ less. absurd (second a less here)
  | Equal ↦ λ tied. slice_cmp-IsAntisymmetric nat_cmp-IsAntisymmetric a b tied
  | Greater ↦ λ more. absurd (first b (nat_list_cmp_total.antisymm b a ∙ ap ordering_reverse more) there)
] refl

pub same_damaged : (folder : Folder) (a b : List ℕ) → IsFirstDamaged folder a → IsFirstDamaged folder b → a ≡ b
same_damaged folder a b (inl (k, fault, named)) (inl (j, other, called)) = named ∙ ap layer_name (one_layer folder k j fault other) ∙ sym called
same_damaged folder a b (inl (k, fault, named)) (inr (inl (j, other, called))) = absurd (other.sound k fault)
same_damaged folder a b (inl (k, fault, named)) (inr (inr (label, other, called))) = absurd (other.sound k fault)
same_damaged folder a b (inr (inl (k, fault, named))) (inl (j, other, called)) = absurd (fault.sound j other)
same_damaged folder a b (inr (inl (k, fault, named))) (inr (inl (j, other, called))) =
    named ∙ ap rollup_name (one_number (HasRollup folder) k j fault.stands other.stands fault.first other.first) ∙ sym called
same_damaged folder a b (inr (inl (k, fault, named))) (inr (inr (label, other, called))) = absurd (other.no_rollup k fault.stands)
same_damaged folder a b (inr (inr (label, fault, named))) (inl (j, other, called)) = absurd (fault.sound j other)
same_damaged folder a b (inr (inr (label, fault, named))) (inr (inl (j, other, called))) = absurd (fault.no_rollup j other.stands)
same_damaged folder a b (inr (inr (label, fault, named))) (inr (inr (text, other, called))) =
    named ∙ ap label_file_name (one_text (IsDamagedLabel folder) label text fault.damaged other.damaged fault.first other.first) ∙ sym called
