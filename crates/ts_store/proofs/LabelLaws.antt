-- Labels beside a history: their files, and one label more.
use Rattle.std.proofs.Common.{◌≡◌, ℕ, ◌+◌, Bool, true, false, cond, List, Option, Some, None, Result, Ok, Err, IfSome, IsTrue, true≢false, refl, sym, ap, ◌∙◌, subst, arith}
use Rattle.std.specs.Prelude.{MatchOption, ◌==◌, if◌then◌else◌}
use Rattle.std.specs.Option.{is_some}
use Rattle.std.specs.Ordering.{nat_cmp, eq_by_cmp}
use Rattle.std.specs.Cmp.{nat_cmp_total}
use Rattle.std.specs.Cmp.Lexicographic.{nat_list_cmp_total}
use Rattle.std.specs.FinMap.{get, insert, contains_key, get-insert}
use Rattle.std.proofs.lemmas.Bool.{eqb-true, eqb-false}
use Rattle.ts_labels.specs.LabelFile.{IsLabelLayer}
use Rattle.ts_labels.specs.Labels.{Labels}
use Rattle.ts_labels.specs.Moves.{last_version, made_label, moved_label}
use Rattle.ts_labels.specs.declared.label.Label.{Label}
use Rattle.ts_labels.specs.declared.label_error.LabelError.{LabelError}
use Rattle.ts_labels.specs.declared.label_error.LabelError.TheVariants.{Stale, VersionEnd}
use Rattle.ts_model.specs.History.{History, LayerRecord, IsWellKept}
use Rattle.ts_model.specs.Names.{IsLabelName}
use Rattle.ts_replace.specs.Names.{IsLayerNumber, layer_name}
use Rattle.ts_site.specs.Folder.{Folder}
use Rattle.ts_site.proofs.FolderLemmas.{is_same, is_same-itself, same_name}
use Rattle.ts_script.specs.declared.reply.Refusal.{Refusal}
use Rattle.ts_store.specs.FolderSays.{IsFileOf}
use Rattle.ts_store.specs.Named.{AreLabelsOf, IsLabelOf}
use Rattle.ts_store.specs.Resolve.{found_or}

-- what was found was there
pub found_some : {A : Type 0} (given : Refusal) (o : Option A) (a : A) → found_or given o ≡ Ok a → o ≡ Some a
found_some given None a e = let none : ⊥ = cc in absurd none
found_some given (Some b) a e = let same : b ≡ a = cc in ap Some same

-- ---- a label that is put

pub get_put : (labels : Labels) (name : List ℕ) (label : Label) (q : List ℕ) → get (insert labels name label) q ≡ cond (is_same q name) (Some label) (get labels q)
get_put labels name label q = get-insert nat_list_cmp_total labels name label q

pub get_put-same : (labels : Labels) (name : List ℕ) (label : Label) → get (insert labels name label) name ≡ Some label
get_put-same labels name label = get_put labels name label name ∙ ap (λ b. cond b (Some label) (get labels name)) (is_same-itself name)

pub get_put-other : (labels : Labels) (name : List ℕ) (label : Label) (q : List ℕ) → is_same q name ≡ false → get (insert labels name label) q ≡ get labels q
get_put-other labels name label q e = get_put labels name label q ∙ ap (λ b. cond b (Some label) (get labels q)) e

-- the labels may stand beside the history with one label more that may
pub named_put : (history : History) (labels : Labels) (name : List ℕ) (label : Label) → AreLabelsOf history labels → IsLabelOf history name label → AreLabelsOf history (insert labels name label)
named_put history labels name label named is q other found = by_name (is_same q name) refl
  where
    by_name : (b : Bool) → is_same q name ≡ b → IsLabelOf history q other
    by_name true e =
        let same : q ≡ name = same_name q name e in
        let put : Some label ≡ Some other = sym (get_put-same labels name label) ∙ ap (get (insert labels name label)) (sym same) ∙ found in
        let it : label ≡ other = cc in
        subst (λ (l : Label). IsLabelOf history q l) it (subst (λ (n : List ℕ). IsLabelOf history n label) (sym same) is)
    by_name false e = named q other (sym (get_put-other labels name label q e) ∙ found)

-- ---- one layer more

pub stands_still : (history : History) (n : ℕ) (layer : LayerRecord) (k : ℕ) → IsTrue (contains_key history k) → IsTrue (contains_key (insert history n layer) k)
stands_still history n layer k stands = ap is_some (get-insert nat_cmp_total history n layer k) ∙ by_number (eq_by_cmp nat_cmp k n)
  where
    by_number : (b : Bool) → is_some (cond b (Some layer) (get history k)) ≡ true
    by_number true = refl
    by_number false = stands

pub named_grown : (history : History) (n : ℕ) (layer : LayerRecord) (labels : Labels) → AreLabelsOf history labels → AreLabelsOf (insert history n layer) labels
named_grown history n layer labels named name label found =
    let is = named name label found in
    record { named = is.named; proper = is.proper; stands = still label.layer is.stands }
  where
    still : (o : Option ℕ) → IfSome o (λ k. IsTrue (contains_key history k)) → IfSome o (λ k. IsTrue (contains_key (insert history n layer) k))
    still None h = tt
    still (Some k) h = stands_still history n layer k h

-- ---- the layer that a label names

-- a layer that stands has the number of a layer
pub stands_numbered : (history : History) → IsWellKept history → (k : ℕ) → IsTrue (contains_key history k) → IsLayerNumber k
stands_numbered history kept k stands = of_found (get history k) refl stands
  where
    of_found : (found : Option LayerRecord) → get history k ≡ found → IsTrue (is_some found) → IsLayerNumber k
    of_found None e h = absurd (true≢false (sym h))
    of_found (Some layer) e h = (kept k layer e).number

-- the layers of a folder whose files are those of a history
module _ (folder : Folder) (history : History) (layers : (k : ℕ) → IsLayerNumber k → MatchOption (get folder (layer_name k)) (get history k ≡ None) (IsFileOf history k)) where
  has_file : (k : ℕ) → IsLayerNumber k → IsTrue (contains_key history k) → IsTrue (contains_key folder (layer_name k))
  has_file k number stands = of_file (get folder (layer_name k)) refl (layers k number)
    where
      of_file : (found : Option (List ℕ)) → get folder (layer_name k) ≡ found → MatchOption found (get history k ≡ None) (IsFileOf history k) → IsTrue (contains_key folder (layer_name k))
      of_file None e none = absurd (true≢false (sym stands ∙ ap is_some none))
      of_file (Some file) e told = ap is_some e

  has_layer : (k : ℕ) → IsLayerNumber k → IsTrue (contains_key folder (layer_name k)) → IsTrue (contains_key history k)
  has_layer k number stands = of_file (get folder (layer_name k)) refl (layers k number)
    where
      of_file : (found : Option (List ℕ)) → get folder (layer_name k) ≡ found → MatchOption found (get history k ≡ None) (IsFileOf history k) → IsTrue (contains_key history k)
      of_file None e none = absurd (true≢false (sym stands ∙ ap is_some e))
      of_file (Some file) e (layer, is, same) = ap is_some is

  pub names_file : (layer : Option ℕ) → IsLabelLayer layer → IfSome layer (λ k. IsTrue (contains_key history k)) → IfSome layer (λ k. IsTrue (contains_key folder (layer_name k)))
  names_file None is stands = tt
  names_file (Some k) is stands = has_file k is stands

  pub names_layer : (layer : Option ℕ) → IsLabelLayer layer → IfSome layer (λ k. IsTrue (contains_key folder (layer_name k))) → IfSome layer (λ k. IsTrue (contains_key history k))
  names_layer None is stands = tt
  names_layer (Some k) is stands = has_layer k is stands

-- ---- the next label of a name

pub made_new : (o : Option Label) (label : Label) → made_label o ≡ Ok label → ◌≡◌ {A = Label} (record { version = 0; layer = None }) label
made_new None label e = cc
made_new (Some old) label e = let none : ⊥ = cc in absurd none

pub made_is : (history : History) (name : List ℕ) → IsLabelName name → IsLabelOf history name (record { version = 0; layer = None })
made_is history name named = record { named = named; proper = (omega arith, tt); stands = tt }

module _ (history : History) (kept : IsWellKept history) (name : List ℕ) (label : Label) (is : IsLabelOf history name label) (version : ℕ) (to : Option ℕ) (stands : IfSome to (λ k. IsTrue (contains_key history k))) where
  label_layer : (layer : Option ℕ) → IfSome layer (λ k. IsTrue (contains_key history k)) → IsLabelLayer layer
  label_layer None h = tt
  label_layer (Some k) h = stands_numbered history kept k h

  abbrev next_by : Bool → Bool → Result Label LabelError
  next_by current end = if current then (if end then Err VersionEnd else Ok (record { version = version + 1; layer = to })) else Err (Stale label.version)

  -- a label that moved may stand beside the history
  pub moved_is : (next : Label) → moved_label (Some label) version to ≡ Ok next → IsLabelOf history name next
  moved_is next e = by_version (version == label.version) (version == last_version) refl refl e
    where
      by_version : (current end : Bool) → (version == label.version) ≡ current → (version == last_version) ≡ end → next_by current end ≡ Ok next → IsLabelOf history name next
      by_version false end a b e = let none : ⊥ = cc in absurd none
      by_version true true a b e = let none : ⊥ = cc in absurd none
      by_version true false a b e =
          let it : ◌≡◌ {A = Label} (record { version = version + 1; layer = to }) next = cc in
          subst (IsLabelOf history name) it (record {
            named = is.named;
            proper = (omega (arith, is.proper.0, eqb-true version label.version a, eqb-false version last_version b), label_layer to stands);
            stands = stands;
          })

-- ---- the next label is another one

pub made_other : (o : Option Label) (label : Label) → made_label o ≡ Ok label → o ≡ Some label → ⊥
made_other None label e f = let none : ⊥ = cc in none
made_other (Some old) label e f = let none : ⊥ = cc in none

module _ (known : Label) (version : ℕ) (to : Option ℕ) where
  abbrev next_from : Bool → Bool → Result Label LabelError
  next_from current end = if current then (if end then Err VersionEnd else Ok (record { version = version + 1; layer = to })) else Err (Stale known.version)

  pub moved_other : (next : Label) → moved_label (Some known) version to ≡ Ok next → known ≡ next → ⊥
  moved_other next e same = by_version (version == known.version) (version == last_version) refl e
    where
      by_version : (current end : Bool) → (version == known.version) ≡ current → next_from current end ≡ Ok next → ⊥
      by_version false end a e = let none : ⊥ = cc in none
      by_version true true a e = let none : ⊥ = cc in none
      by_version true false a e =
          let it : ◌≡◌ {A = Label} (record { version = version + 1; layer = to }) next = cc in
          let more : version + 1 ≡ known.version = ap (λ (l : Label). l.version) (it ∙ sym same) in
          omega (arith, more, eqb-true version known.version a)
