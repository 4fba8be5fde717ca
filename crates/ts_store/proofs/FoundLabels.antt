-- What is read of the labels of a folder.
use Rattle.std.proofs.Common.{◌≡◌, ℕ, ◌+◌, ◌<◌, Bool, true, false, List, [], ◌∷◌, ◌++◌, All, length, get_or, take, Option, Some, None, IsTrue, true≢false, refl, sym, ap, ◌∙◌, subst, inl, inr, arith}
use Rattle.std.specs.Prelude.{Contains, MatchOption}
use Rattle.std.specs.declared.cmp.Ordering.{Ordering}
use Rattle.std.specs.declared.cmp.Ordering.TheVariants.{Less, Equal, Greater}
use Rattle.std.specs.Option.{is_some}
use Rattle.std.specs.Ordering.{nat_cmp, ordering_reverse}
use Rattle.std.specs.Cmp.{tied_itself}
use Rattle.std.specs.Cmp.Lexicographic.{slice_cmp, nat_list_cmp_total}
use Rattle.std.specs.List.Sorted.{IsStrictlySortedBy}
use Rattle.std.specs.FinMap.{empty, get, insert, contains_key, get-empty}
use Rattle.std.proofs.lemmas.Bool.{cases_lt}
use Rattle.std.proofs.lemmas.List.{take_more, get_or-take, get_or_default, length-take-le}
use Rattle.std.proofs.lemmas.List.Elements.{All-contains, All-push}
use Rattle.std.proofs.lemmas.Map.Keys.{Less-from_sorted}
use Rattle.ts_labels.specs.LabelFile.{label_text}
use Rattle.ts_labels.specs.Labels.{Labels}
use Rattle.ts_labels.specs.declared.label.Label.{Label}
use Rattle.ts_model.specs.History.{History}
use Rattle.ts_model.specs.Names.{IsLabelName}
use Rattle.ts_replace.specs.Names.{label_file_name}
use Rattle.ts_site.specs.Folder.{Folder}
use Rattle.ts_site.proofs.FolderLemmas.{is_same, same_name}
use Rattle.ts_store.specs.FolderSays.{AreSoundLayers, FolderSays, HasRollup, IsDamagedLabel, IsFirstDamaged, IsLabelFileOf}
use Rattle.ts_store.specs.Named.{AreLabelsOf}
use Rattle.ts_store.specs.Opened.{AreLayersRead, IsUnreadableLabel}
use Rattle.ts_store.specs.State.{State}
use Rattle.ts_store.proofs.LabelLaws.{get_put-other, get_put-same, names_file, names_layer}
use Rattle.ts_store.proofs.OneHistory.{undamaged}

-- the file of the name is that of its label
abbrev pub IsLabelRead : Folder → Labels → List ℕ → Type 0
IsLabelRead folder labels name = (label : Label) × (get labels name ≡ Some label) × (get folder (label_file_name name) ≡ Some (label_text label))

-- each label has one of the names
abbrev pub AreAmong : Labels → List (List ℕ) → Type 0
AreAmong labels names = (name : List ℕ) → IsTrue (contains_key labels name) → Contains names name

-- ---- no labels yet

pub none_named : (history : History) (labels : Labels) → labels ≡ empty → AreLabelsOf history labels
none_named history labels none name label found =
    let e : None ≡ Some label = sym (ap (λ (m : Labels). get m name) none ∙ get-empty (slice_cmp nat_cmp) name) ∙ found in
    let no : ⊥ = cc in absurd no

pub none_among : (labels : Labels) (names : List (List ℕ)) → labels ≡ empty → AreAmong labels names
none_among labels names none name stands = absurd (true≢false (sym stands ∙ ap is_some (ap (λ (m : Labels). get m name) none ∙ get-empty (slice_cmp nat_cmp) name)))

-- ---- one label more

module _ (labels after : Labels) (name : List ℕ) (label : Label) (put : after ≡ insert labels name label) where
  pub among_more : (names : List (List ℕ)) → Contains names name → AreAmong labels names → AreAmong after names
  among_more names here among other stands = by_name (is_same other name) refl
    where
      by_name : (b : Bool) → is_same other name ≡ b → Contains names other
      by_name true e = subst (λ (n : List ℕ). Contains names n) (sym (same_name other name e)) here
      by_name false e = among other (sym (ap is_some (ap (λ (m : Labels). get m other) put ∙ get_put-other labels name label other e)) ∙ stands)

  module _ (folder : Folder) (file : get folder (label_file_name name) ≡ Some (label_text label)) where
    put_read : IsLabelRead folder after name
    put_read = (label, ap (λ (m : Labels). get m name) put ∙ get_put-same labels name label, file)

    read_still : (other : List ℕ) → IsLabelRead folder labels other → IsLabelRead folder after other
    read_still other (it, found, read) = by_name (is_same other name) refl
      where
        by_name : (b : Bool) → is_same other name ≡ b → IsLabelRead folder after other
        by_name true e = subst (IsLabelRead folder after) (sym (same_name other name e)) put_read
        by_name false e = (it, ap (λ (m : Labels). get m other) put ∙ get_put-other labels name label other e ∙ found, read)

    -- the labels of one name more are read
    pub read_more : (names : List (List ℕ)) (i : ℕ) → i < length names → name ≡ get_or names i name → All (IsLabelRead folder labels) (take i names) → All (IsLabelRead folder after) (take (i + 1) names)
    read_more names i below is read =
        let longer = take_more names i name below ∙ ap (λ (n : List ℕ). take i names ++ n ∷ []) (sym is) in
        subst (All (IsLabelRead folder after)) (sym longer) (All-push (IsLabelRead folder after) (take i names) name (λ j d lt. read_still (get_or (take i names) j d) (read j d lt)) put_read)

-- ---- all labels are read, or one isn't

module _ (folder : Folder) (history : History) (names : List (List ℕ)) (told : AreLayersRead folder history names) (labels : Labels) (named : AreLabelsOf history labels) where
  -- the folder tells the state
  pub says_labels : (state : State) → state.history ≡ history → state.labels ≡ labels → AreAmong labels names → All (IsLabelRead folder labels) names → FolderSays folder state
  says_labels state is_history is_labels among read =
      subst (λ (h : History). (l : Labels) → l ≡ labels → FolderSays folder (record { history = h; labels = l; cursors = state.cursors; last = state.last })) (sym is_history)
      (λ l e. subst (λ (m : Labels). FolderSays folder (record { history = history; labels = m; cursors = state.cursors; last = state.last })) (sym e) says) state.labels is_labels
    where
      at_name : (name : List ℕ) (found : Option (List ℕ)) → get folder (label_file_name name) ≡ found → IsLabelName name → MatchOption found (get labels name ≡ None) (IsLabelFileOf labels name)
      at_name name None e is = of_label (get labels name) refl
        where
          of_label : (l : Option Label) → get labels name ≡ l → get labels name ≡ None
          of_label None f = f
          of_label (Some label) f = absurd (true≢false (sym ((told.labels name).0 (among name (ap is_some f))).1 ∙ ap is_some e))
      at_name name (Some file) e is =
          let it = All-contains (IsLabelRead folder labels) names name read ((told.labels name).1 (is, ap is_some e)) in
          let both : Some file ≡ Some (label_text it.0) = sym e ∙ it.2 in
          let same : file ≡ label_text it.0 = cc in
          (it.0, it.1, same)

      says : FolderSays folder (record { history = history; labels = labels; cursors = state.cursors; last = state.last })
      says = record {
        kept = told.kept;
        named = named;
        layers = told.layers;
        rollups = told.rollups;
        labels = λ name is. at_name name (get folder (label_file_name name)) refl is;
      }

  sound : AreSoundLayers folder
  sound = undamaged folder history told.kept told.layers

  no_rollup : (k : ℕ) → HasRollup folder k → ⊥
  no_rollup k has = true≢false (sym has.1 ∙ told.rollups k has.0)

  -- a label that is read is not damaged
  not_damaged : (name : List ℕ) → IsLabelRead folder labels name → IsDamagedLabel folder name → ⊥
  not_damaged name (label, found, file) damaged =
      let both : Some damaged.file ≡ Some (label_text label) = sym damaged.stands ∙ file in
      let same : damaged.file ≡ label_text label = cc in
      let is = named name label found in
      damaged.damaged label is.proper (names_file folder history told.layers label.layer is.proper.1 is.stands) same

  reversed_less : (r : Ordering) → r ≡ Less → ordering_reverse r ≡ Less → ⊥
  reversed_less Less a b = let none : ⊥ = cc in none
  reversed_less Equal a b = let none : ⊥ = cc in none
  reversed_less Greater a b = let none : ⊥ = cc in none

  module _ (rise : IsStrictlySortedBy (slice_cmp nat_cmp) names) (i : ℕ) (below : i < length names) (read : All (IsLabelRead folder labels) (take i names)) (name : List ℕ) (is : name ≡ get_or names i name) where
    -- a name that is less than that of a place stands before it
    is_before : (other : List ℕ) (j : ℕ) → j < length names → get_or names j other ≡ other → slice_cmp nat_cmp other name ≡ Less → j < i
    is_before other j lt at less = elim (cases_lt j i) as (λ _. j < i) [
      | inl early ↦ early
      | inr late ↦ absurd (elim (cases_lt i j) as (λ _. ⊥) [
        | inl after ↦
            let above : slice_cmp nat_cmp (get_or names i other) (get_or names j other) ≡ Less = Less-from_sorted (slice_cmp nat_cmp) names i j other rise after lt in
            let here : get_or names i other ≡ name = get_or_default names i other name below ∙ sym is in
            let above_other : slice_cmp nat_cmp name other ≡ Less = sym (λ k. slice_cmp nat_cmp (here k) (at k)) ∙ above in
            reversed_less (slice_cmp nat_cmp name other) above_other (sym (nat_list_cmp_total.antisymm other name) ∙ less)
        | inr equal ↦
            let e : j ≡ i = omega arith in
            let same : other ≡ name = sym at ∙ ap (λ (n : ℕ). get_or names n other) e ∙ get_or_default names i other name below ∙ sym is in
            let tied : slice_cmp nat_cmp other name ≡ Equal = ap (λ (o : List ℕ). slice_cmp nat_cmp o name) same ∙ tied_itself nat_list_cmp_total name in
            let none : Less ≡ Equal = sym less ∙ tied in
            let no : ⊥ = cc in no
      ])
    ]

    earlier : (other : List ℕ) → slice_cmp nat_cmp other name ≡ Less → IsDamagedLabel folder other → ⊥
    earlier other less damaged =
        let found = (told.labels other).1 (damaged.named, ap is_some damaged.stands) in
        let early = is_before other found.0 found.1 found.2 less in
        let there : get_or (take i names) found.0 other ≡ other = get_or-take i names found.0 other early ∙ found.2 in
        not_damaged other (subst (IsLabelRead folder labels) there (read found.0 other (omega (arith, early, length-take-le i names (omega (arith, below)))))) damaged

    -- the label at which reading stops is the first damaged file
    pub first_label : (file : List ℕ) → IsUnreadableLabel folder history name → file ≡ label_file_name name → IsFirstDamaged folder file
    first_label file unreadable e =
        let named_so : IsLabelName name = ((told.labels name).0 (i, below, sym is)).0 in
        inr (inr (
          name,
          record {
            sound = sound;
            no_rollup = no_rollup;
            damaged = record {
              named = named_so;
              file = unreadable.file;
              stands = unreadable.stands;
              damaged = λ label it stands same. unreadable.damaged label it (names_layer folder history told.layers label.layer it.1 stands) same;
            };
            first = earlier;
          },
          e,
        ))
