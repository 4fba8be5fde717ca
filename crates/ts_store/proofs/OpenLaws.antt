-- What is read of the layers of a folder.
use Rattle.std.proofs.Common.{◌≡◌, ℕ, zero, suc, ◌+◌, ◌<◌, true, false, cond, List, [], ◌∷◌, ◌++◌, map, length, take, get_or, All, Option, Some, None, IsTrue, refl, sym, ap, ◌∙◌, subst, inl, inr, arith, true≢false}
use Rattle.std.specs.Prelude.{Contains, MatchOption}
use Rattle.std.specs.Option.{is_some}
use Rattle.std.specs.Ordering.{nat_cmp, eq_by_cmp}
use Rattle.std.specs.Cmp.{nat_cmp_total, Equal-is}
use Rattle.std.specs.List.Sorted.{IsStrictlySortedBy, IsStrictlyIncreasing}
use Rattle.std.specs.FinMap.{get, insert, contains_key, find, get-from_entries, nat_cmp-IsAntisymmetric}
use Rattle.std.proofs.lemmas.Bool.{cases_lt}
use Rattle.std.proofs.lemmas.List.{map-append, take_more, get_or-map, get_or-take, get_or_default, length-map, length-take-le}
use Rattle.std.proofs.lemmas.List.Elements.{All-contains}
use Rattle.std.proofs.lemmas.Map.Keys.{below_from_sorted, sorted_from_strictly_increasing}
use Rattle.ts_model.specs.Order.{triple_cmp, triple_cmp_total, triple_cmp-IsAntisymmetric}
use Rattle.ts_model.specs.Sets.{members, from_list}
use Rattle.ts_model.specs.History.{LayerRecord, IsLayerKept}
use Rattle.ts_model.proofs.SetAlgebra.{members-from_rising}
use Rattle.ts_model.proofs.TripleSets.{from_list-members}
use Rattle.ts_plain.specs.declared.write.PlainLayer.{PlainLayer}
use Rattle.ts_plain.specs.History.{AreHistory, LayerKeepsRules, entry_of, history_of, record_of}
use Rattle.ts_plain.specs.NewLayer.{IsNewNumber}
use Rattle.ts_plain.specs.PlainFile.{plain_file}
use Rattle.ts_plain.specs.PlainRules.{IsPlainLayer}
use Rattle.ts_plain.proofs.GrowthLaws.{get-new, IsWellKept-grown}
use Rattle.ts_plain.proofs.LookupLaws.{StandsIn-at}
use Rattle.ts_plain.proofs.OneLayer.{same_layer}
use Rattle.ts_plain.proofs.OrderLaws.{rises_front}
use Rattle.ts_plain.proofs.PlaceLaws.{AreHistory-with, IsAbove, IsNewNumber-above, numbers}
use Rattle.ts_replace.specs.Names.{IsLayerNumber, layer_name}
use Rattle.ts_site.specs.Folder.{Folder}
use Rattle.ts_store.specs.declared.stop.Stop.TheVariants.{Damaged}
use Rattle.ts_store.specs.FolderSays.{IsFileOf, IsFirstDamagedLayer, IsLayerFile, SaysBelow}
use Rattle.ts_store.specs.Opened.{AreLayersOf, IsFirstOf, IsReadFrom, IsUnreadable}
use Rattle.ts_store.proofs.PlainLayers.{kept_is_plain}

-- ---- the layers of a history

-- the layer of a list under a number
abbrev Found : List PlainLayer → ℕ → LayerRecord → Type 0
Found layers k recorded = (layer : PlainLayer) × Contains layers layer × (k ≡ layer.number) × (record_of layer ≡ recorded)

later : (first : PlainLayer) (layers : List PlainLayer) (k : ℕ) (recorded : LayerRecord) → Found layers k recorded → Found (first ∷ layers) k recorded
later first layers k recorded (layer, (i, lt, at), number, is) = (layer, (suc i, omega arith, at), number, is)

found_in : (layers : List PlainLayer) (k : ℕ) (recorded : LayerRecord) → find nat_cmp k (map entry_of layers) ≡ Some recorded → Found layers k recorded
found_in [] k recorded e = let none : false ≡ true = ap is_some e in absurd (true≢false (sym none))
found_in (layer ∷ layers) k recorded e =
    elim (eq_by_cmp nat_cmp k layer.number) as (λ b. eq_by_cmp nat_cmp k layer.number ≡ b → cond b (Some (record_of layer)) (find nat_cmp k (map entry_of layers)) ≡ Some recorded → Found (layer ∷ layers) k recorded) [
      | true ↦ λ same is.
          let here : record_of layer ≡ recorded = cc in
          (layer, (0, omega arith, refl), nat_cmp-IsAntisymmetric k layer.number ((Equal-is (nat_cmp k layer.number)).0 same), here)
      | false ↦ λ other is. later layer layers k recorded (found_in layers k recorded is)
    ] refl e

-- what the history says of a number, a layer of the list says
found : (layers : List PlainLayer) (k : ℕ) (recorded : LayerRecord) → get (history_of layers) k ≡ Some recorded → Found layers k recorded
found layers k recorded e = found_in layers k recorded (sym (get-from_entries nat_cmp_total (map entry_of layers) k) ∙ e)

recorded : (layers : List PlainLayer) → AreHistory layers → (layer : PlainLayer) → Contains layers layer → get (history_of layers) layer.number ≡ Some (record_of layer)
recorded layers history layer (i, lt, at) = subst (λ (l : PlainLayer). get (history_of layers) l.number ≡ Some (record_of l)) at (StandsIn-at layers i layer history lt).recorded

-- the layer that has a number of the list
layer_of : (layers : List PlainLayer) (i : ℕ) → i < length layers → (layer : PlainLayer) × (get_or layers i layer ≡ layer)
layer_of [] i below = absurd (omega arith)
layer_of (layer ∷ layers) zero below = (layer, refl)
layer_of (layer ∷ layers) (suc i) below = layer_of layers i (omega arith)

numbered : (layers : List PlainLayer) (k : ℕ) → Contains (numbers layers) k → (layer : PlainLayer) × Contains layers layer × (layer.number ≡ k)
numbered layers k (i, below, is) =
    let same : length (numbers layers) ≡ length layers = length-map layers (λ (layer : PlainLayer). layer.number) in
    let at = layer_of layers i (omega arith) in
    (at.0, (i, omega arith, at.1), ap (λ (layer : PlainLayer). layer.number) (sym at.1) ∙ sym (get_or-map (λ (layer : PlainLayer). layer.number) layers i at.0 k (omega arith)) ∙ is)

-- the file of a layer that keeps the rules is that of its record
its_file : (layer : PlainLayer) → LayerKeepsRules layer → IsLayerFile layer.number (record_of layer) (plain_file layer.number layer.parent layer.additions.items layer.removals.items)
its_file layer rules i =
    plain_file layer.number layer.parent
    (sym (members-from_rising triple_cmp triple_cmp_total triple_cmp-IsAntisymmetric layer.additions.items rules.additions_rise) i)
    (sym (members-from_rising triple_cmp triple_cmp_total triple_cmp-IsAntisymmetric layer.removals.items rules.removals_rise) i)

-- ---- numbers that rise

-- the numbers below a place and the one there
split : (xs : List ℕ) (i : ℕ) → i < length xs → (behind : List ℕ) × (xs ≡ take i xs ++ get_or xs i 0 ∷ behind)
split [] i below = absurd (omega arith)
split (x ∷ xs) zero below = (xs, refl)
split (x ∷ xs) (suc i) below = let rest = split xs i (omega arith) in (rest.0, ap (λ l. x ∷ l) rest.1)

rise_to : (xs : List ℕ) (i : ℕ) → IsStrictlyIncreasing xs → i < length xs → IsStrictlySortedBy nat_cmp (take i xs ++ get_or xs i 0 ∷ [])
rise_to xs i rise below =
    let parts = split xs i below in
    rises_front nat_cmp (take i xs) parts.0 (get_or xs i 0) (subst (IsStrictlySortedBy nat_cmp) parts.1 (sorted_from_strictly_increasing xs rise))

-- a number that is below that of a place stands before it
before_place : (xs : List ℕ) (i j : ℕ) → IsStrictlyIncreasing xs → i < length xs → Contains xs j → j < get_or xs i 0 → Contains (take i xs) j
before_place xs i j rise below (m, lt, at) less =
    let sorted = sorted_from_strictly_increasing xs rise in
    let same_i : get_or xs i j ≡ get_or xs i 0 = get_or_default xs i j 0 below in
    let early : m < i = elim (cases_lt m i) as (λ _. m < i) [
      | inl less ↦ less
      | inr late ↦ absurd (elim (cases_lt i m) as (λ _. ⊥) [
        | inl after ↦ let above = below_from_sorted xs i m j sorted after lt in omega arith
        | inr equal ↦ let e : m ≡ i = omega arith in let here : get_or xs i j ≡ j = subst (λ n. get_or xs n j ≡ j) e at in omega arith
      ])
    ] in
    (m, omega (arith, length-take-le i xs (omega arith)), get_or-take i xs m j early ∙ at)

-- ---- layers that were read

module _ (folder : Folder) (layers : List PlainLayer) (history : AreHistory layers) (read : All (IsReadFrom folder) layers) where
  file_of : (layer : PlainLayer) → Contains layers layer → get folder (layer_name layer.number) ≡ Some (plain_file layer.number layer.parent layer.additions.items layer.removals.items)
  file_of layer among = (All-contains (IsReadFrom folder) layers layer read among).file

  not_there : (k : ℕ) (found_there : Option LayerRecord) → get folder (layer_name k) ≡ None → get (history_of layers) k ≡ found_there → get (history_of layers) k ≡ None
  not_there k None gone e = e
  not_there k (Some there) gone e =
      let at = found layers k there e in
      absurd (true≢false (sym (ap is_some (ap (λ n. get folder (layer_name n)) at.2 ∙ file_of at.0 at.1)) ∙ ap is_some gone))

  -- a file under a number of the layers is that of the layer
  is_there : (k : ℕ) (file : List ℕ) → get folder (layer_name k) ≡ Some file → Contains (numbers layers) k → IsFileOf (history_of layers) k file
  is_there k file stands among =
      let at = numbered layers k among in
      let layer = at.0 in
      let written : Some file ≡ Some (plain_file layer.number layer.parent layer.additions.items layer.removals.items) = sym stands ∙ ap (λ n. get folder (layer_name n)) (sym at.2) ∙ file_of layer at.1 in
      let same : file ≡ plain_file layer.number layer.parent layer.additions.items layer.removals.items = cc in (
        record_of layer,
        ap (get (history_of layers)) (sym at.2) ∙ recorded layers history layer at.1,
        subst (λ n. IsLayerFile n (record_of layer) file) at.2 (same ∙ its_file layer (All-contains LayerKeepsRules layers layer history.rules at.1)),
      )

  -- what the folder tells of a number of which each file was read
  pub tells_at : (k : ℕ) → (IsTrue (contains_key folder (layer_name k)) → Contains (numbers layers) k)
      → MatchOption (get folder (layer_name k)) (get (history_of layers) k ≡ None) (IsFileOf (history_of layers) k)
  tells_at k known = elim (get folder (layer_name k)) as (λ o. get folder (layer_name k) ≡ o → MatchOption o (get (history_of layers) k ≡ None) (IsFileOf (history_of layers) k)) [
    | None ↦ λ e. not_there k (get (history_of layers) k) e refl
    | Some file ↦ λ e. is_there k file e (known (ap is_some e))
  ] refl

  -- ---- the next number

  module _ (k : ℕ) (is_number : IsLayerNumber k) (above : IsAbove layers k) (known : (j : ℕ) → IsLayerNumber j → j < k → IsTrue (contains_key folder (layer_name j)) → Contains (numbers layers) j) where
    new : IsNewNumber (history_of layers) k
    new = IsNewNumber-above layers k is_number.0 above

    says_below : SaysBelow folder k (history_of layers)
    says_below = record {
      kept = history.well_kept;
      below = λ j layer stands. new.above j (ap is_some stands);
      layers = λ j is less. tells_at j (known j is less);
    }

    -- a layer that is kept over those that were read has a plain file
    is_plain : (layer : LayerRecord) → IsLayerKept (insert (history_of layers) k layer) k layer → IsPlainLayer k layer.parent (members layer.additions) (members layer.removals)
    is_plain layer kept =
        kept_is_plain (insert (history_of layers) k layer) (IsWellKept-grown (history_of layers) history.well_kept k new layer kept) k layer
        (get-new (history_of layers) history.well_kept k new layer)

    -- the file is that of no layer
    pub unreadable_is_first : IsUnreadable folder k → IsFirstDamagedLayer folder k
    unreadable_is_first unreadable = record {
      number = is_number;
      file = unreadable.file;
      stands = unreadable.stands;
      history = history_of layers;
      says = says_below;
      damaged = λ layer kept is. unreadable.not_plain layer.parent (members layer.additions) (members layer.removals) (is_plain layer kept) is;
    }

    -- or that of one that doesn't keep to its place
    module _ (layer : PlainLayer) (number : layer.number ≡ k) (plain : IsPlainLayer layer.number layer.parent layer.additions.items layer.removals.items)
        (stands : IsReadFrom folder layer)
        (misplaced : AreHistory (layers ++ layer ∷ []) → ⊥) where
      plain_here : IsPlainLayer k layer.parent layer.additions.items layer.removals.items
      plain_here = subst (λ n. IsPlainLayer n layer.parent layer.additions.items layer.removals.items) number plain

      it_is : (twin : LayerRecord) → IsLayerKept (insert (history_of layers) k twin) k twin → IsLayerFile k twin (plain_file layer.number layer.parent layer.additions.items layer.removals.items) → twin ≡ record_of layer
      it_is twin kept is =
          let same = same_layer k k twin.parent layer.parent (members twin.additions) (members twin.removals) layer.additions.items layer.removals.items
          is_number.1 is_number.1 (is_plain twin kept) plain_here
          (sym is ∙ ap (λ n. plain_file n layer.parent layer.additions.items layer.removals.items) number) in
          let added : twin.additions ≡ from_list layer.additions.items = sym (from_list-members twin.additions) ∙ ap from_list same.2 in
          let removed : twin.removals ≡ from_list layer.removals.items = sym (from_list-members twin.removals) ∙ ap from_list same.3 in
          λ i. record { parent = same.1 i; additions = added i; removals = removed i }

      pub misplaced_is_first : IsFirstDamagedLayer folder k
      misplaced_is_first = record {
        number = is_number;
        file = plain_file layer.number layer.parent layer.additions.items layer.removals.items;
        stands = ap (λ n. get folder (layer_name n)) (sym number) ∙ stands.file;
        history = history_of layers;
        says = says_below;
        damaged = λ twin kept is.
            let here : IsLayerKept (insert (history_of layers) k (record_of layer)) k (record_of layer) =
            subst (λ r. IsLayerKept (insert (history_of layers) k r) k r) (it_is twin kept is) kept in
            misplaced (AreHistory-with layers history layer plain.0
            (subst (IsAbove layers) (sym number) above)
            (subst (λ n. IsLayerKept (insert (history_of layers) n (record_of layer)) n (record_of layer)) (sym number) here));
      }

-- ---- the layers of these numbers

-- one number more
pub more_numbers : (layers : List PlainLayer) (all : List ℕ) (i : ℕ) (layer : PlainLayer) (after : List PlainLayer) → i < length all → layer.number ≡ get_or all i 0
    → numbers layers ≡ take i all → after ≡ layers ++ layer ∷ [] → numbers after ≡ take (i + 1) all
more_numbers layers all i layer after below is so_far pushed =
    ap numbers pushed ∙ map-append (λ (l : PlainLayer). l.number) layers (layer ∷ [])
    ∙ (λ j. so_far j ++ is j ∷ []) ∙ sym (take_more all i 0 below)

module _ (folder : Folder) (layers : List PlainLayer) (history : AreHistory layers) (read : All (IsReadFrom folder) layers) (all : List ℕ) (rise : IsStrictlyIncreasing all) (each : All IsLayerNumber all)
    (i : ℕ) (below : i < length all) (so_far : numbers layers ≡ take i all) where
  is_one : IsLayerNumber (get_or all i 0)
  is_one = each i 0 below

  is_next : IsAbove layers (get_or all i 0)
  is_next = subst (λ (ns : List ℕ). IsStrictlySortedBy nat_cmp (ns ++ get_or all i 0 ∷ [])) (sym so_far) (rise_to all i rise below)

  module _ (those : AreLayersOf folder all) where
    known : (j : ℕ) → IsLayerNumber j → j < get_or all i 0 → IsTrue (contains_key folder (layer_name j)) → Contains (numbers layers) j
    known j is less stands = subst (λ (ns : List ℕ). Contains ns j) (sym so_far) (before_place all i j rise below ((those j).1 (is, stands)) less)

  -- the name at which reading stops is that of the first damaged layer
  pub first_unreadable : (name : List ℕ) → IsUnreadable folder (get_or all i 0) → name ≡ layer_name (get_or all i 0) → IsFirstOf folder all name
  first_unreadable name unreadable named = record { first = λ those. (get_or all i 0, unreadable_is_first folder layers history read (get_or all i 0) is_one is_next (known those) unreadable, named) }

  pub first_misplaced : (name : List ℕ) (layer : PlainLayer) → layer.number ≡ get_or all i 0 → IsPlainLayer layer.number layer.parent layer.additions.items layer.removals.items
      → IsReadFrom folder layer
      → (AreHistory (layers ++ layer ∷ []) → ⊥) → name ≡ layer_name (get_or all i 0) → IsFirstOf folder all name
  first_misplaced name layer number plain stands misplaced named =
      record { first = λ those. (get_or all i 0, misplaced_is_first folder layers history read (get_or all i 0) is_one is_next (known those) layer number plain stands misplaced, named) }

-- two names at which reading stops are one
pub named : (name other : List ℕ) → Damaged name ≡ Damaged other → other ≡ name
named name other e = cc
