-- When layers with one more at their end are a history.
use Rattle.std.proofs.Common.{◌≡◌, ℕ, ◌+◌, ◌-◌, ◌<◌, ◌≤◌, ◌^◌, nat_lt, length, get_or, true, false, cond, List, [], ◌∷◌, ◌++◌, map, Option, Some, None, All, IsTrue, refl, sym, ap, ◌∙◌, subst, true≢false, arith}
use Rattle.std.specs.Option.{is_some}
use Rattle.std.specs.declared.cmp.Ordering.TheVariants.{Less}
use Rattle.std.specs.Ordering.{nat_cmp, eq_by_cmp}
use Rattle.std.specs.Cmp.{nat_cmp_total, nat_cmp_is, Equal-is, ranked}
use Rattle.std.specs.List.{AllByRecursion}
use Rattle.std.specs.List.Sorted.{IsStrictlySortedBy}
use Rattle.std.specs.FinMap.{find, insert, from_entries, from_entries_push, get-empty, get-from_entries, nat_cmp-IsAntisymmetric}
use Rattle.std.proofs.lemmas.List.{map-append, length-map, get_or-map}
use Rattle.std.proofs.lemmas.Bool.Decides.{nat_tests}
use Rattle.std.proofs.lemmas.List.Elements.{All-nil, All-push}
use Rattle.ts_model.specs.declared.signed.SignedTriple.{SignedTriple}
use Rattle.ts_model.specs.TextTriple.{TextTriple, IsTriple}
use Rattle.ts_model.specs.Order.{triple_cmp, triple_cmp_total}
use Rattle.ts_model.specs.Sets.{contains, members, from_list}
use Rattle.ts_model.specs.History.{History, IsLayerKept, IsWellKept, content_at_parent}
use Rattle.ts_model.specs.NetChange.{net_additions, net_removals}
use Rattle.ts_model.proofs.SetLaws.{contains-from_list, contains-members}
use Rattle.ts_model.proofs.TripleSets.{from_list-members}
use Rattle.ts_plain.specs.declared.write.PlainLayer.{PlainLayer}
use Rattle.ts_plain.specs.PlainRules.{FitsParent}
use Rattle.ts_plain.specs.History.{record_of, entry_of, history_of, LayerKeepsRules, AreHistory}
use Rattle.ts_plain.specs.NewLayer.{IsNewNumber}
use Rattle.ts_plain.proofs.AmongLaws.{among_has, all_among}
use Rattle.ts_plain.proofs.GrowthLaws.{ParentStands, get-new, below_new, parent_stood, IsLayerKept-new, IsWellKept-grown}
use Rattle.ts_plain.proofs.LayerLaws.{is_among}
use Rattle.ts_plain.proofs.NetLaws.{addition_is_new, removal_is_there}
use Rattle.ts_plain.proofs.OrderLaws.{above_last, last_below, rises_alone, rises_more}

abbrev pub numbers : List PlainLayer → List ℕ
numbers layers = map (λ layer. layer.number) layers

-- the number is above those of the layers
abbrev pub IsAbove : List PlainLayer → ℕ → Type 0
IsAbove layers number = IsStrictlySortedBy nat_cmp (numbers layers ++ number ∷ [])

-- the parent has all of these, or none of them
abbrev pub HasAll : History → Option ℕ → List TextTriple → Type 0
HasAll history parent triples = All (λ triple. IsTrue (contains (content_at_parent history parent) triple)) triples

abbrev pub HasNone : History → Option ℕ → List TextTriple → Type 0
HasNone history parent triples = All (λ triple. contains (content_at_parent history parent) triple ≡ false) triples

-- ---- above the last of rising numbers

pub lt_true : (a b : ℕ) → a < b → nat_lt a b ≡ true
lt_true a b h = grind (arith, nat_tests)

pub true_lt : (a b : ℕ) → nat_lt a b ≡ true → a < b
true_lt a b h = grind (arith, nat_tests)

module _ (layers : List PlainLayer) (last : PlainLayer) (number : ℕ) (some : 0 < length layers) (is : last ≡ get_or layers (length layers - 1) last) where
  whole : length layers - 1 + 1 ≡ length (numbers layers)
  whole = omega (arith, length-map layers (λ (layer : PlainLayer). layer.number))

  last_number : get_or (numbers layers) (length layers - 1) 0 ≡ last.number
  last_number = get_or-map (λ (layer : PlainLayer). layer.number) layers (length layers - 1) last 0 (omega arith) ∙ ap (λ (layer : PlainLayer). layer.number) (sym is)

  pub above_the_last : IsStrictlySortedBy nat_cmp (numbers layers) → last.number < number → IsAbove layers number
  above_the_last rise below =
      rises_more nat_cmp nat_cmp_total (numbers layers) (length layers - 1) number 0 whole rise
      (ap (λ n. nat_cmp n number) last_number ∙ sym (nat_cmp_is last.number number Less below))

  pub last_is_below : IsAbove layers number → last.number < number
  last_is_below above =
      ranked last.number number Less (sym (ap (λ n. nat_cmp n number) (sym last_number) ∙ last_below nat_cmp (numbers layers) (length layers - 1) number 0 whole above))

-- any number is above those of no layers
pub above_none : (layers : List PlainLayer) (number : ℕ) → layers ≡ [] → IsAbove layers number
above_none layers number none = subst (λ l. IsAbove l number) (sym none) (rises_alone nat_cmp number)

all_below : (xs : List ℕ) (y : ℕ) → IsStrictlySortedBy nat_cmp (xs ++ y ∷ []) → AllByRecursion (λ x. x < y) xs
unfolding IsStrictlySortedBy
all_below [] y h = tt
all_below (x ∷ xs) y h = (ranked x y Less (sym (above_last nat_cmp x y xs [] h.0)), all_below xs y h.1)

found_below : (layers : List PlainLayer) (k y : ℕ) → AllByRecursion (λ x. x < y) (numbers layers) → is_some (find nat_cmp k (map entry_of layers)) ≡ true → k < y
found_below [] k y all is = absurd (true≢false (sym is))
found_below (layer ∷ layers) k y all is =
    elim (eq_by_cmp nat_cmp k layer.number) as (λ b. eq_by_cmp nat_cmp k layer.number ≡ b → is_some (cond b (Some (record_of layer)) (find nat_cmp k (map entry_of layers))) ≡ true → k < y) [
      | true ↦ λ e _. let same : k ≡ layer.number = nat_cmp-IsAntisymmetric k layer.number ((Equal-is (nat_cmp k layer.number)).0 e) in subst (λ n. n < y) (sym same) all.0
      | false ↦ λ e later. found_below layers k y all.1 later
    ] refl is

pub IsNewNumber-above : (layers : List PlainLayer) (number : ℕ) → 1 ≤ number → IsAbove layers number → IsNewNumber (history_of layers) number
IsNewNumber-above layers number positive above = record {
  positive = positive;
  above = λ k stands. found_below layers k number (all_below (numbers layers) number above) (sym (ap is_some (get-from_entries nat_cmp_total (map entry_of layers) k)) ∙ stands);
}

none_found : (layers : List PlainLayer) (number : ℕ) → IsAbove layers number → find nat_cmp number (map entry_of layers) ≡ None
none_found layers number above = missing (find nat_cmp number (map entry_of layers)) (λ is.
    let below : number < number = found_below layers number number (all_below (numbers layers) number above) is in omega arith)
  where
    missing : {X : Type 0} (o : Option X) → (is_some o ≡ true → ⊥) → o ≡ None
    missing None h = refl
    missing (Some x) h = absurd (h refl)

-- the history of the layers with one more
pub history_of-push : (layers : List PlainLayer) (layer : PlainLayer) → IsAbove layers layer.number → history_of (layers ++ layer ∷ []) ≡ insert (history_of layers) layer.number (record_of layer)
history_of-push layers layer above =
    ap from_entries (map-append entry_of layers (layer ∷ []))
    ∙ from_entries_push nat_cmp_total nat_cmp-IsAntisymmetric (map entry_of layers) layer.number (record_of layer) (none_found layers layer.number above)

numbers-push : (layers : List PlainLayer) (layer : PlainLayer) → numbers (layers ++ layer ∷ []) ≡ numbers layers ++ layer.number ∷ []
numbers-push layers layer = map-append (λ (layer : PlainLayer). layer.number) layers (layer ∷ [])

made : (triples : List TextTriple) (q : TextTriple) → contains (from_list {R = triple_cmp} triples) q ≡ is_among triples q
made triples q = contains-from_list triple_cmp triple_cmp_total triples q

-- no layers are a history
pub AreHistory-none : AreHistory []
unfolding IsStrictlySortedBy
AreHistory-none = record {
  numbers_rise = tt;
  rules = All-nil LayerKeepsRules;
  well_kept = λ k layer is. let none : None ≡ Some layer = sym (get-empty nat_cmp k) ∙ is in absurd (true≢false (sym (ap is_some none)));
}

module _ (layers : List PlainLayer) (history : AreHistory layers) (layer : PlainLayer)
    (rules : LayerKeepsRules layer) where
  -- the history with the layer
  abbrev pub grown : History
  grown = insert (history_of layers) layer.number (record_of layer)

  new : IsAbove layers layer.number → IsNewNumber (history_of layers) layer.number
  new above = IsNewNumber-above layers layer.number rules.numbered above

  -- a layer that is kept in it makes a longer history
  pub AreHistory-with : IsAbove layers layer.number → IsLayerKept grown layer.number (record_of layer) → AreHistory (layers ++ layer ∷ [])
  AreHistory-with above kept = record {
    numbers_rise = subst (IsStrictlySortedBy nat_cmp) (sym (numbers-push layers layer)) above;
    rules = All-push LayerKeepsRules layers layer history.rules rules;
    well_kept = subst IsWellKept (sym (history_of-push layers layer above)) (IsWellKept-grown (history_of layers) history.well_kept layer.number (new above) (record_of layer) kept);
  }

  -- and so does one that is kept over its parent
  pub AreHistory-push : layer.number < 2 ^ 32 → All IsTriple layer.additions.items → IsAbove layers layer.number → ParentStands (history_of layers) layer.parent
      → HasAll (history_of layers) layer.parent layer.removals.items → HasNone (history_of layers) layer.parent layer.additions.items → AreHistory (layers ++ layer ∷ [])
  AreHistory-push fits triples above stands removed added =
      AreHistory-with above (IsLayerKept-new (history_of layers) history.well_kept layer.number (new above) (record_of layer) stands fits
      (λ q is. among_has IsTriple layer.additions.items q triples (sym (made layer.additions.items q) ∙ is))
      (λ none. ap from_list (no_removals layer.parent rules.parent_fits none))
      (λ q is. among_has (λ q. IsTrue (contains (content_at_parent (history_of layers) layer.parent) q)) layer.removals.items q removed (sym (made layer.removals.items q) ∙ is))
      (λ q is. among_has (λ q. contains (content_at_parent (history_of layers) layer.parent) q ≡ false) layer.additions.items q added (sym (made layer.additions.items q) ∙ is)))
    where
      no_removals : (o : Option ℕ) → FitsParent layer.number o layer.removals.items → o ≡ None → layer.removals.items ≡ []
      no_removals None fits e = fits
      no_removals (Some p) fits e = let none : ⊥ = cc in absurd none

  module _ (longer : AreHistory (layers ++ layer ∷ [])) where
    pub is_above : IsAbove layers layer.number
    is_above = subst (IsStrictlySortedBy nat_cmp) (numbers-push layers layer) longer.numbers_rise

    -- the last layer of a history is kept
    pub IsLayerKept-last : IsLayerKept grown layer.number (record_of layer)
    IsLayerKept-last =
        subst IsWellKept (history_of-push layers layer is_above) longer.well_kept layer.number (record_of layer)
        (get-new (history_of layers) history.well_kept layer.number (new is_above) (record_of layer))

    -- its parent stood
    pub parent_stands : ParentStands (history_of layers) layer.parent
    parent_stands = parent_stood (history_of layers) history.well_kept layer.number (new is_above) (record_of layer) IsLayerKept-last

    pub has_removals : HasAll (history_of layers) layer.parent layer.removals.items
    has_removals = all_among (λ q. IsTrue (contains (content_at_parent (history_of layers) layer.parent) q)) layer.removals.items (λ q is.
        ap (λ set. contains set q) (sym (below_new (history_of layers) history.well_kept layer.number (new is_above) (record_of layer) parent_stands))
        ∙ IsLayerKept-last.removed q (made layer.removals.items q ∙ is))

    pub lacks_additions : HasNone (history_of layers) layer.parent layer.additions.items
    lacks_additions = all_among (λ q. contains (content_at_parent (history_of layers) layer.parent) q ≡ false) layer.additions.items (λ q is.
        ap (λ set. contains set q) (sym (below_new (history_of layers) history.well_kept layer.number (new is_above) (record_of layer) parent_stands))
        ∙ IsLayerKept-last.added q (made layer.additions.items q ∙ is))

-- ---- the net change of a body

module _ (history : History) (parent : Option ℕ) (body : List SignedTriple) (additions removals : List TextTriple)
    (additions_are : additions ≡ members (net_additions (content_at_parent history parent) body))
    (removals_are : removals ≡ members (net_removals (content_at_parent history parent) body)) where
  pub HasAll-net_removals : HasAll history parent removals
  HasAll-net_removals = all_among (λ q. IsTrue (contains (content_at_parent history parent) q)) removals (λ q is.
      removal_is_there (content_at_parent history parent) body q
      (contains-members triple_cmp (net_removals (content_at_parent history parent) body) q ∙ ap (λ l. is_among l q) (sym removals_are) ∙ is))

  pub HasNone-net_additions : HasNone history parent additions
  HasNone-net_additions = all_among (λ q. contains (content_at_parent history parent) q ≡ false) additions (λ q is.
      addition_is_new (content_at_parent history parent) body q
      (contains-members triple_cmp (net_additions (content_at_parent history parent) body) q ∙ ap (λ l. is_among l q) (sym additions_are) ∙ is))

  -- the record of a layer that is made of it
  pub record_of-net_change : (layer : PlainLayer) → layer.parent ≡ parent → layer.additions.items ≡ additions → layer.removals.items ≡ removals
      → record_of layer ≡ record { parent = parent; additions = net_additions (content_at_parent history parent) body; removals = net_removals (content_at_parent history parent) body }
  record_of-net_change layer parent_is added removed =
      let adds : from_list {R = triple_cmp} layer.additions.items ≡ net_additions (content_at_parent history parent) body =
      ap from_list (added ∙ additions_are) ∙ from_list-members (net_additions (content_at_parent history parent) body) in
      let removes : from_list {R = triple_cmp} layer.removals.items ≡ net_removals (content_at_parent history parent) body =
      ap from_list (removed ∙ removals_are) ∙ from_list-members (net_removals (content_at_parent history parent) body) in
      λ i. record { parent = parent_is i; additions = adds i; removals = removes i }
