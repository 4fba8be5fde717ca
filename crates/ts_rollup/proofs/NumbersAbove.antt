-- The numbers above one up to another, and the entries that have them.
use Rattle.std.proofs.Common.{◌≡◌, ℕ, zero, suc, ◌+◌, ◌-◌, ◌<◌, ◌≤◌, List, [], ◌∷◌, ◌++◌, map, length, get_or, All, Contains, Option, Some, None, refl, sym, ap, ◌∙◌, subst, arith}
use Rattle.std.specs.Prelude.{slice_get, ◌↔◌}
use Rattle.std.specs.declared.cmp.Ordering.TheVariants.{Less}
use Rattle.std.specs.Cmp.{nat_cmp_total}
use Rattle.std.specs.Ordering.{nat_cmp}
use Rattle.std.specs.List.{range_with_len}
use Rattle.std.specs.List.Sorted.{IsStrictlySortedBy}
use Rattle.std.specs.Option.{option_map, unwrap_or}
use Rattle.std.proofs.lemmas.Option.{slice_get-map}
use Rattle.std.proofs.lemmas.List.{length-map}
use Rattle.std.proofs.lemmas.List.FromFn.{get_or-map-range_with_len, length-map-range_with_len, map-range_with_len_more}
use Rattle.std.proofs.lemmas.Map.Keys.{sorted_from_all_adjacent}
use Rattle.ts_model.specs.TextTerm.{TextTerm}
use Rattle.ts_chain.specs.Spelled.{AreNamed}
use Rattle.ts_chain.proofs.Elements.{contains_at}
use Rattle.ts_rollup.specs.Rolled.{AreNumbered, numbers_above}
use Rattle.ts_rollup.proofs.NumberedTerms.{get_of}

pub one_more : (low id : ℕ) → low ≤ id → numbers_above low id ++ (id + 1) ∷ [] ≡ numbers_above low (id + 1)
one_more low id above =
    let next : id + 1 - low ≡ (id - low) + 1 = omega arith in
    sym (map-range_with_len_more (λ n. n + 1) low (id - low) id (omega arith)) ∙ ap (λ n. map (λ n. n + 1) (range_with_len low n)) (sym next)

same_default : (xs : List ℕ) (k d e : ℕ) → k < length xs → get_or xs k e ≡ get_or xs k d
same_default [] k d e within = absurd (omega arith)
same_default (x ∷ xs) zero d e within = refl
same_default (x ∷ xs) (suc k) d e within = same_default xs k d e (omega arith)

less : (a b : ℕ) → a < b → nat_cmp a b ≡ Less
less a b h = grind (arith)

module _ (low high : ℕ) where
  pub above_long : length (numbers_above low high) ≡ high - low
  above_long = length-map-range_with_len (λ n. n + 1) low (high - low)

  pub above_at : (i d : ℕ) → i < high - low → get_or (numbers_above low high) i d ≡ low + i + 1
  above_at i d within = get_or-map-range_with_len (λ n. n + 1) low (high - low) i (low + i) d within refl

  pub above_rise : IsStrictlySortedBy nat_cmp (numbers_above low high)
  above_rise =
      sorted_from_all_adjacent nat_cmp_total (numbers_above low high) 0
      (λ k within.
      let long = above_long in
      let a = above_at k 0 (omega arith) in
      let b = above_at (k + 1) 0 (omega arith) in
      less (get_or (numbers_above low high) k 0) (get_or (numbers_above low high) (k + 1) 0) (omega arith))

  pub within_above : (id : ℕ) → Contains (numbers_above low high) id → (low < id) × (id ≤ high)
  within_above id h =
      let long = above_long in
      let inside = h.1 in
      let at = above_at h.0 id (omega arith) in
      let is = h.2 in
      (omega arith, omega arith)

  pub all_above : All (λ id. (low < id) × (id ≤ high)) (numbers_above low high)
  all_above k d within =
      let long = above_long in
      let at = above_at k d (omega arith) in
      (omega arith, omega arith)

  pub taken_above : (id : ℕ) → low < id → id ≤ high → Contains (numbers_above low high) id
  taken_above id beyond within =
      let long = above_long in
      (id - low - 1, omega arith, above_at (id - low - 1) id (omega arith) ∙ omega arith)

  -- ---- entries

  module _ (Names : ℕ → TextTerm → Type 0) (ids : List ℕ) (terms : List TextTerm) (rises : low ≤ high)
      (same : (id : ℕ) → Contains ids id ↔ Contains (numbers_above low high) id) (once : length ids ≡ length (numbers_above low high)) (counted : length terms ≡ length (numbers_above low high))
      (named : AreNamed Names ids terms) where
    abbrev place_of : ℕ → ℕ
    place_of id = id - low - 1

    pub ids_above : All (λ id. low < id) ids
    ids_above k d within = (within_above (get_or ids k d) ((same (get_or ids k d)).0 (k, within, same_default ids k d (get_or ids k d) within))).0

    pub numbered : AreNumbered Names low high terms (map place_of ids)
    numbered = record {
      as_many = (let long = above_long in omega arith);
      placed = length-map ids place_of ∙ once ∙ sym counted;
      each = λ place within. each_place place (let long = above_long in omega arith);
      named = λ entry place term at here. name_at entry place term at here;
    }
      where
        each_place : (place : ℕ) → place < high - low → Contains (map place_of ids) place
        each_place place within =
            let there = (same (low + 1 + place)).1 (taken_above (low + 1 + place) (omega arith) (omega arith)) in
            let at = get_of ids (low + 1 + place) there in
            let mapped : slice_get (map place_of ids) at.0 ≡ Some place =
            slice_get-map place_of ids at.0 ∙ ap (option_map place_of) at.1 ∙ ap (λ n. Some n) (omega arith) in
            contains_at (map place_of ids) at.0 place mapped

        name_at : (entry place : ℕ) (term : TextTerm) → slice_get (map place_of ids) entry ≡ Some place → slice_get terms entry ≡ Some term → Names (low + 1 + place) term
        name_at entry place term at here = by (slice_get ids entry) refl
          where
            mapped : option_map place_of (slice_get ids entry) ≡ Some place
            mapped = sym (slice_get-map place_of ids entry) ∙ at

            by : (o : Option ℕ) → slice_get ids entry ≡ o → Names (low + 1 + place) term
            by None e = let lost : None ≡ Some place = ap (option_map place_of) (sym e) ∙ mapped in let none : ⊥ = cc in absurd none
            by (Some id) e =
                let place_is : place_of id ≡ place = ap (λ o. unwrap_or o place) (ap (option_map place_of) (sym e) ∙ mapped) in
                let beyond = (within_above id ((same id).0 (contains_at ids entry id e))).0 in
                let number : id ≡ low + 1 + place = omega arith in
                subst (λ n. Names n term) number (named entry id term e here)

    -- the same of totals and places that are these
    pub numbered_as : (l h : ℕ) (places : List ℕ) → low ≡ l → high ≡ h → places ≡ map place_of ids → AreNumbered Names l h terms places
    numbered_as l h places low_is high_is places_are =
        subst (λ places. AreNumbered Names l h terms places) (sym places_are)
        (subst (λ h. AreNumbered Names l h terms (map place_of ids)) high_is (subst (λ l. AreNumbered Names l high terms (map place_of ids)) low_is numbered))
