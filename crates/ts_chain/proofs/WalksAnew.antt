-- A walk that is made anew, from after a triple that another gave, is what that one has left.
use Rattle.std.proofs.Common.{◌≡◌, ℕ, zero, suc, ◌+◌, inl, inr, Bool, true, false, true≢false, ◌&&◌, ◌||◌, List, [], ◌∷◌, ◌++◌, drop, slice_get, take, sum, Option, Some, None, refl, sym, ap, ◌∙◌, subst, arith}
use Rattle.std.specs.Ordering.{eq_by_cmp, is_eq, is_lt}
use Rattle.std.specs.Option.{unwrap_or}
use Rattle.std.specs.Cmp.{tied_itself}
use Rattle.std.specs.declared.cmp.Ordering.TheVariants.{Less}
use Rattle.std.specs.List.{AllByRecursion}
use Rattle.std.specs.List.Sorted.{IsStrictlySortedBy}
use Rattle.std.proofs.lemmas.Bool.{and_parts, or_cases, or_left, or_right}
use Rattle.std.proofs.lemmas.List.Sums.{sum_by-cons}
use Rattle.std.proofs.lemmas.Option.{slice_get_within}
use Rattle.std.proofs.Math.Seq.{take-add}
use Rattle.ts_plane.specs.declared.pattern.IdPattern.{IdPattern}
use Rattle.ts_plane.specs.declared.triple.IdTriple.{IdTriple}
use Rattle.ts_plane.specs.Pattern.{fits, is_after, walk_of}
use Rattle.ts_plane.specs.Triple.{IsRising, triple_cmp}
use Rattle.ts_part.specs.Facts.{Facts}
use Rattle.ts_chain.specs.Content.{has, triples_of}
use Rattle.ts_chain.specs.Fetches.{fetched, last_of}
use Rattle.ts_chain.specs.Walks.{walked}
use Rattle.ts_chain.proofs.Decided.{less_is, passes, triple_cmp_total}
use Rattle.ts_chain.proofs.WalkedLemmas.{has-walk_of, is_asked, rising-same, rising-triples_of, rising-walk_of, same_triple}

-- ---- rising lists

rising_parts : (x : IdTriple) (ws : List IdTriple) → IsRising (x ∷ ws) → AllByRecursion (λ y. triple_cmp x y ≡ Less) ws × IsRising ws
unfolding IsStrictlySortedBy
rising_parts x ws rising = (rising.0, rising.1)

above_first : (x : IdTriple) (ws : List IdTriple) (t : IdTriple) → AllByRecursion (λ y. triple_cmp x y ≡ Less) ws → has ws t ≡ true → triple_cmp x t ≡ Less
above_first x [] t each there = absurd (true≢false (sym there))
above_first x (y ∷ ws) t each there =
    elim (or_cases (eq_by_cmp triple_cmp t y) (has ws t) there) as (λ _. triple_cmp x t ≡ Less) [
      | inl here ↦ ap (triple_cmp x) (same_triple t y here) ∙ each.0
      | inr later ↦ above_first x ws t each.1 later
    ]

and_false : (b : Bool) → (b && false) ≡ false
and_false true = refl
and_false false = refl

-- what comes behind the first of a rising list is what is greater than it
behind_first : (x : IdTriple) (ws : List IdTriple) (t : IdTriple) → IsRising (x ∷ ws) → has ws t ≡ (is_lt (triple_cmp x t) && has (x ∷ ws) t)
behind_first x ws t rising = by (has ws t) refl
  where
    not_itself : (same : Bool) → eq_by_cmp triple_cmp t x ≡ same → false ≡ (is_lt (triple_cmp x t) && (same || false))
    not_itself true e = sym (ap (λ o. is_lt o && true) (ap (triple_cmp x) (same_triple t x e) ∙ tied_itself triple_cmp_total x))
    not_itself false e = sym (and_false (is_lt (triple_cmp x t)))

    by : (there : Bool) → has ws t ≡ there → there ≡ (is_lt (triple_cmp x t) && (eq_by_cmp triple_cmp t x || there))
    by true e =
        let less = above_first x ws t (rising_parts x ws rising).0 e in
        sym (λ i. is_lt (less i) && or_right (eq_by_cmp triple_cmp t x) true refl i)
    by false e = not_itself (eq_by_cmp triple_cmp t x) refl

asked_less : (f less after h : Bool) → (less ≡ true → after ≡ true) → ((f && less) && h) ≡ (less && ((f && after) && h))
asked_less f true after h follows = ap (λ a. (f && a) && h) (sym (follows refl))
asked_less true false after h follows = refl
asked_less false false after h follows = refl

still_after : (after : Option IdTriple) (x t : IdTriple) → is_after after x ≡ true → is_lt (triple_cmp x t) ≡ true → is_after after t ≡ true
still_after None x t beyond less = refl
still_after (Some a) x t beyond less =
    ap is_lt (triple_cmp_total.trans a x t (less_is (triple_cmp a x) (passes (is_lt (triple_cmp a x)) beyond)) (less_is (triple_cmp x t) (passes (is_lt (triple_cmp x t)) less)))

-- ---- walks

module _ (triples : List IdTriple) (rising : IsRising triples) (pattern : IdPattern) where
  one_on : (after : Option IdTriple) (x : IdTriple) (ws : List IdTriple) → walk_of triples pattern after ≡ x ∷ ws → walk_of triples pattern (Some x) ≡ ws
  one_on after x ws is =
      let up : IsRising (x ∷ ws) = subst IsRising is (rising-walk_of triples pattern after rising) in
      let there : has (walk_of triples pattern after) x ≡ true =
      ap (λ l. has l x) is ∙ or_left (eq_by_cmp triple_cmp x x) (has ws x) (ap is_eq (tied_itself triple_cmp_total x)) in
      let asked : is_asked pattern after x ≡ true = (and_parts (is_asked pattern after x) (has triples x) (sym (has-walk_of triples pattern after x) ∙ there)).0 in
      let beyond : is_after after x ≡ true = (and_parts (fits pattern x) (is_after after x) asked).1 in
      rising-same (walk_of triples pattern (Some x)) ws (rising-walk_of triples pattern (Some x) rising) (rising_parts x ws up).1 (λ t.
      has-walk_of triples pattern (Some x) t
      ∙ asked_less (fits pattern t) (is_lt (triple_cmp x t)) (is_after after t) (has triples t) (λ less. still_after after x t beyond less)
      ∙ ap (λ b. is_lt (triple_cmp x t) && b) (sym (has-walk_of triples pattern after t) ∙ ap (λ l. has l t) is)
      ∙ sym (behind_first x ws t up))

  pub rest_on : (ws : List IdTriple) (after : Option IdTriple) (place : ℕ) (last : IdTriple) → walk_of triples pattern after ≡ ws → slice_get ws place ≡ Some last
      → walk_of triples pattern (Some last) ≡ drop (suc place) ws
  rest_on [] after place last is at = absurd (omega (arith, slice_get_within [] place last at))
  rest_on (x ∷ ws) after zero last is at = subst (λ (t : IdTriple). walk_of triples pattern (Some t) ≡ ws) (ap (λ o. unwrap_or o last) at) (one_on after x ws is)
  rest_on (x ∷ ws) after (suc place) last is at = rest_on ws (Some x) place last (one_on after x ws is) at

  pub left_on : (size : ℕ) (ws : List IdTriple) (after : Option IdTriple) → walk_of triples pattern after ≡ ws → walk_of triples pattern (last_of after (take size ws)) ≡ drop size ws
  left_on zero [] after is = is
  left_on zero (x ∷ ws) after is = is
  left_on (suc size) [] after is = is
  left_on (suc size) (x ∷ ws) after is = left_on size ws (Some x) (one_on after x ws is)

take_none : (ws : List IdTriple) → [] ≡ take 0 ws
take_none [] = refl
take_none (x ∷ ws) = refl

module _ (parts : List Facts) (pattern : IdPattern) where
  pub goes_on : (after : Option IdTriple) (place : ℕ) (last : IdTriple) → slice_get (walked parts pattern after) place ≡ Some last
      → walked parts pattern (Some last) ≡ drop (suc place) (walked parts pattern after)
  goes_on after place last at = rest_on (triples_of parts) (rising-triples_of parts) pattern (walked parts pattern after) after place last refl at

  pub fetches_are : (after : Option IdTriple) (sizes : List ℕ) → fetched parts pattern after sizes ≡ take (sum sizes) (walked parts pattern after)
  fetches_are after [] = take_none (walked parts pattern after)
  fetches_are after (size ∷ sizes) =
      let all = walked parts pattern after in
      ap (λ l. take size all ++ l)
      (fetches_are (last_of after (take size all)) sizes
      ∙ ap (take (sum sizes)) (left_on (triples_of parts) (rising-triples_of parts) pattern size all after refl))
      ∙ sym (take-add size (sum sizes) all)
      ∙ ap (λ count. take count all) (sym (sum_by-cons (λ n. n) size sizes))
