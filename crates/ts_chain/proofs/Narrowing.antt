-- Halving towards the part that has a number.
use Rattle.std.proofs.Common.{◌≡◌, ℕ, zero, suc, ◌+◌, ◌<◌, ◌≤◌, List, [], ◌∷◌, All, length, slice_get, None, Some, refl, sym, ◌∙◌, subst, arith}
use Rattle.std.proofs.lemmas.List.Elements.{All-head, All-tail}
use Rattle.std.proofs.lemmas.Option.{slice_get_within}
use Rattle.ts_part.specs.Facts.{Facts}
use Rattle.ts_part.specs.Rules.{KeepsRules}
use Rattle.ts_chain.specs.declared.numbered.Numbered.{Numbered}
use Rattle.ts_chain.specs.declared.numbered.Numbered.TheVariants.{Terms, Predicates}
use Rattle.ts_chain.specs.Chain.{AreLinked, IsChain}
use Rattle.ts_chain.specs.Numbered.{IsPlaceOf, facts_before, total_in}
use Rattle.ts_chain.proofs.Ranges.{goes_on, total_first}

-- the part lies from the one place up to before the other: what is before the first has no fewer numbers before it than this one,
-- what is at the second has fewer
pub record IsNarrowed (numbered : Numbered) (parts : List Facts) (id low high : ℕ) : Type 0 where
  pub ordered : low ≤ high
  pub within : high ≤ length parts
  pub left : (place : ℕ) (part : Facts) → suc place ≡ low → slice_get parts place ≡ Some part → id ≤ facts_before numbered part
  pub right : (part : Facts) → slice_get parts high ≡ Some part → facts_before numbered part < id

same_part : (parts : List Facts) (place : ℕ) (a b : Facts) → slice_get parts place ≡ Some a → slice_get parts place ≡ Some b → a ≡ b
same_part parts place a b at_a at_b = let e : Some a ≡ Some b = sym at_a ∙ at_b in cc

pub narrow_none : (numbered : Numbered) (parts : List Facts) (id high : ℕ) → high ≡ length parts → IsNarrowed numbered parts id 0 high
narrow_none numbered parts id high e = record {
  ordered = omega arith;
  within = omega arith;
  left = λ place part first at. absurd (omega arith);
  right = λ part at. absurd (omega (arith, slice_get_within parts high part at));
}

module _ (numbered : Numbered) (parts : List Facts) (id low high middle : ℕ) (part : Facts) (h : IsNarrowed numbered parts id low high)
    (above : low ≤ middle) (below : middle < high) (at : slice_get parts middle ≡ Some part) where
  pub narrow_high : facts_before numbered part < id → IsNarrowed numbered parts id low middle
  narrow_high fewer = record {
    ordered = above;
    within = omega (arith, h.within);
    left = h.left;
    right = λ other there. subst (λ p. facts_before numbered p < id) (same_part parts middle part other at there) fewer;
  }

  pub narrow_low : id ≤ facts_before numbered part → IsNarrowed numbered parts id (middle + 1) high
  narrow_low enough = record {
    ordered = omega arith;
    within = h.within;
    left = λ place other next there.
        let e : place ≡ middle = omega arith in
        subst (λ p. id ≤ facts_before numbered p) (same_part parts middle part other at (subst (λ i. slice_get parts i ≡ Some other) e there)) enough;
    right = h.right;
  }

-- of a part without parent no number comes before
none_before : (numbered : Numbered) (part : Facts) → KeepsRules part → part.parent ≡ None → facts_before numbered part ≡ 0
none_before Terms part rules none = (rules.lists.header.placed.base none).0
none_before Predicates part rules none = (rules.lists.header.placed.base none).1

module _ (numbered : Numbered) (id : ℕ) (some : 1 ≤ id) where
  found_in : (parts : List Facts) (low : ℕ) → All KeepsRules parts → AreLinked parts → (low ≡ 0 → id ≤ total_in numbered parts)
      → ((place : ℕ) (part : Facts) → suc place ≡ low → slice_get parts place ≡ Some part → id ≤ facts_before numbered part)
      → ((part : Facts) → slice_get parts low ≡ Some part → facts_before numbered part < id) → low ≤ length parts → IsPlaceOf numbered parts id low
  found_in [] low rules linked up left right long = absurd linked
  found_in (part ∷ parts) zero rules linked up left right long =
      record { part = part; stands = refl; above = right part refl; within = omega (arith, up refl, total_first numbered part parts) }
  found_in (part ∷ []) (suc low) rules linked up left right long =
      let first = left 0 part (omega (arith, long)) refl in
      absurd (omega (arith, none_before numbered part (All-head KeepsRules part [] rules) linked))
  found_in (part ∷ next ∷ parts) (suc low) rules linked up left right long =
      let below = found_in (next ∷ parts) low (All-tail KeepsRules part (next ∷ parts) rules) linked.1
      (λ first. omega (arith, left 0 part (omega arith) refl, goes_on numbered part next linked.0, total_first numbered next parts))
      (λ place other is at. left (suc place) other (omega arith) at) (λ other at. right other at) (omega (arith, long)) in
      record { part = below.part; stands = below.stands; above = below.above; within = below.within }

-- where nothing is left to halve, the part is found
pub narrow_all : (numbered : Numbered) (parts : List Facts) (id low high : ℕ) → IsChain parts → 1 ≤ id → id ≤ total_in numbered parts
    → IsNarrowed numbered parts id low high → high ≤ low → IsPlaceOf numbered parts id low
narrow_all numbered parts id low high chain some within h e =
    let same : low ≡ high = omega (arith, h.ordered) in
    found_in numbered id some parts low chain.rules chain.linked (λ _. within) h.left
    (λ part at. h.right part (subst (λ i. slice_get parts i ≡ Some part) same at)) (omega (arith, h.within, h.ordered))
