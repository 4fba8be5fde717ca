-- The triples of those lines of a list of which something holds.
use Rattle.std.proofs.Common.{◌≡◌, ℕ, ◌+◌, ◌<◌, inl, inr, List, [], ◌∷◌, ◌++◌, map, take, length, get_or, Bor, Contains, refl, sym, ap, ◌∙◌, subst, arith}
use Rattle.std.specs.List.{AllByRecursion}
use Rattle.std.specs.List.Sorted.{IsStrictlySortedBy}
use Rattle.std.specs.declared.cmp.Ordering.TheVariants.{Less}
use Rattle.std.proofs.lemmas.List.{map-append, take_more}
use Rattle.ts_model.specs.declared.signed.SignedTriple.{SignedTriple}
use Rattle.ts_model.specs.TextTriple.{TextTriple}
use Rattle.ts_model.specs.Order.{triple_cmp}
use Rattle.ts_chain.proofs.Elements.{contains_first, contains_rest}
use Rattle.ts_builder.specs.Picks.{Picks}

-- ---- one element more

pub one_more : {X : Type 0} (lines : List (Bor X)) (i : ℕ) (line : Bor X) → i < length lines → line ≡ get_or lines i line
    → map (λ (b : Bor X). b.now) (take (i + 1) lines) ≡ map (λ (b : Bor X). b.now) (take i lines) ++ (line.now ∷ [])
one_more {X} lines i line below is =
    ap (map (λ (b : Bor X). b.now)) (take_more lines i line below ∙ ap (λ l. take i lines ++ l ∷ []) (sym is)) ∙ map-append (λ (b : Bor X). b.now) (take i lines) (line ∷ [])

-- ---- what is picked

module _ (P : SignedTriple → Type 0) where
  pub picks_one : (lines : List SignedTriple) (triples : List TextTriple) (line : SignedTriple) → Picks P lines triples → P line → Picks P (lines ++ line ∷ []) (triples ++ line.triple ∷ [])
  picks_one [] triples line none is = inr (is, ([], ap (λ ts. ts ++ line.triple ∷ []) none, refl))
  picks_one (l ∷ ls) triples line (inl skip) is = inl (skip.0, picks_one ls triples line skip.1 is)
  picks_one (l ∷ ls) triples line (inr chosen) is = inr (chosen.0, (chosen.1.0 ++ line.triple ∷ [], ap (λ ts. ts ++ line.triple ∷ []) chosen.1.1, picks_one ls chosen.1.0 line chosen.1.2 is))

  pub picks_none : (lines : List SignedTriple) (triples : List TextTriple) (line : SignedTriple) → Picks P lines triples → ¬ P line → Picks P (lines ++ line ∷ []) triples
  picks_none [] triples line none is = inl (is, none)
  picks_none (l ∷ ls) triples line (inl skip) is = inl (skip.0, picks_none ls triples line skip.1 is)
  picks_none (l ∷ ls) triples line (inr chosen) is = inr (chosen.0, (chosen.1.0, chosen.1.1, picks_none ls chosen.1.0 line chosen.1.2 is))

  pub picked_from : (lines : List SignedTriple) (triples : List TextTriple) → Picks P lines triples → (q : TextTriple) → Contains triples q
      → (line : SignedTriple) × Contains lines line × (line.triple ≡ q) × P line
  picked_from [] triples none q h = let empty : length triples ≡ 0 = ap length none in absurd (omega (arith, h.1))
  picked_from (l ∷ ls) triples (inl skip) q h = let found = picked_from ls triples skip.1 q h in (found.0, contains_rest l ls found.0 found.1, found.2, found.3)
  picked_from (l ∷ ls) triples (inr chosen) q h =
      elim (contains_first l.triple chosen.1.0 q (subst (λ ts. Contains ts q) chosen.1.1 h)) as (λ _. (line : SignedTriple) × Contains (l ∷ ls) line × (line.triple ≡ q) × P line) [
        | inl is ↦ (l, (0, omega arith, refl), is, chosen.0)
        | inr later ↦ (let found = picked_from ls chosen.1.0 chosen.1.2 q later in (found.0, contains_rest l ls found.0 found.1, found.2, found.3))
      ]

  pub picked_to : (lines : List SignedTriple) (triples : List TextTriple) → Picks P lines triples → (line : SignedTriple) → Contains lines line → P line → Contains triples line.triple
  picked_to [] triples none line h is = absurd (omega (arith, h.1))
  picked_to (l ∷ ls) triples (inl skip) line h is =
      elim (contains_first l ls line h) as (λ _. Contains triples line.triple) [
        | inl here ↦ absurd (skip.0 (subst P (sym here) is))
        | inr later ↦ picked_to ls triples skip.1 line later is
      ]
  picked_to (l ∷ ls) triples (inr chosen) line h is =
      subst (λ ts. Contains ts line.triple) (sym chosen.1.1) (
      elim (contains_first l ls line h) as (λ _. Contains (l.triple ∷ chosen.1.0) line.triple) [
        | inl here ↦ (0, omega arith, ap (λ (line : SignedTriple). line.triple) here)
        | inr later ↦ contains_rest l.triple chosen.1.0 line.triple (picked_to ls chosen.1.0 chosen.1.2 line later is)
      ])

  each_picked : (Q : TextTriple → Type 0) (lines : List SignedTriple) (triples : List TextTriple) → Picks P lines triples
      → AllByRecursion Q (map (λ (line : SignedTriple). line.triple) lines) → AllByRecursion Q triples
  each_picked Q [] triples none each = subst (AllByRecursion Q) (sym none) tt
  each_picked Q (l ∷ ls) triples (inl skip) each = each_picked Q ls triples skip.1 each.1
  each_picked Q (l ∷ ls) triples (inr chosen) each = subst (AllByRecursion Q) (sym chosen.1.1) (each.0, each_picked Q ls chosen.1.0 chosen.1.2 each.1)

  pub picked_rise : (lines : List SignedTriple) (triples : List TextTriple) → Picks P lines triples
      → IsStrictlySortedBy triple_cmp (map (λ (line : SignedTriple). line.triple) lines) → IsStrictlySortedBy triple_cmp triples
  unfolding IsStrictlySortedBy
  picked_rise [] triples none rise = subst (IsStrictlySortedBy triple_cmp) (sym none) tt
  picked_rise (l ∷ ls) triples (inl skip) rise = picked_rise ls triples skip.1 rise.1
  picked_rise (l ∷ ls) triples (inr chosen) rise =
      subst (IsStrictlySortedBy triple_cmp) (sym chosen.1.1) (each_picked (λ q. triple_cmp l.triple q ≡ Less) ls chosen.1.0 chosen.1.2 rise.0, picked_rise ls chosen.1.0 chosen.1.2 rise.1)
