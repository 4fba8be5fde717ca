-- The triples of a run of places, one after another.
use Rattle.std.proofs.Common.{◌≡◌, ℕ, suc, ◌+◌, ◌-◌, ◌<◌, ◌≤◌, true, ◌&&◌, eqb, Option, Some, [], ◌∷◌, length, map, get_or, refl, sym, ap, ◌∙◌, arith, inl, inr}
use Rattle.std.proofs.lemmas.Bool.{cases_lt, eqb-true, eq-eqb, and_parts, and_from, both_ways}
use Rattle.std.specs.List.{Contains, range_with_len}
use Rattle.ts_adjacency.specs.Rows.{row_of}
use Rattle.ts_plane.specs.declared.triple.IdTriple.{IdTriple}
use Rattle.ts_plane.specs.declared.pattern.IdPattern.{IdPattern}
use Rattle.ts_plane.specs.Parts.{PlaneParts}
use Rattle.ts_plane.specs.Decoded.{triple_at, triples_in}
use Rattle.ts_plane.specs.Pattern.{fits, is_after, walk_of}
use Rattle.ts_plane.specs.Lookups.{IsRun, pair_at, triples_between}
use Rattle.ts_plane.specs.Cursors.{StandsInRange}
use Rattle.ts_plane.proofs.DecodedLemmas.{length-triples_in, triple_of}
use Rattle.ts_plane.proofs.Runs.{filter_run, run_since}

-- a triple by its parts
abbrev made : ℕ → ℕ → ℕ → IdTriple
made s p o = record { s = s; p = p; o = o }

-- triples of the same parts
pub same_triple : (a b : IdTriple) → a.s ≡ b.s → a.p ≡ b.p → a.o ≡ b.o → a ≡ b
same_triple a b s p o = ap (λ x. made x a.p a.o) s ∙ ap (λ x. made b.s x a.o) p ∙ ap (λ x. made b.s b.p x) o

-- the first, and those behind it
pub between_more : (parts : PlaneParts) (place end : ℕ) → place < end → triples_between parts place end ≡ triple_at parts place ∷ triples_between parts (place + 1) end
unfolding triples_between
between_more parts place end h =
    let e : end - place ≡ suc (end - (place + 1)) = omega arith in
    ap (λ n. map (triple_at parts) (range_with_len place n)) e

pub between_none : (parts : PlaneParts) (place end : ℕ) → end ≤ place → triples_between parts place end ≡ []
unfolding triples_between
between_none parts place end h =
    let e : end - place ≡ 0 = omega arith in
    ap (λ n. map (triple_at parts) (range_with_len place n)) e

-- a step
pub range_next : (parts : PlaneParts) (place end s p o : ℕ) → StandsInRange parts place end s p → place < end → o ≡ get_or parts.pair_objects place 0
    → triples_between parts place end ≡ record { s = s; p = p; o = o } ∷ triples_between parts (place + 1) end
range_next parts place end s p o stands h here =
    between_more parts place end h
    ∙ ap (λ t. t ∷ triples_between parts (place + 1) end) (sym (same_triple (record { s = s; p = p; o = o }) (triple_at parts place) (stands.subject h) (stands.predicate h) here))

-- the next triple has the same pair
pub range_stays : (parts : PlaneParts) (place end s p : ℕ) → StandsInRange parts place end s p → place < end
    → (place + 1 < end → row_of parts.object_ends (place + 1) ≡ row_of parts.object_ends place) → StandsInRange parts (place + 1) end s p
range_stays parts place end s p stands h same = record {
  kept = stands.kept;
  ordered = omega arith;
  within = stands.within;
  subject = λ more. stands.subject h ∙ ap (λ k. (pair_at parts k).0) (sym (same more));
  predicate = λ more. stands.predicate h ∙ ap (λ k. (pair_at parts k).1) (sym (same more));
}

-- the triples of a run that are after one
pub walk_run : (parts : PlaneParts) (pattern : IdPattern) (after : Option IdTriple) (from to start place : ℕ)
    → IsRun (λ j. fits pattern (triple_at parts j)) (length parts.object_ends) from to → IsRun (λ j. is_after after (triple_at parts j)) (length parts.object_ends) start (length parts.object_ends)
    → (start ≤ from → place ≡ from) → (from ≤ start → start ≤ to → place ≡ start) → (to ≤ start → place ≡ to)
    → triples_between parts place to ≡ walk_of (triples_in parts) pattern after
unfolding walk_of triples_in triples_between
walk_run parts pattern after from to start place run later first second third =
    sym (filter_run (λ t. fits pattern t && is_after after t) (triple_at parts) (length parts.object_ends) place to
    (run_since (λ j. fits pattern (triple_at parts j)) (λ j. is_after after (triple_at parts j)) (length parts.object_ends) from to start place run later first second third))

-- a triple stands where a run of it has a place
pub contains_from : (parts : PlaneParts) (t : IdTriple) (from to : ℕ) → IsRun (λ j. fits (record { s = Some t.s; p = Some t.p; o = Some t.o }) (triple_at parts j)) (length parts.object_ends) from to
    → from < to → Contains (triples_in parts) t
contains_from parts t from to run some =
    let fit = run.inside from (omega arith) some in
    let first = and_parts (eqb t.s (triple_at parts from).s && eqb t.p (triple_at parts from).p) (eqb t.o (triple_at parts from).o) fit in
    let second = and_parts (eqb t.s (triple_at parts from).s) (eqb t.p (triple_at parts from).p) first.0 in
    let here : from < length parts.object_ends = omega (arith, run.within) in (
      from,
      omega (arith, length-triples_in parts),
      triple_of parts from t here ∙ sym (same_triple t (triple_at parts from) (eqb-true t.s (triple_at parts from).s second.0) (eqb-true t.p (triple_at parts from).p second.1) (eqb-true t.o (triple_at parts from).o first.1)),
    )

pub contains_since : (parts : PlaneParts) (t : IdTriple) (from to : ℕ) → IsRun (λ j. fits (record { s = Some t.s; p = Some t.p; o = Some t.o }) (triple_at parts j)) (length parts.object_ends) from to
    → Contains (triples_in parts) t → from < to
contains_since parts t from to run there =
    let here : there.0 < length parts.object_ends = omega (arith, there.1, length-triples_in parts) in
    let same : triple_at parts there.0 ≡ t = sym (triple_of parts there.0 t here) ∙ there.2 in
    let fit : fits (record { s = Some t.s; p = Some t.p; o = Some t.o }) (triple_at parts there.0) ≡ true =
    ap (λ u. fits (record { s = Some t.s; p = Some t.p; o = Some t.o }) u) same
    ∙ and_from (eqb t.s t.s && eqb t.p t.p) (eqb t.o t.o) (and_from (eqb t.s t.s) (eqb t.p t.p) (eq-eqb t.s t.s refl) (eq-eqb t.p t.p refl)) (eq-eqb t.o t.o refl) in
    elim (cases_lt there.0 from) [
      | inl low ↦ absurd (both_ways (fits (record { s = Some t.s; p = Some t.p; o = Some t.o }) (triple_at parts there.0)) (run.before there.0 low) fit)
      | inr not ↦ elim (cases_lt there.0 to) [
        | inl high ↦ omega arith
        | inr behind ↦ absurd (both_ways (fits (record { s = Some t.s; p = Some t.p; o = Some t.o }) (triple_at parts there.0)) (run.behind there.0 behind here) fit)
      ]
    ]
