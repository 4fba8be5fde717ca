-- Walks by their patterns.
use Rattle.std.proofs.Common.{◌≡◌, ℕ, ◌-◌, Bool, true, false, ◌&&◌, eqb, Option, None, Some, length, map, refl, sym, ap, ◌∙◌, arith}
use Rattle.std.proofs.lemmas.Bool.{and_right}
use Rattle.std.specs.List.{filter, range_with_len}
use Rattle.ts_adjacency.specs.Rows.{row_of}
use Rattle.ts_plane.specs.declared.triple.IdTriple.{IdTriple}
use Rattle.ts_plane.specs.declared.pattern.IdPattern.{IdPattern}
use Rattle.ts_plane.specs.Parts.{PlaneParts}
use Rattle.ts_plane.specs.Decoded.{triple_at, triples_in}
use Rattle.ts_plane.specs.Pattern.{part_fits, fits, is_after, walk_of}
use Rattle.ts_plane.specs.Lookups.{IsRun, pair_at, pair_fits, triples_between}
use Rattle.ts_plane.specs.Cursors.{with_predicate}
use Rattle.ts_plane.proofs.Runs.{filter_part}

abbrev pub made_pattern : Option ℕ → Option ℕ → Option ℕ → IdPattern
made_pattern s p o = record { s = s; p = p; o = o }

-- a pattern by its parts
pub same_pattern : (pattern : IdPattern) (s p o : Option ℕ) → pattern.s ≡ s → pattern.p ≡ p → pattern.o ≡ o → made_pattern s p o ≡ pattern
same_pattern pattern s p o e f g =
    sym (ap (λ x. made_pattern x pattern.p pattern.o) e ∙ ap (λ x. made_pattern s x pattern.o) f ∙ ap (λ x. made_pattern s p x) g)

-- tests that agree have the same run
pub run_same : (p q : ℕ → Bool) (n from to : ℕ) → ((j : ℕ) → q j ≡ p j) → IsRun p n from to → IsRun q n from to
run_same p q n from to same run = record {
  ordered = run.ordered;
  within = run.within;
  before = λ j h. same j ∙ run.before j h;
  inside = λ j l h. same j ∙ run.inside j l h;
  behind = λ j l h. same j ∙ run.behind j l h;
}

and_true : (b : Bool) → (b && true) ≡ b
and_true true = refl
and_true false = refl

-- of a subject, or of none
pub run_of_subject : (parts : PlaneParts) (s : Option ℕ) (from to : ℕ) → IsRun (λ j. part_fits s (pair_at parts (row_of parts.object_ends j)).0) (length parts.object_ends) from to
    → IsRun (λ j. fits (made_pattern s None None) (triple_at parts j)) (length parts.object_ends) from to
run_of_subject parts s from to run =
    run_same (λ j. part_fits s (pair_at parts (row_of parts.object_ends j)).0) (λ j. fits (made_pattern s None None) (triple_at parts j)) (length parts.object_ends) from to
    (λ j. and_true (part_fits s (triple_at parts j).s && true) ∙ and_true (part_fits s (triple_at parts j).s)) run

-- of a subject and a predicate
pub run_of_pair : (parts : PlaneParts) (s p from to : ℕ) → IsRun (λ j. pair_fits (Some s) (Some p) (pair_at parts (row_of parts.object_ends j))) (length parts.object_ends) from to
    → IsRun (λ j. fits (made_pattern (Some s) (Some p) None) (triple_at parts j)) (length parts.object_ends) from to
run_of_pair parts s p from to run =
    run_same (λ j. pair_fits (Some s) (Some p) (pair_at parts (row_of parts.object_ends j))) (λ j. fits (made_pattern (Some s) (Some p) None) (triple_at parts j)) (length parts.object_ends) from to
    (λ j. and_true (eqb s (triple_at parts j).s && eqb p (triple_at parts j).p)) run

passed : (b c : Bool) → c ≡ true → (((true && b) && true) && c) ≡ b
passed true true h = refl
passed false true h = refl
passed b false h = absurd (cc (h))

-- a predicate alone
pub predicate_walk : (parts : PlaneParts) (p : ℕ) (after : Option IdTriple) (start : ℕ) → IsRun (λ j. is_after after (triple_at parts j)) (length parts.object_ends) start (length parts.object_ends)
    → with_predicate parts p start ≡ walk_of (triples_in parts) (made_pattern None (Some p) None) after
unfolding with_predicate triples_between walk_of triples_in
predicate_walk parts p after start later =
    sym (ap (λ n. filter (λ (t : IdTriple). ((true && eqb p t.p) && true) && is_after after t) (map (triple_at parts) (range_with_len 0 n))) (let e : length parts.object_ends ≡ length parts.object_ends - 0 = omega arith in e)
    ∙ filter_part (λ (t : IdTriple). ((true && eqb p t.p) && true) && is_after after t) (λ (t : IdTriple). eqb p t.p) (triple_at parts) 0 (length parts.object_ends) start (length parts.object_ends)
    (omega arith) later.ordered (omega arith)
    (λ j l h. and_right ((true && eqb p (triple_at parts j).p) && true) (is_after after (triple_at parts j)) (later.before j h))
    (λ j l h. passed (eqb p (triple_at parts j).p) (is_after after (triple_at parts j)) (later.inside j l h))
    (λ j l h. absurd (omega arith)))
