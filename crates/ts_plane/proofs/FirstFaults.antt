-- The first fault of eight sections.
use Rattle.std.proofs.Common.{ℕ, ◌+◌, ◌<◌, List, arith}
use Rattle.ts_plane.specs.Parts.{PlaneParts}
use Rattle.ts_plane.specs.Rules.{section, SubjectsRule, PairEndsRule, PairPredicatesRule, ObjectEndsRule, PairObjectsRule, KeepsBefore, IsFirstFault}

-- the first five sections keep their rules, as far as they come before section i
pub record KeepsFront (sections : List (List ℕ)) (terms predicates : ℕ) (parts : PlaneParts) (i : ℕ) : Type 0 where
  pub subjects : 0 < i → SubjectsRule (section sections 0) terms parts
  pub pair_ends : 1 < i → PairEndsRule (section sections 1) parts
  pub pair_predicates : 2 < i → PairPredicatesRule (section sections 2) predicates parts
  pub object_ends : 3 < i → ObjectEndsRule (section sections 3) parts
  pub pair_objects : 4 < i → PairObjectsRule (section sections 4) terms parts

pub front_keeps : (sections : List (List ℕ)) (terms predicates : ℕ) (parts : PlaneParts) (i : ℕ) → i < 6 → KeepsFront sections terms predicates parts i → KeepsBefore sections terms predicates parts i
front_keeps sections terms predicates parts i low front = record {
  subjects = front.subjects;
  pair_ends = front.pair_ends;
  pair_predicates = front.pair_predicates;
  object_ends = front.object_ends;
  pair_objects = front.pair_objects;
  objects = λ h. absurd (omega arith);
  object_pair_ends = λ h. absurd (omega arith);
  object_pairs = λ h. absurd (omega arith);
}

pub front_fault : (sections : List (List ℕ)) (terms predicates : ℕ) (parts : PlaneParts) (i : ℕ) → i < 6 → KeepsFront sections terms predicates parts i
    → ((others : PlaneParts) → KeepsBefore sections terms predicates others (i + 1) → ⊥) → IsFirstFault sections terms predicates i
front_fault sections terms predicates parts i low front fault = record {
  one_of_eight = omega arith;
  parts = parts;
  before = front_keeps sections terms predicates parts i low front;
  fault = fault;
}
