-- Sections that say a list keep the rules.
use Rattle.std.proofs.Common.{◌≡◌, ℕ, ◌≤◌, List, map, ◌∙◌, ap, arith, All, nat_eq}
use Rattle.std.specs.List.{dedup}
use Rattle.ts_plane.specs.declared.triple.IdTriple.{IdTriple}
use Rattle.ts_plane.specs.Triple.{IsPositive, IsWithin}
use Rattle.ts_plane.specs.Kept.{KeepsRules}
use Rattle.ts_plane.specs.Parts.{pair_of, same_pair, pairs_of, parts_of}
use Rattle.ts_plane.specs.Plane.{PlaneSays}
use Rattle.ts_plane.specs.Rules.{IsBounded, KeepsBefore}
use Rattle.ts_plane.proofs.Members.{IsMade, from_map}
use Rattle.ts_plane.proofs.GroupMembers.{from_dedup}
use Rattle.ts_plane.proofs.PartLemmas.{second, all_members, member_of_all}
use Rattle.ts_plane.proofs.RulesOf.{rules_of}

subjects_bounded : (terms predicates : ℕ) (triples : List IdTriple) → All IsPositive triples → All (IsWithin terms predicates) triples
    → IsBounded terms (parts_of triples).subjects
unfolding parts_of
subjects_bounded terms predicates triples positive within =
    all_members (λ x. (1 ≤ x) × (x ≤ terms)) (dedup nat_eq (map (λ (t : IdTriple). t.s) triples)) (λ x h.
    (let made : IsMade (λ (t : IdTriple). t.s) triples x = from_map (λ (t : IdTriple). t.s) x triples (from_dedup nat_eq x (map (λ (t : IdTriple). t.s) triples) h) in
    let low = (member_of_all IsPositive triples made.of positive made.inside).subject in
    let high = (member_of_all (IsWithin terms predicates) triples made.of within made.inside).subject in
    (omega (arith, made.is, low), omega (arith, made.is, high))))

predicates_bounded : (terms predicates : ℕ) (triples : List IdTriple) → All IsPositive triples → All (IsWithin terms predicates) triples
    → IsBounded predicates (parts_of triples).pair_predicates
unfolding parts_of pairs_of
predicates_bounded terms predicates triples positive within =
    all_members (λ x. (1 ≤ x) × (x ≤ predicates)) (map second (dedup same_pair (map pair_of triples))) (λ x h.
    (let made : IsMade second (dedup same_pair (map pair_of triples)) x = from_map second x (dedup same_pair (map pair_of triples)) h in
    let from : IsMade pair_of triples made.of = from_map pair_of made.of triples (from_dedup same_pair made.of (map pair_of triples) made.inside) in
    let is : x ≡ from.of.p = made.is ∙ ap second from.is in
    let low = (member_of_all IsPositive triples from.of positive from.inside).predicate in
    let high = (member_of_all (IsWithin terms predicates) triples from.of within from.inside).predicate in
    (omega (arith, is, low), omega (arith, is, high))))

objects_bounded : (terms predicates : ℕ) (triples : List IdTriple) → All IsPositive triples → All (IsWithin terms predicates) triples
    → IsBounded terms (parts_of triples).pair_objects
unfolding parts_of
objects_bounded terms predicates triples positive within =
    all_members (λ x. (1 ≤ x) × (x ≤ terms)) (map (λ (t : IdTriple). t.o) triples) (λ x h.
    (let made : IsMade (λ (t : IdTriple). t.o) triples x = from_map (λ (t : IdTriple). t.o) x triples h in
    let low = (member_of_all IsPositive triples made.of positive made.inside).object in
    let high = (member_of_all (IsWithin terms predicates) triples made.of within made.inside).object in
    (omega (arith, made.is, low), omega (arith, made.is, high))))

-- sections that say a list within the bounds keep their rules
pub said_keeps : (sections : List (List ℕ)) (terms predicates : ℕ) (triples : List IdTriple) → PlaneSays sections triples → All (IsWithin terms predicates) triples
    → KeepsBefore sections terms predicates (parts_of triples) 8
said_keeps sections terms predicates triples says within =
    let rules : KeepsRules (parts_of triples) = rules_of triples says.list in
    let say = says.say in
    record {
      subjects = λ _. record {
        says = say.subjects;
        rising = rules.subjects_rise;
        bounded = subjects_bounded terms predicates triples says.list.positive within;
      };
      pair_ends = λ _. record {
        says = say.pair_ends;
        counted = rules.subject_rows;
        closed = rules.pairs_closed;
      };
      pair_predicates = λ _. record {
        says = say.pair_predicates;
        counted = rules.predicates_counted;
        rising = rules.predicates_rise;
        bounded = predicates_bounded terms predicates triples says.list.positive within;
      };
      object_ends = λ _. record {
        says = say.object_ends;
        counted = rules.pair_rows;
        closed = rules.triples_closed;
      };
      pair_objects = λ _. record {
        says = say.pair_objects;
        counted = rules.objects_counted;
        rising = rules.objects_rise;
        bounded = objects_bounded terms predicates triples says.list.positive within;
      };
      objects = λ _. record {
        says = say.objects;
        exact = rules.objects;
      };
      object_pair_ends = λ _. record {
        says = say.object_pair_ends;
        counted = rules.object_rows;
        long = rules.by_object_long;
        closed = rules.by_object_closed;
      };
      object_pairs = λ _. record {
        says = say.object_pairs;
        rows = rules.by_object_rows;
        exact = rules.by_object;
      };
    }
