-- The first fault of a plane of so many triples.
use Rattle.std.proofs.Common.{◌≡◌, ◌≢◌, ℕ, ◌<◌, ◌≤◌, List, length, map, ◌∙◌, ap, arith}
use Rattle.std.proofs.lemmas.List.{length-map}
use Rattle.ts_bits.proofs.Arrays.{says_one}
use Rattle.ts_plane.specs.declared.triple.IdTriple.{IdTriple}
use Rattle.ts_plane.specs.Parts.{PlaneParts, pair_of, parts_of, same_pair}
use Rattle.ts_plane.specs.Rules.{section, KeepsBefore, IsFirstFault}
use Rattle.ts_plane.proofs.GroupMembers.{length-last_marks}
use Rattle.ts_part.specs.Faults.{IsPlaneFault, NeedsMarks}
use Rattle.ts_part.specs.Sections.{PlaneRule}

-- fewer sections keep their rules too
pub keeps_fewer : (sections : List (List ℕ)) (terms predicates : ℕ) (parts : PlaneParts) (i j : ℕ) → j ≤ i → KeepsBefore sections terms predicates parts i
    → KeepsBefore sections terms predicates parts j
keeps_fewer sections terms predicates parts i j less keeps = record {
  subjects = λ h. keeps.subjects (omega arith);
  pair_ends = λ h. keeps.pair_ends (omega arith);
  pair_predicates = λ h. keeps.pair_predicates (omega arith);
  object_ends = λ h. keeps.object_ends (omega arith);
  pair_objects = λ h. keeps.pair_objects (omega arith);
  objects = λ h. keeps.objects (omega arith);
  object_pair_ends = λ h. keeps.object_pair_ends (omega arith);
  object_pairs = λ h. keeps.object_pairs (omega arith);
}

-- the ends of triples say one number of triples
one_count : (sections : List (List ℕ)) (terms predicates : ℕ) (a b : PlaneParts) (i j : ℕ) → 3 < i → 3 < j → KeepsBefore sections terms predicates a i
    → KeepsBefore sections terms predicates b j → length a.object_ends ≡ length b.object_ends
one_count sections terms predicates a b i j high also one two =
    ap length (says_one (section sections 3) a.object_ends b.object_ends (one.object_ends high).says (two.object_ends also).says)

pub wrong_count : (sections : List (List ℕ)) (terms predicates count i : ℕ) (parts : PlaneParts) → 3 < i → KeepsBefore sections terms predicates parts i
    → length parts.object_ends ≢ count → IsPlaneFault terms predicates count sections 3
wrong_count sections terms predicates count i parts high keeps other = record {
  one_of_eight = omega arith;
  parts = parts;
  before = record { keep = keeps_fewer sections terms predicates parts i 3 (omega arith) keeps; counted = λ h. absurd (omega arith) };
  none = λ others rule. other (one_count sections terms predicates parts others i 4 high (omega arith) keeps rule.keep ∙ rule.counted (omega arith));
}

pub plane_fault_of : (sections : List (List ℕ)) (terms predicates count i : ℕ) → (first : IsFirstFault sections terms predicates i)
    → (3 < i → length first.parts.object_ends ≡ count) → IsPlaneFault terms predicates count sections i
plane_fault_of sections terms predicates count i first counted = record {
  one_of_eight = first.one_of_eight;
  parts = first.parts;
  before = record { keep = first.before; counted = counted };
  none = λ others rule. first.fault others rule.keep;
}

-- the fault that marks tell
pub marked_fault : (sections : List (List ℕ)) (terms predicates count later i : ℕ) → NeedsMarks terms predicates count sections later → IsFirstFault sections terms predicates i
    → IsPlaneFault terms predicates count sections i
marked_fault sections terms predicates count later i needs first = plane_fault_of sections terms predicates count i first (λ high.
    one_count sections terms predicates first.parts needs.unmarked.parts i 5 high (omega arith) first.before needs.unmarked.before ∙ needs.counted)

-- the ends of triples are as many as the triples
pub length-object_ends : (triples : List IdTriple) → length (parts_of triples).object_ends ≡ length triples
unfolding parts_of
length-object_ends triples = length-last_marks same_pair (map pair_of triples) ∙ length-map triples pair_of

pub plane_kept : (sections : List (List ℕ)) (terms predicates count : ℕ) (triples : List IdTriple) → KeepsBefore sections terms predicates (parts_of triples) 8
    → length triples ≡ count → PlaneRule terms predicates count sections (parts_of triples) 8
plane_kept sections terms predicates count triples keeps e = record { keep = keeps; counted = λ h. length-object_ends triples ∙ e }
