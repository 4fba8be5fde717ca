-- Where one of the first five sections is the first fault, and where all eight keep their rules.
use Rattle.std.proofs.Common.{◌≡◌, ℕ, ◌<◌, Bool, List, [], take, drop, length, slice_index_or, ◌∙◌, ap, subst, arith}
use Rattle.std.proofs.lemmas.List.{get_or-map}
use Rattle.std.specs.List.Sorted.{IsStrictlyIncreasing}
use Rattle.ts_bits.specs.BitArray.{BitsSay}
use Rattle.ts_bits.specs.Rank.{ones}
use Rattle.ts_bits.proofs.Arrays.{says_one}
use Rattle.ts_log.specs.LogArray.{LogSays}
use Rattle.ts_log.proofs.SaysLemmas.{one_list_said}
use Rattle.ts_wavelet.specs.WaveletTree.{WaveletSays}
use Rattle.ts_adjacency.specs.Rows.{IsClosed}
use Rattle.ts_adjacency.specs.Adjacency.{Adjacency}
use Rattle.ts_plane.specs.declared.error.OpenError.{OpenError}
use Rattle.ts_plane.specs.declared.error.OpenError.TheVariants.{Fault, Unmarked}
use Rattle.ts_plane.specs.Objects.{IsObjectsError, IsObjectsFault, KeepsObjects, with_objects}
use Rattle.ts_plane.specs.Parts.{PlaneParts}
use Rattle.ts_plane.specs.Plane.{cut}
use Rattle.ts_plane.specs.Rules.{section, IsBounded, RisesInRows, KeepsBefore, IsFirstFault}
use Rattle.ts_plane.specs.Unmarked.{IsOpenError}
use Rattle.ts_plane.proofs.FirstFaults.{KeepsFront, front_fault, front_keeps}

-- a section is what lies at its place
pub section_at : (file : List ℕ) (places : List (ℕ × ℕ)) (i : ℕ) (d : ℕ × ℕ) → i < length places
    → section (cut file places) i ≡ take (slice_index_or places i d).1 (drop (slice_index_or places i d).0 file)
section_at file places i d low = get_or-map (λ place. take place.1 (drop place.0 file)) places i d [] low

pub subjects_fault : (sections : List (List ℕ)) (terms predicates : ℕ) (parts : PlaneParts) → KeepsFront sections terms predicates parts 0
    → ((numbers : List ℕ) → LogSays (section sections 0) numbers → IsStrictlyIncreasing numbers → ¬ IsBounded terms numbers) → IsFirstFault sections terms predicates 0
subjects_fault sections terms predicates parts front none = front_fault sections terms predicates parts 0 (omega arith) front (λ others keeps.
    (let rule = keeps.subjects (omega arith) in none others.subjects rule.says rule.rising rule.bounded))

pub pair_ends_fault : (sections : List (List ℕ)) (terms predicates : ℕ) (parts : PlaneParts) → KeepsFront sections terms predicates parts 1
    → ((ends : List Bool) → BitsSay (section sections 1) ends → ones ends ≡ length parts.subjects → ¬ IsClosed ends) → IsFirstFault sections terms predicates 1
pair_ends_fault sections terms predicates parts front none = front_fault sections terms predicates parts 1 (omega arith) front (λ others keeps.
    (let rule = keeps.pair_ends (omega arith) in
    let same = one_list_said (section sections 0) others.subjects parts.subjects (keeps.subjects (omega arith)).says (front.subjects (omega arith)).says in
    none others.pair_ends rule.says (rule.counted ∙ ap length same) rule.closed))

pub pair_predicates_fault : (sections : List (List ℕ)) (terms predicates : ℕ) (parts : PlaneParts) → KeepsFront sections terms predicates parts 2
    → ((numbers : List ℕ) → WaveletSays (section sections 2) numbers → length numbers ≡ length parts.pair_ends → RisesInRows parts.pair_ends numbers → ¬ IsBounded predicates numbers)
    → IsFirstFault sections terms predicates 2
pair_predicates_fault sections terms predicates parts front none = front_fault sections terms predicates parts 2 (omega arith) front (λ others keeps.
    (let rule = keeps.pair_predicates (omega arith) in
    let same = says_one (section sections 1) others.pair_ends parts.pair_ends (keeps.pair_ends (omega arith)).says (front.pair_ends (omega arith)).says in
    none others.pair_predicates rule.says (rule.counted ∙ ap length same) (subst (λ ends. RisesInRows ends others.pair_predicates) same rule.rising) rule.bounded))

pub object_ends_fault : (sections : List (List ℕ)) (terms predicates : ℕ) (parts : PlaneParts) → KeepsFront sections terms predicates parts 3
    → ((ends : List Bool) → BitsSay (section sections 3) ends → ones ends ≡ length parts.pair_ends → ¬ IsClosed ends) → IsFirstFault sections terms predicates 3
object_ends_fault sections terms predicates parts front none = front_fault sections terms predicates parts 3 (omega arith) front (λ others keeps.
    (let rule = keeps.object_ends (omega arith) in
    let same = says_one (section sections 1) others.pair_ends parts.pair_ends (keeps.pair_ends (omega arith)).says (front.pair_ends (omega arith)).says in
    none others.object_ends rule.says (rule.counted ∙ ap length same) rule.closed))

pub pair_objects_fault : (sections : List (List ℕ)) (terms predicates : ℕ) (parts : PlaneParts) → KeepsFront sections terms predicates parts 4
    → ((numbers : List ℕ) → LogSays (section sections 4) numbers → length numbers ≡ length parts.object_ends → RisesInRows parts.object_ends numbers → ¬ IsBounded terms numbers)
    → IsFirstFault sections terms predicates 4
pair_objects_fault sections terms predicates parts front none = front_fault sections terms predicates parts 4 (omega arith) front (λ others keeps.
    (let rule = keeps.pair_objects (omega arith) in
    let same = says_one (section sections 3) others.object_ends parts.object_ends (keeps.object_ends (omega arith)).says (front.object_ends (omega arith)).says in
    none others.pair_objects rule.says (rule.counted ∙ ap length same) (subst (λ ends. RisesInRows ends others.pair_objects) same rule.rising) rule.bounded))

-- the lists of these triples and objects, beside the first three of others
abbrev pub front_with : PlaneParts → List ℕ → Adjacency → PlaneParts
front_with parts objects by_object = record {
  subjects = parts.subjects;
  pair_ends = parts.pair_ends;
  pair_predicates = parts.pair_predicates;
  object_ends = parts.object_ends;
  pair_objects = parts.pair_objects;
  objects = objects;
  object_pair_ends = by_object.ends;
  object_pairs = by_object.rights;
}

pub all_keep : (sections : List (List ℕ)) (terms predicates : ℕ) (parts : PlaneParts) (objects : List ℕ) (by_object : Adjacency) (i : ℕ)
    → KeepsFront sections terms predicates parts 5
    → KeepsObjects (section sections 5) (section sections 6) (section sections 7) (with_objects (record { ends = parts.object_ends; rights = parts.pair_objects }) objects by_object) i
    → KeepsBefore sections terms predicates (front_with parts objects by_object) i
all_keep sections terms predicates parts objects by_object i front kept = record {
  subjects = λ h. (let r = front.subjects (omega arith) in record { says = r.says; rising = r.rising; bounded = r.bounded });
  pair_ends = λ h. (let r = front.pair_ends (omega arith) in record { says = r.says; counted = r.counted; closed = r.closed });
  pair_predicates = λ h. (let r = front.pair_predicates (omega arith) in record { says = r.says; counted = r.counted; rising = r.rising; bounded = r.bounded });
  object_ends = λ h. (let r = front.object_ends (omega arith) in record { says = r.says; counted = r.counted; closed = r.closed });
  pair_objects = λ h. (let r = front.pair_objects (omega arith) in record { says = r.says; counted = r.counted; rising = r.rising; bounded = r.bounded });
  objects = λ h. (let r = kept.objects_keep h in record { says = r.says; exact = r.exact });
  object_pair_ends = λ h. (let r = kept.ends_keep h in record { says = r.says; counted = r.counted; long = r.long; closed = r.closed });
  object_pairs = λ h. (let r = kept.pairs_keep h in record { says = r.says; rows = r.rows; exact = r.exact });
}

pub objects_fault : (sections : List (List ℕ)) (terms predicates : ℕ) (parts : PlaneParts) (i : ℕ) → KeepsFront sections terms predicates parts 5
    → IsObjectsFault (section sections 5) (section sections 6) (section sections 7) (record { ends = parts.object_ends; rights = parts.pair_objects }) i
    → IsFirstFault sections terms predicates i
objects_fault sections terms predicates parts i front fault = record {
  one_of_eight = fault.to;
  parts = front_with parts fault.found_objects fault.found_rows;
  before = all_keep sections terms predicates parts fault.found_objects fault.found_rows i front fault.before;
  fault = λ others keeps.
      (let from = fault.from in
      let ends_same = says_one (section sections 3) others.object_ends parts.object_ends (keeps.object_ends (omega (arith, from))).says (front.object_ends (omega arith)).says in
      let rights_same = one_list_said (section sections 4) others.pair_objects parts.pair_objects (keeps.pair_objects (omega (arith, from))).says (front.pair_objects (omega arith)).says in
      fault.fault others ends_same rights_same (record { objects_keep = keeps.objects; ends_keep = keeps.object_pair_ends; pairs_keep = keeps.object_pairs }));
}

pub objects_error : (sections : List (List ℕ)) (terms predicates : ℕ) (parts : PlaneParts) (error : OpenError) → KeepsFront sections terms predicates parts 5
    → IsObjectsError (section sections 5) (section sections 6) (section sections 7) (record { ends = parts.object_ends; rights = parts.pair_objects }) error
    → IsOpenError sections terms predicates error
objects_error sections terms predicates parts (Fault i) front fault = objects_fault sections terms predicates parts i front fault
objects_error sections terms predicates parts (Unmarked i) front needs = record {
  parts = parts;
  before = front_keeps sections terms predicates parts 5 (omega arith) front;
  objects = needs.list;
  say = needs.says;
  rising = needs.rising;
  found = needs.found;
  hidden = needs.hidden;
  exact = λ is. objects_fault sections terms predicates parts i front (needs.exact is);
  other = λ not. objects_fault sections terms predicates parts 5 front (needs.other not);
}
