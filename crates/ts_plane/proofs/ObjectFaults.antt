-- The first fault of the last three sections.
use Rattle.std.proofs.Common.{◌≡◌, ℕ, Bool, false, List, [], map, length, nat_eq, sym, ◌∙◌, ap, ap₂, subst, arith, inl, inr}
use Rattle.std.specs.List.Sorted.{IsStrictlyIncreasing}
use Rattle.ts_bits.specs.BitArray.{BitsSay}
use Rattle.ts_bits.specs.Rank.{ones}
use Rattle.ts_log.specs.LogArray.{LogSays, LogSaysOnly}
use Rattle.ts_adjacency.specs.Rows.{IsClosed}
use Rattle.ts_adjacency.specs.Adjacency.{Adjacency, edges}
use Rattle.ts_plane.specs.Groups.{last_marks}
use Rattle.ts_plane.specs.declared.error.OpenError.{OpenError}
use Rattle.ts_plane.specs.declared.error.OpenError.TheVariants.{Fault, Unmarked}
use Rattle.ts_plane.specs.Objects.{AreTurned, EachStands, IsObjectsError, IsObjectsFault, IsObjectsOr, KeepsObjects, ShowEach, with_objects}
use Rattle.ts_plane.specs.Turned.{rising_of, turned}

pub objects_fault : (objects ends pairs : List ℕ) (triples : Adjacency)
    → ((list : List ℕ) → LogSays objects list → list ≡ rising_of triples.rights → ⊥) → IsObjectsFault objects ends pairs triples 5
objects_fault objects ends pairs triples none = record {
  from = omega arith;
  to = omega arith;
  found_objects = [];
  found_rows = record { ends = []; rights = [] };
  before = record { objects_keep = λ h. absurd (omega arith); ends_keep = λ h. absurd (omega arith); pairs_keep = λ h. absurd (omega arith) };
  fault = λ others e r keeps. (let rule = keeps.objects_keep (omega arith) in none others.objects rule.says (rule.exact ∙ ap rising_of r));
}

pub ends_fault : (objects ends pairs : List ℕ) (triples : Adjacency) (list : List ℕ) → LogSays objects list → list ≡ rising_of triples.rights
    → ((bits : List Bool) → BitsSay ends bits → ones bits ≡ length list → length bits ≡ length triples.ends → ¬ IsClosed bits) → IsObjectsFault objects ends pairs triples 6
ends_fault objects ends pairs triples list says exact none = record {
  from = omega arith;
  to = omega arith;
  found_objects = list;
  found_rows = record { ends = []; rights = [] };
  before = record { objects_keep = λ h. record { says = says; exact = exact }; ends_keep = λ h. absurd (omega arith); pairs_keep = λ h. absurd (omega arith) };
  fault = λ others e r keeps.
      (let rule = keeps.ends_keep (omega arith) in
      let same : others.objects ≡ list = (keeps.objects_keep (omega arith)).exact ∙ ap rising_of r ∙ sym exact in
      none others.object_pair_ends rule.says (rule.counted ∙ ap length same) (rule.long ∙ ap length e) rule.closed);
}

pub pairs_fault : (objects ends pairs : List ℕ) (triples : Adjacency) (list : List ℕ) (bits : List Bool) → LogSays objects list → list ≡ rising_of triples.rights
    → BitsSay ends bits → ((others : List Bool) → BitsSay ends others → others ≡ bits) → ones bits ≡ length list → length bits ≡ length triples.ends → IsClosed bits
    → ((numbers : List ℕ) → LogSays pairs numbers → ¬ AreTurned list (record { ends = bits; rights = numbers }) triples) → IsObjectsFault objects ends pairs triples 7
pairs_fault objects ends pairs triples list bits says exact bits_say only counted long closed none = record {
  from = omega arith;
  to = omega arith;
  found_objects = list;
  found_rows = record { ends = bits; rights = [] };
  before = record {
    objects_keep = λ h. record { says = says; exact = exact };
    ends_keep = λ h. record { says = bits_say; counted = counted; long = long; closed = closed };
    pairs_keep = λ h. absurd (omega arith);
  };
  fault = λ others e r keeps.
      (let rule = keeps.pairs_keep (omega arith) in
      let ends_rule = keeps.ends_keep (omega arith) in
      let same : edges (record { ends = others.object_ends; rights = others.pair_objects }) ≡ edges triples = ap₂ (λ a b. edges (record { ends = a; rights = b })) e r in
      none others.object_pairs rule.says (record {
        objects_are = exact;
        ends_are = sym (only others.object_pair_ends ends_rule.says) ∙ rule.rows ∙ ap (λ l. last_marks nat_eq (map (λ edge. edge.0) (turned l))) same;
        rights_are = rule.exact ∙ ap (λ l. map (λ edge. edge.1) (turned l)) same;
      }));
}

pub objects_kept : (objects ends pairs : List ℕ) (triples : Adjacency) (list : List ℕ) (by : Adjacency) → LogSays objects list
    → BitsSay ends by.ends → ones by.ends ≡ length list → length by.ends ≡ length triples.ends → IsClosed by.ends → LogSays pairs by.rights
    → AreTurned list by triples → KeepsObjects objects ends pairs (with_objects triples list by) 8
objects_kept objects ends pairs triples list by says bits_say counted long closed pairs_say are = record {
  objects_keep = λ h. record { says = says; exact = are.objects_are };
  ends_keep = λ h. record { says = bits_say; counted = counted; long = long; closed = closed };
  pairs_keep = λ h. record { says = pairs_say; rows = are.ends_are; exact = are.rights_are };
}

-- which of two sections is at fault, as far as it is told
pub objects_error : (objects ends pairs : List ℕ) (triples : Adjacency) (list : List ℕ) (shown : Bool) (i : ℕ) (error : OpenError) → LogSays objects list
    → ((others : List ℕ) → LogSays objects others → others ≡ list) → IsStrictlyIncreasing list → (shown ≡ false → ¬ ShowEach ends pairs list triples)
    → (list ≡ rising_of triples.rights → IsObjectsFault objects ends pairs triples i) → IsObjectsOr list triples.rights shown i error
    → IsObjectsError objects ends pairs triples error
objects_error objects ends pairs triples list shown i (Fault j) says only rising hidden exact or = elim or [
  | inl is ↦ subst (IsObjectsFault objects ends pairs triples) (sym is.1) (exact is.0)
  | inr not ↦ subst (IsObjectsFault objects ends pairs triples) (sym not.1)
      (objects_fault objects ends pairs triples (λ others said is. not.0 (sym (only others said) ∙ is)))
]
objects_error objects ends pairs triples list shown i (Unmarked j) says only rising hidden exact or = record {
  list = list;
  says = says;
  rising = rising;
  found = or.1;
  hidden = hidden or.2;
  exact = λ is. subst (IsObjectsFault objects ends pairs triples) (sym or.0) (exact is);
  other = λ not. objects_fault objects ends pairs triples (λ others said is. not (sym (only others said) ∙ is));
}
