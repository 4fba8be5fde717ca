-- A plane's lists keep the rules.
use Rattle.std.proofs.Common.{arith}
use Rattle.ts_plane.specs.Parts.{PlaneParts}
use Rattle.ts_plane.specs.Decoded.{IsPlane}
use Rattle.ts_plane.specs.Kept.{KeepsRules}

pub kept_of : (parts : PlaneParts) → IsPlane parts → KeepsRules parts
kept_of parts plane =
    let first = plane.rules.subjects (omega arith) in
    let second = plane.rules.pair_ends (omega arith) in
    let third = plane.rules.pair_predicates (omega arith) in
    let fourth = plane.rules.object_ends (omega arith) in
    let fifth = plane.rules.pair_objects (omega arith) in
    let sixth = plane.rules.objects (omega arith) in
    let seventh = plane.rules.object_pair_ends (omega arith) in
    let eighth = plane.rules.object_pairs (omega arith) in
    record {
      subjects_rise = first.rising;
      subject_rows = second.counted;
      pairs_closed = second.closed;
      predicates_counted = third.counted;
      predicates_rise = third.rising;
      pair_rows = fourth.counted;
      triples_closed = fourth.closed;
      objects_counted = fifth.counted;
      objects_rise = fifth.rising;
      objects = sixth.exact;
      object_rows = seventh.counted;
      by_object_long = seventh.long;
      by_object_closed = seventh.closed;
      by_object_rows = eighth.rows;
      by_object = eighth.exact;
    }
