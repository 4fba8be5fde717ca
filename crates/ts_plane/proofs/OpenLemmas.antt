-- What sections that keep their rules say.
use Rattle.std.proofs.Common.{◌≡◌, ℕ, ◌<◌, List, length, sym, subst, arith, All}
use Rattle.ts_adjacency.specs.Rows.{row_of}
use Rattle.ts_adjacency.proofs.RowLemmas.{row_within}
use Rattle.ts_plane.specs.Triple.{IsWithin}
use Rattle.ts_plane.specs.Parts.{PlaneParts}
use Rattle.ts_plane.specs.Decoded.{IsPlane, triples_in}
use Rattle.ts_plane.specs.Plane.{SectionsSay, PlaneSays}
use Rattle.ts_plane.specs.Rules.{KeepsBefore}
use Rattle.ts_plane.proofs.DecodedLemmas.{length-triples_in, triple_of}
use Rattle.ts_plane.proofs.EncodeLemmas.{plane_list}
use Rattle.ts_plane.proofs.ExactLemmas.{parts_exact}

pub kept_plane : (sections : List (List ℕ)) (terms predicates : ℕ) (parts : PlaneParts) → KeepsBefore sections terms predicates parts 8 → IsPlane parts
kept_plane sections terms predicates parts keeps = record {
  list = plane_list sections terms predicates parts keeps;
  exact = parts_exact sections terms predicates parts keeps;
  sections = sections;
  terms = terms;
  predicates = predicates;
  rules = keeps;
}

pub kept_say : (sections : List (List ℕ)) (terms predicates : ℕ) (parts : PlaneParts) → length sections ≡ 8 → KeepsBefore sections terms predicates parts 8
    → PlaneSays sections (triples_in parts)
kept_say sections terms predicates parts eight keeps = record {
  list = plane_list sections terms predicates parts keeps;
  say = subst (SectionsSay sections) (parts_exact sections terms predicates parts keeps) (record {
    eight = eight;
    subjects = (keeps.subjects (omega arith)).says;
    pair_ends = (keeps.pair_ends (omega arith)).says;
    pair_predicates = (keeps.pair_predicates (omega arith)).says;
    object_ends = (keeps.object_ends (omega arith)).says;
    pair_objects = (keeps.pair_objects (omega arith)).says;
    objects = (keeps.objects (omega arith)).says;
    object_pair_ends = (keeps.object_pair_ends (omega arith)).says;
    object_pairs = (keeps.object_pairs (omega arith)).says;
  });
}

pub kept_within : (sections : List (List ℕ)) (terms predicates : ℕ) (parts : PlaneParts) → KeepsBefore sections terms predicates parts 8
    → All (IsWithin terms predicates) (triples_in parts)
kept_within sections terms predicates parts keeps = λ j d h.
    let inside : j < length parts.object_ends = omega (arith, length-triples_in parts) in
    let ends = keeps.object_ends (omega arith) in
    let pair_ends = keeps.pair_ends (omega arith) in
    let symbols = keeps.pair_predicates (omega arith) in
    let objects = keeps.pair_objects (omega arith) in
    let row = row_within parts.object_ends j ends.closed inside in
    let subject_row = row_within parts.pair_ends (row_of parts.object_ends j) pair_ends.closed (omega (arith, row, ends.counted)) in
    subst (IsWithin terms predicates) (sym (triple_of parts j d inside)) (record {
      subject = ((keeps.subjects (omega arith)).bounded (row_of parts.pair_ends (row_of parts.object_ends j)) 0 (omega (arith, subject_row, pair_ends.counted))).1;
      predicate = (symbols.bounded (row_of parts.object_ends j) 0 (omega (arith, row, ends.counted, symbols.counted))).1;
      object = (objects.bounded j 0 (omega (arith, inside, objects.counted))).1;
    })
