-- What the views of the eight sections hold.
use Rattle.ts_plane.specs.declared.sections.Sections.{Sections}
use Rattle.ts_plane.specs.Parts.{PlaneParts}

-- the eight lists
abbrev pub parts_in : Sections → PlaneParts
parts_in v = record {
  subjects = v.subjects;
  pair_ends = v.pairs;
  pair_predicates = v.predicates;
  object_ends = v.triples.ends;
  pair_objects = v.triples.rights;
  objects = v.objects;
  object_pair_ends = v.by_object.ends;
  object_pairs = v.by_object.rights;
}
