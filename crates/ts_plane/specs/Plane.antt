-- The plane of a rising list of number triples.
use Rattle.std.specs.Prelude.{◌≡◌, ℕ, List, length, take, drop, map}
use Rattle.ts_bits.specs.BitArray.{BitsSay}
use Rattle.ts_log.specs.LogArray.{LogSays}
use Rattle.ts_wavelet.specs.WaveletTree.{WaveletSays}
use Rattle.ts_plane.specs.declared.triple.IdTriple.{IdTriple}
use Rattle.ts_plane.specs.Triple.{IsPlaneList}
use Rattle.ts_plane.specs.Parts.{PlaneParts, parts_of}
use Rattle.ts_plane.specs.Rules.{section}

-- eight sections say these lists
pub record SectionsSay (sections : List (List ℕ)) (parts : PlaneParts) : Type 0 where
  pub eight : length sections ≡ 8
  pub subjects : LogSays (section sections 0) parts.subjects
  pub pair_ends : BitsSay (section sections 1) parts.pair_ends
  pub pair_predicates : WaveletSays (section sections 2) parts.pair_predicates
  pub object_ends : BitsSay (section sections 3) parts.object_ends
  pub pair_objects : LogSays (section sections 4) parts.pair_objects
  pub objects : LogSays (section sections 5) parts.objects
  pub object_pair_ends : BitsSay (section sections 6) parts.object_pair_ends
  pub object_pairs : LogSays (section sections 7) parts.object_pairs

-- eight sections are the plane of a rising list of triples, each number at least 1
pub record PlaneSays (sections : List (List ℕ)) (triples : List IdTriple) : Type 0 where
  pub list : IsPlaneList triples
  pub say : SectionsSay sections (parts_of triples)

-- the eight sections are the plane of no other list
abbrev pub PlaneSaysOnly : List (List ℕ) → List IdTriple → Type 0
PlaneSaysOnly sections triples = (others : List IdTriple) → PlaneSays sections others → others ≡ triples

-- what lies in a file at these starts, with these lengths
abbrev pub cut : List ℕ → List (ℕ × ℕ) → List (List ℕ)
cut file places = map (λ place. take place.1 (drop place.0 file)) places
