-- The one file of facts, and the facts whose numbers and lengths fit its fields.
use Rattle.std.specs.Prelude.{ℕ, ◌+◌, ◌*◌, ◌^◌, ◌<◌, List, [], ◌∷◌, ◌++◌, length, flat_map, All}
use Rattle.ts_bits.specs.BitArray.{bit_array_of}
use Rattle.ts_front.specs.Dictionary.{dictionary_bytes, dictionary_starts}
use Rattle.ts_idmap.specs.IdMap.{map_of}
use Rattle.ts_log.specs.LogArray.{log_array_of, width_of}
use Rattle.ts_plane.specs.declared.triple.IdTriple.{IdTriple}
use Rattle.ts_plane.specs.Parts.{parts_of}
use Rattle.ts_wavelet.specs.WaveletTree.{wavelet_of}
use Rattle.ts_part.specs.declared.header.Header.{Header}
use Rattle.ts_part.specs.declared.header.PartKind.{PartKind}
use Rattle.ts_part.specs.declared.header.PartKind.TheVariants.{Layer, Rollup}
use Rattle.ts_part.specs.Facts.{Facts, spellings}
use Rattle.ts_part.specs.Header.{FitsHeader, header_bytes, header_of}
use Rattle.ts_part.specs.Layout.{first_start, padded, rows_from}

-- a header, the table and the sections
abbrev pub file_of : Header → List (List ℕ) → List ℕ
file_of h sections = header_bytes h ++ rows_from 1 (first_start (length sections)) sections ++ flat_map padded sections

-- how long such a file is
abbrev pub size_of : List (List ℕ) → ℕ
size_of sections = first_start (length sections) + length (flat_map padded sections)

abbrev pub dictionary_sections : List (List ℕ) → List (List ℕ)
dictionary_sections texts = dictionary_starts texts ∷ dictionary_bytes texts ∷ []

abbrev pub plane_sections : List IdTriple → List (List ℕ)
plane_sections triples =
    log_array_of (parts_of triples).subjects
    ∷ bit_array_of (parts_of triples).pair_ends
    ∷ wavelet_of (width_of (parts_of triples).pair_predicates) (parts_of triples).pair_predicates
    ∷ bit_array_of (parts_of triples).object_ends
    ∷ log_array_of (parts_of triples).pair_objects
    ∷ log_array_of (parts_of triples).objects
    ∷ bit_array_of (parts_of triples).object_pair_ends
    ∷ log_array_of (parts_of triples).object_pairs
    ∷ []

abbrev pub map_sections : PartKind → Facts → List (List ℕ)
map_sections Layer facts = []
map_sections Rollup facts = map_of facts.term_map ∷ map_of facts.predicate_map ∷ []

-- the sections that each file has
abbrev pub list_sections : Facts → List (List ℕ)
list_sections facts =
    dictionary_sections (spellings facts.nodes) ++ dictionary_sections (spellings facts.predicates) ++ dictionary_sections (spellings facts.values)
    ++ plane_sections facts.additions ++ plane_sections facts.removals

abbrev pub sections_of : Facts → List (List ℕ)
sections_of facts = list_sections facts ++ map_sections facts.kind facts

unfoldable pub the_file : Facts → List ℕ
the_file facts = file_of (header_of facts (size_of (sections_of facts))) (sections_of facts)

pub record NumbersFit (numbers : List ℕ) : Type 0 where
  pub fit : All (λ number. number < 2 ^ 64) numbers
  pub counted : length numbers < 2 ^ 64

pub record PlaneFits (triples : List IdTriple) : Type 0 where
  pub subjects : NumbersFit (parts_of triples).subjects
  pub pair_ends : length (parts_of triples).pair_ends < 2 ^ 64
  pub pair_predicates : NumbersFit (parts_of triples).pair_predicates
  pub tree : width_of (parts_of triples).pair_predicates * length (parts_of triples).pair_predicates < 2 ^ 64
  pub object_ends : length (parts_of triples).object_ends < 2 ^ 64
  pub pair_objects : NumbersFit (parts_of triples).pair_objects
  pub objects : NumbersFit (parts_of triples).objects
  pub object_pair_ends : length (parts_of triples).object_pair_ends < 2 ^ 64
  pub object_pairs : NumbersFit (parts_of triples).object_pairs

-- each number and each length fits its field
pub record FieldsFit (facts : Facts) : Type 0 where
  pub header : FitsHeader (header_of facts (size_of (sections_of facts)))
  pub nodes : length (dictionary_bytes (spellings facts.nodes)) < 2 ^ 64
  pub predicates : length (dictionary_bytes (spellings facts.predicates)) < 2 ^ 64
  pub values : length (dictionary_bytes (spellings facts.values)) < 2 ^ 64
  pub additions : PlaneFits facts.additions
  pub removals : PlaneFits facts.removals
