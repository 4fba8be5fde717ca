-- How the bytes of a part file are read. What they say is in `Part`, and says one thing: so each reading is that.
use Rattle.std.specs.Prelude.{◌≡◌, ℕ, ◌+◌, ◌*◌, ◌/◌, ◌==◌, if◌then◌else◌, Bool, List, [], ◌++◌, length, take, drop, map, codes, Option, None, Some, slice_index}
use Rattle.std.specs.List.{range_with_len}
use Rattle.std.specs.Int.{w16, w32, w64, Width, byte_len, from_be_bytes, to_be_bytes}
use Rattle.ts_bits.specs.Ranked.{bits_of_words, number_in}
use Rattle.ts_front.specs.Reading.{texts_in}
use Rattle.ts_log.specs.Groups.{elements_in}
use Rattle.ts_model.specs.declared.term.TermKind.{TermKind}
use Rattle.ts_model.specs.declared.term.TermKind.TheVariants.{Node, Predicate, Value}
use Rattle.ts_model.specs.TextTerm.{TextTerm}
use Rattle.ts_plane.specs.declared.triple.IdTriple.{IdTriple}
use Rattle.ts_plane.specs.Decoded.{triples_in}
use Rattle.ts_wavelet.specs.Nodes.{tops_in}
use Rattle.ts_part.specs.declared.header.Header.{Header}
use Rattle.ts_part.specs.declared.header.PartKind.{PartKind}
use Rattle.ts_part.specs.declared.header.PartKind.TheVariants.{Layer, Rollup}
use Rattle.ts_part.specs.Facts.{Facts}
use Rattle.ts_part.specs.Header.{section_count}
use Rattle.ts_part.specs.Layout.{of_kind, plane_from}

-- the number at a place
unfoldable pub number_at : Width → List ℕ → ℕ → ℕ
number_at w bytes place = from_be_bytes w (take (byte_len w) (drop place bytes))

abbrev pub parent_in : ℕ → Option ℕ
parent_in number = if number == 0 then None else Some number

-- the fields of a header that headers of a kind differ in
unfoldable pub fields_in : PartKind → List ℕ → Header
fields_in kind bytes = record {
  kind = kind;
  number = number_at w32 bytes 12;
  parent = parent_in (number_at w32 bytes 16);
  terms_before = number_at w64 bytes 24;
  predicates_before = number_at w64 bytes 32;
  nodes = number_at w64 bytes 40;
  values = number_at w64 bytes 48;
  predicates = number_at w64 bytes 56;
  additions = number_at w64 bytes 64;
  removals = number_at w64 bytes 72;
  length = number_at w64 bytes 80;
}

-- the fields that they have alike
pub record IsFixed (bytes : List ℕ) (kind : PartKind) : Type 0 where
  pub begins : take 8 bytes ≡ codes "TSPART" ++ to_be_bytes w16 1
  pub order : slice_index bytes 9 ≡ 1
  pub counted : number_at w16 bytes 10 ≡ section_count kind
  pub zero : number_at w32 bytes 20 ≡ 0

abbrev pub kind_in : ℕ → PartKind
kind_in byte = if byte == 2 then Rollup else Layer

unfoldable pub header_in : List ℕ → Header
header_in file = fields_in (kind_in (slice_index file 8)) file

-- the section that row i of the table, counted from 0, tells
unfoldable pub section_in : List ℕ → ℕ → List ℕ
section_in file i = take (number_at w64 file (88 + 24 * i + 16)) (drop (number_at w64 file (88 + 24 * i + 8)) file)

unfoldable pub sections_in : List ℕ → ℕ → List (List ℕ)
sections_in file count = map (section_in file) (range_with_len 0 count)

-- the numbers of a log array
unfoldable pub numbers_in : List ℕ → List ℕ
numbers_in bytes = elements_in (slice_index bytes 8) (number_at w64 bytes 0) (drop 16 bytes)

-- the bits of a ranked bit array
unfoldable pub bits_in : List ℕ → List Bool
bits_in bytes = bits_of_words (number_in 8 bytes 0) (number_in 8 (drop 8 bytes))

-- the sequence of so many numbers of a wavelet tree
unfoldable pub sequence_in : List ℕ → ℕ → List ℕ
sequence_in bytes len = tops_in len (bits_in (drop 8 bytes)) (slice_index bytes 0)

-- the terms of a dictionary of so many
unfoldable pub terms_in : TermKind → ℕ → List ℕ → List TextTerm
terms_in kind count bytes = map (λ text. record { kind = kind; spelling = text }) (texts_in count (drop 8 bytes))

-- the triples of a plane
unfoldable pub plane_in : List (List ℕ) → List IdTriple
plane_in sections = triples_in (record {
  subjects = numbers_in (of_kind sections 1);
  pair_ends = bits_in (of_kind sections 2);
  pair_predicates = sequence_in (of_kind sections 3) (length (bits_in (of_kind sections 2)));
  object_ends = bits_in (of_kind sections 4);
  pair_objects = numbers_in (of_kind sections 5);
  objects = [];
  object_pair_ends = [];
  object_pairs = [];
})

-- the permutation of a map, and of a layer none
abbrev pub map_in : PartKind → List ℕ → List ℕ
map_in Layer bytes = []
map_in Rollup bytes = numbers_in (take (length bytes / 2) bytes)

-- what a file is read as
unfoldable pub facts_in : List ℕ → Facts
facts_in file =
    let h = header_in file in
    let sections = sections_in file (section_count h.kind) in
    record {
      kind = h.kind;
      number = h.number;
      parent = h.parent;
      terms_before = h.terms_before;
      predicates_before = h.predicates_before;
      nodes = terms_in Node h.nodes (of_kind sections 2);
      predicates = terms_in Predicate h.predicates (of_kind sections 4);
      values = terms_in Value h.values (of_kind sections 6);
      additions = plane_in (plane_from sections 7);
      removals = plane_in (plane_from sections 15);
      term_map = map_in h.kind (of_kind sections 23);
      predicate_map = map_in h.kind (of_kind sections 24);
    }
