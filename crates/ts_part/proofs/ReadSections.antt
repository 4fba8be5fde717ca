-- Each section is read from its bytes: what it says is what is read.
use Rattle.std.proofs.Common.{◌≡◌, ℕ, ◌*◌, ◌/◌, ◌<◌, Bool, List, [], ◌∷◌, ◌++◌, length, take, drop, map, get_or, refl, sym, ◌∙◌, ap, ap₂, All}
use Rattle.std.specs.Int.{w64, from_be_bytes}
use Rattle.std.proofs.lemmas.List.{append_assoc, drop_at, length-map}
use Rattle.std.proofs.lemmas.List.Elements.{All-head, All-tail}
use Rattle.std.proofs.lemmas.Nat.{from_be_bytes-to_be_bytes_8}
use Rattle.byteorder.specs.Endian.{big_bytes}
use Rattle.byteorder.specs.Numbers.{length-bytes_high_first}
use Rattle.ts_bits.specs.BitArray.{BitsSay, bit_array_of, numbers_of, superblock_count, superblocks_in, word_at, word_count, words_in, zeros_after}
use Rattle.ts_bits.specs.Ranked.{bits_of_words, number_in}
use Rattle.ts_bits.proofs.Arrays.{says_number}
use Rattle.ts_bits.proofs.Bytes.{number_in-numbers_of}
use Rattle.ts_bits.proofs.WordBits.{bits_of_words_are, number_of_bits-lt}
use Rattle.ts_front.specs.Dictionary.{DictionarySays, dictionary_bytes, entries_bytes}
use Rattle.ts_front.proofs.ReadLemmas.{texts_read}
use Rattle.ts_idmap.specs.IdMap.{MapSays}
use Rattle.ts_idmap.proofs.MapLemmas.{middle_of}
use Rattle.ts_log.specs.Groups.{elements_in}
use Rattle.ts_log.specs.LogArray.{LogSays, control, log_array_of, width_of}
use Rattle.ts_log.proofs.ArrayLemmas.{elements_in-packed}
use Rattle.ts_log.proofs.SaysLemmas.{whole_of_says}
use Rattle.ts_log.proofs.WidthLemmas.{Below_width}
use Rattle.ts_model.specs.declared.term.TermKind.{TermKind}
use Rattle.ts_model.specs.TextTerm.{TextTerm}
use Rattle.ts_plane.specs.declared.triple.IdTriple.{IdTriple}
use Rattle.ts_plane.specs.Decoded.{triples_in}
use Rattle.ts_plane.specs.Parts.{PlaneParts, parts_of}
use Rattle.ts_plane.specs.Plane.{PlaneSays}
use Rattle.ts_plane.specs.Rules.{section}
use Rattle.ts_plane.proofs.DecodeLemmas.{decoded}
use Rattle.ts_plane.proofs.RulesOf.{rules_of}
use Rattle.ts_wavelet.specs.Nodes.{tops_in}
use Rattle.ts_wavelet.specs.WaveletTree.{WaveletSays, tree_bits}
use Rattle.ts_wavelet.proofs.Says.{found, found_sequence, says_control}
use Rattle.ts_part.specs.declared.header.PartKind.{PartKind}
use Rattle.ts_part.specs.declared.header.PartKind.TheVariants.{Layer, Rollup}
use Rattle.ts_part.specs.Facts.{Facts, spellings}
use Rattle.ts_part.specs.Layout.{of_kind}
use Rattle.ts_part.specs.Part.{MapsSay}
use Rattle.ts_part.specs.Read.{bits_in, map_in, number_at, numbers_in, plane_in, sequence_in, terms_in}

count_read : (bytes xs : List ℕ) → LogSays bytes xs → number_at w64 bytes 0 ≡ length xs
unfolding number_at log_array_of control
count_read bytes xs says = ap (λ (b : List ℕ). from_be_bytes w64 (take 8 b)) says.spelled ∙ from_be_bytes-to_be_bytes_8 (length xs) says.counted

pub numbers_read : (bytes xs : List ℕ) → LogSays bytes xs → numbers_in bytes ≡ xs
unfolding numbers_in
numbers_read bytes xs says =
    let whole = whole_of_says bytes xs says in
    ap₂ (λ w n. elements_in w n (drop 16 bytes)) whole.width (count_read bytes xs says)
    ∙ ap (elements_in (width_of xs) (length xs)) whole.words
    ∙ elements_in-packed (width_of xs) xs (Below_width xs)

-- five lists joined, from the right
regroup : (a b c d e : List ℕ) → a ++ b ++ c ++ d ++ e ≡ a ++ (b ++ (c ++ (d ++ e)))
regroup a b c d e = simp append_assoc

-- what stands behind the words of a bit array
abbrev behind_words : List Bool → List ℕ
behind_words bits =
    numbers_of 8 (superblocks_in (length bits)) (superblock_count bits)
    ++ (numbers_of 2 (words_in (length bits)) (word_count bits) ++ zeros_after (2 * words_in (length bits)))

words_there : (bytes : List ℕ) (bits : List Bool) → BitsSay bytes bits
    → drop 8 bytes ≡ numbers_of 8 (words_in (length bits)) (word_at bits) ++ behind_words bits
unfolding bit_array_of
words_there bytes bits says =
    ap (drop 8) (says.form
    ∙ regroup (big_bytes 8 (length bits)) (numbers_of 8 (words_in (length bits)) (word_at bits)) (numbers_of 8 (superblocks_in (length bits)) (superblock_count bits)) (numbers_of 2 (words_in (length bits)) (word_count bits)) (zeros_after (2 * words_in (length bits))))
    ∙ drop_at (big_bytes 8 (length bits)) (numbers_of 8 (words_in (length bits)) (word_at bits) ++ behind_words bits) 8 (length-bytes_high_first 8 (length bits))

word_read : (bytes : List ℕ) (bits : List Bool) → BitsSay bytes bits → (k : ℕ) → k < words_in (length bits) → number_in 8 (drop 8 bytes) k ≡ word_at bits k
word_read bytes bits says k h =
    ap (λ (b : List ℕ). number_in 8 b k) (words_there bytes bits says)
    ∙ number_in-numbers_of 8 (words_in (length bits)) k (word_at bits) (behind_words bits) h (number_of_bits-lt 64 (drop (64 * k) bits))

long_read : (bytes : List ℕ) (bits : List Bool) → BitsSay bytes bits → number_in 8 bytes 0 ≡ length bits
unfolding number_in
long_read bytes bits says = says_number bytes bits says

pub bits_read : (bytes : List ℕ) (bits : List Bool) → BitsSay bytes bits → bits_in bytes ≡ bits
unfolding bits_in
bits_read bytes bits says =
    ap (λ n. bits_of_words n (number_in 8 (drop 8 bytes))) (long_read bytes bits says)
    ∙ bits_of_words_are bits (number_in 8 (drop 8 bytes)) (word_read bytes bits says)

pub sequence_read : (bytes xs : List ℕ) (len : ℕ) → WaveletSays bytes xs → length xs ≡ len → sequence_in bytes len ≡ xs
unfolding sequence_in
sequence_read bytes xs len says long =
    let rest : List ℕ = bit_array_of (tree_bits says.width xs) in
    let start = says_control bytes xs says in
    let is = found bytes xs says.width (bit_array_of (tree_bits says.width xs)) start says in
    ap₂ (λ (b : List ℕ) w. tops_in len (bits_in b) w) (ap (drop 8) start.form) (ap (λ (b : List ℕ). get_or b 0 0) start.form)
    ∙ ap (λ (bits : List Bool). tops_in len bits says.width) (bits_read (bit_array_of (tree_bits says.width xs)) (tree_bits says.width xs) is.bits)
    ∙ found_sequence bytes xs says.width len (bit_array_of (tree_bits says.width xs)) (tree_bits says.width xs) start is.bits says long

-- terms of one kind are their spellings
pub terms_named : (kind : TermKind) (terms : List TextTerm) → All (λ term. term.kind ≡ kind) terms
    → map (λ text. record { kind = kind; spelling = text }) (spellings terms) ≡ terms
terms_named kind [] all = refl
terms_named kind (t ∷ rest) all =
    ap₂ (λ (x : TextTerm) (xs : List TextTerm). x ∷ xs)
    (ap (λ k. record { kind = k; spelling = t.spelling }) (sym (All-head (λ (term : TextTerm). term.kind ≡ kind) t rest all)))
    (terms_named kind rest (All-tail (λ (term : TextTerm). term.kind ≡ kind) t rest all))

entries_there : (starts bytes : List ℕ) (texts : List (List ℕ)) → DictionarySays starts bytes texts → drop 8 bytes ≡ entries_bytes texts (length texts)
unfolding dictionary_bytes
entries_there starts bytes texts says = ap (drop 8) says.bytes_spelled

pub terms_read : (kind : TermKind) (count : ℕ) (starts bytes : List ℕ) (terms : List TextTerm) → DictionarySays starts bytes (spellings terms)
    → All (λ term. term.kind ≡ kind) terms → length terms ≡ count → terms_in kind count bytes ≡ terms
unfolding terms_in
terms_read kind count starts bytes terms says kinds counted =
    let many : length (spellings terms) ≡ count = length-map terms (λ (t : TextTerm). t.spelling) ∙ counted in
    ap (map (λ (text : List ℕ). record { kind = kind; spelling = text }))
    (texts_read (spellings terms) count (drop 8 bytes) many (entries_there starts bytes (spellings terms) says ∙ ap (entries_bytes (spellings terms)) many))
    ∙ terms_named kind terms kinds

-- the triples are in the first five lists
triples_same : (a b : PlaneParts) → a.subjects ≡ b.subjects → a.pair_ends ≡ b.pair_ends → a.pair_predicates ≡ b.pair_predicates → a.object_ends ≡ b.object_ends
    → a.pair_objects ≡ b.pair_objects → triples_in a ≡ triples_in b
unfolding triples_in
triples_same a b subjects pair_ends predicates object_ends objects =
    ap (λ l. triples_in (record a { subjects = l })) subjects
    ∙ ap (λ l. triples_in (record a { subjects = b.subjects; pair_ends = l })) pair_ends
    ∙ ap (λ l. triples_in (record a { subjects = b.subjects; pair_ends = b.pair_ends; pair_predicates = l })) predicates
    ∙ ap (λ l. triples_in (record a { subjects = b.subjects; pair_ends = b.pair_ends; pair_predicates = b.pair_predicates; object_ends = l })) object_ends
    ∙ ap (λ l. triples_in (record a { subjects = b.subjects; pair_ends = b.pair_ends; pair_predicates = b.pair_predicates; object_ends = b.object_ends; pair_objects = l })) objects

pub plane_read : (sections : List (List ℕ)) (triples : List IdTriple) → PlaneSays sections triples → plane_in sections ≡ triples
unfolding plane_in
plane_read sections triples says =
    let ends = bits_read (section sections 1) (parts_of triples).pair_ends says.say.pair_ends in
    triples_same (record {
      subjects = numbers_in (of_kind sections 1);
      pair_ends = bits_in (of_kind sections 2);
      pair_predicates = sequence_in (of_kind sections 3) (length (bits_in (of_kind sections 2)));
      object_ends = bits_in (of_kind sections 4);
      pair_objects = numbers_in (of_kind sections 5);
      objects = [];
      object_pair_ends = [];
      object_pairs = [];
    }) (parts_of triples)
    (numbers_read (section sections 0) (parts_of triples).subjects says.say.subjects)
    ends
    (sequence_read (section sections 2) (parts_of triples).pair_predicates (length (bits_in (section sections 1))) says.say.pair_predicates
    ((rules_of triples says.list).predicates_counted ∙ ap length (sym ends)))
    (bits_read (section sections 3) (parts_of triples).object_ends says.say.object_ends)
    (numbers_read (section sections 4) (parts_of triples).pair_objects says.say.pair_objects)
    ∙ decoded triples says.list.rising

map_read : (bytes outer : List ℕ) → MapSays bytes outer → map_in Rollup bytes ≡ outer
map_read bytes outer says = numbers_read (take (length bytes / 2) bytes) outer (middle_of bytes outer says).first

pub maps_read : (kind : PartKind) (sections : List (List ℕ)) (facts : Facts) → MapsSay kind sections facts
    → (map_in kind (of_kind sections 23) ≡ facts.term_map) × (map_in kind (of_kind sections 24) ≡ facts.predicate_map)
maps_read Layer sections facts say = (sym say.0, sym say.1)
maps_read Rollup sections facts say =
    (map_read (of_kind sections 23) facts.term_map say.0, map_read (of_kind sections 24) facts.predicate_map say.1)
