-- Eight sections are the plane of one list at most.
use Rattle.std.proofs.Common.{◌≡◌, ℕ, List, map, length, refl, sym, ◌∙◌, ap, nat_eq}
use Rattle.std.proofs.lemmas.List.{length-map}
use Rattle.ts_bits.proofs.Arrays.{says_one}
use Rattle.ts_log.proofs.SaysLemmas.{one_list_said}
use Rattle.ts_wavelet.specs.WaveletTree.{tree_bits, WaveletSays}
use Rattle.ts_bits.specs.BitArray.{bit_array_of}
use Rattle.ts_wavelet.proofs.Says.{says_control, found, found_sequence}
use Rattle.ts_plane.specs.declared.triple.IdTriple.{IdTriple}
use Rattle.ts_plane.specs.Parts.{PlaneParts, pairs_of, parts_of}
use Rattle.ts_plane.specs.Decoded.{triples_in}
use Rattle.ts_plane.specs.Plane.{PlaneSays}
use Rattle.ts_plane.specs.Rules.{section}
use Rattle.ts_plane.proofs.DecodeLemmas.{decoded}
use Rattle.ts_plane.proofs.GroupMembers.{length-last_marks}
use Rattle.ts_plane.proofs.PartLemmas.{first, second}

-- a wavelet tree says one sequence of a length
one_sequence : (bytes xs ys : List ℕ) → WaveletSays bytes xs → WaveletSays bytes ys → length xs ≡ length ys → xs ≡ ys
one_sequence bytes xs ys says_x says_y long =
    let rest : List ℕ = bit_array_of (tree_bits says_x.width xs) in
    let control = says_control bytes xs says_x in
    let is = found bytes xs says_x.width (bit_array_of (tree_bits says_x.width xs)) control says_x in
    sym (found_sequence bytes xs says_x.width (length ys) (bit_array_of (tree_bits says_x.width xs)) (tree_bits says_x.width xs) control is.bits says_x long)
    ∙ found_sequence bytes ys says_x.width (length ys) (bit_array_of (tree_bits says_x.width xs)) (tree_bits says_x.width xs) control is.bits says_y refl

-- as many predicates as pairs
predicates_long : (triples : List IdTriple) → length (parts_of triples).pair_predicates ≡ length (parts_of triples).pair_ends
unfolding parts_of
predicates_long triples =
    length-map (pairs_of triples) second ∙ sym (length-map (pairs_of triples) first) ∙ sym (length-last_marks nat_eq (map first (pairs_of triples)))

-- the triples are in the first five lists
triples_same : (a b : PlaneParts) → a.subjects ≡ b.subjects → a.pair_ends ≡ b.pair_ends → a.pair_predicates ≡ b.pair_predicates → a.object_ends ≡ b.object_ends
    → a.pair_objects ≡ b.pair_objects → triples_in a ≡ triples_in b
unfolding triples_in
triples_same a b subjects pair_ends predicates object_ends objects =
    ap (λ l. triples_in (record { subjects = l; pair_ends = a.pair_ends; pair_predicates = a.pair_predicates; object_ends = a.object_ends; pair_objects = a.pair_objects; objects = a.objects; object_pair_ends = a.object_pair_ends; object_pairs = a.object_pairs })) subjects
    ∙ ap (λ l. triples_in (record { subjects = b.subjects; pair_ends = l; pair_predicates = a.pair_predicates; object_ends = a.object_ends; pair_objects = a.pair_objects; objects = a.objects; object_pair_ends = a.object_pair_ends; object_pairs = a.object_pairs })) pair_ends
    ∙ ap (λ l. triples_in (record { subjects = b.subjects; pair_ends = b.pair_ends; pair_predicates = l; object_ends = a.object_ends; pair_objects = a.pair_objects; objects = a.objects; object_pair_ends = a.object_pair_ends; object_pairs = a.object_pairs })) predicates
    ∙ ap (λ l. triples_in (record { subjects = b.subjects; pair_ends = b.pair_ends; pair_predicates = b.pair_predicates; object_ends = l; pair_objects = a.pair_objects; objects = a.objects; object_pair_ends = a.object_pair_ends; object_pairs = a.object_pairs })) object_ends
    ∙ ap (λ l. triples_in (record { subjects = b.subjects; pair_ends = b.pair_ends; pair_predicates = b.pair_predicates; object_ends = b.object_ends; pair_objects = l; objects = a.objects; object_pair_ends = a.object_pair_ends; object_pairs = a.object_pairs })) objects

pub one_plane : (sections : List (List ℕ)) (a b : List IdTriple) → PlaneSays sections a → PlaneSays sections b → a ≡ b
one_plane sections a b is_a is_b =
    let ends = says_one (section sections 1) (parts_of a).pair_ends (parts_of b).pair_ends is_a.say.pair_ends is_b.say.pair_ends in
    sym (decoded a is_a.list.rising)
    ∙ triples_same (parts_of a) (parts_of b)
    (one_list_said (section sections 0) (parts_of a).subjects (parts_of b).subjects is_a.say.subjects is_b.say.subjects)
    ends
    (one_sequence (section sections 2) (parts_of a).pair_predicates (parts_of b).pair_predicates is_a.say.pair_predicates is_b.say.pair_predicates
    (predicates_long a ∙ ap length ends ∙ sym (predicates_long b)))
    (says_one (section sections 3) (parts_of a).object_ends (parts_of b).object_ends is_a.say.object_ends is_b.say.object_ends)
    (one_list_said (section sections 4) (parts_of a).pair_objects (parts_of b).pair_objects is_a.say.pair_objects is_b.say.pair_objects)
    ∙ decoded b is_b.list.rising
