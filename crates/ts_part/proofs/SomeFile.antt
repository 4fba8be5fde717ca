-- Facts that keep the rules and fit are said by their file.
use Rattle.std.proofs.Common.{◌≡◌, ℕ, ◌+◌, ◌-◌, ◌*◌, ◌^◌, ◌<◌, ◌≤◌, List, ◌++◌, All, length, get_or, refl, arith}
use Rattle.std.proofs.lemmas.List.Elements.{All-from_get_or}
use Rattle.std.proofs.lemmas.Nat.{pow_pos}
use Rattle.ts_front.specs.Dictionary.{DictionarySays, Rising, dictionary_bytes, dictionary_starts}
use Rattle.ts_log.specs.LogArray.{LogSays, greatest, log_array_of, width_of}
use Rattle.ts_log.proofs.GroupsLemmas.{Below-from_get_or}
use Rattle.ts_log.proofs.WidthLemmas.{greatest_below_width, greatest_lt, greatest_stands, le_greatest, width_le, width_needed, width_pos}
use Rattle.ts_plane.specs.declared.triple.IdTriple.{IdTriple}
use Rattle.ts_plane.specs.Parts.{parts_of}
use Rattle.ts_plane.specs.Plane.{PlaneSays}
use Rattle.ts_plane.specs.Triple.{IsPlaneList}
use Rattle.ts_plane.proofs.PartLemmas.{predicates_positive}
use Rattle.ts_wavelet.specs.WaveletTree.{IsWidth, WaveletSays, wavelet_of}
use Rattle.ts_part.specs.declared.header.PartKind.{PartKind}
use Rattle.ts_part.specs.declared.header.PartKind.TheVariants.{Layer, Rollup}
use Rattle.ts_part.specs.Facts.{Facts, spellings}
use Rattle.ts_part.specs.File.{FieldsFit, NumbersFit, PlaneFits, file_of, list_sections, map_sections, plane_sections, sections_of, size_of, the_file}
use Rattle.ts_part.specs.Header.{header_of, section_count}
use Rattle.ts_part.specs.Part.{MapsSay, PartSays, SectionsSay}
use Rattle.ts_part.specs.Rules.{KeepsRules, MapsRule}
use Rattle.ts_part.proofs.FileLemmas.{IsFile, file_says, is_file}
use Rattle.ts_part.proofs.RiseLemmas.{length-spellings}

array_says : (numbers : List ℕ) → NumbersFit numbers → LogSays (log_array_of numbers) numbers
array_says numbers fits = record { spelled = refl; fits = fits.fit; counted = fits.counted }

-- the width of a log array is that of a wavelet tree
width_is_width : (xs : List ℕ) → IsWidth (width_of xs) xs
width_is_width xs = record {
  some = width_pos xs;
  fits = All-from_get_or (λ x. x < 2 ^ width_of xs) xs 0 (λ i h. omega (arith, le_greatest xs i h, greatest_below_width xs));
  least = λ wide all.
      (let up : 2 ^ (width_of xs - 1) ≤ greatest xs = width_needed xs wide in
      let there = greatest_stands xs (omega (arith, up, pow_pos (width_of xs - 1))) in
      let low : get_or xs there.0 0 < 2 ^ (width_of xs - 1) = all there.0 0 there.1.0 in
      omega (arith, low, up, there.1.1));
}

narrow : (xs : List ℕ) → NumbersFit xs → width_of xs ≤ 64
narrow xs fits = width_le 64 xs (omega arith) (greatest_lt (2 ^ 64) xs (omega arith) (Below-from_get_or (2 ^ 64) xs (λ i h. fits.fit i 0 h)))

tree_says : (xs : List ℕ) → All (λ x. 1 ≤ x) xs → NumbersFit xs → width_of xs * length xs < 2 ^ 64 → WaveletSays (wavelet_of (width_of xs) xs) xs
tree_says xs positive fits bits = record {
  positive = positive;
  width = width_of xs;
  is_width = width_is_width xs;
  narrow = narrow xs fits;
  form = refl;
  fits = bits;
}

symbols_positive : (triples : List IdTriple) → IsPlaneList triples → All (λ x. 1 ≤ x) (parts_of triples).pair_predicates
unfolding parts_of
symbols_positive triples list = predicates_positive triples list.positive

plane_says : (triples : List IdTriple) → IsPlaneList triples → PlaneFits triples → PlaneSays (plane_sections triples) triples
plane_says triples list fits = record {
  list = list;
  say = record {
    eight = refl;
    subjects = array_says (parts_of triples).subjects fits.subjects;
    pair_ends = record { form = refl; fits = fits.pair_ends };
    pair_predicates = tree_says (parts_of triples).pair_predicates (symbols_positive triples list) fits.pair_predicates fits.tree;
    object_ends = record { form = refl; fits = fits.object_ends };
    pair_objects = array_says (parts_of triples).pair_objects fits.pair_objects;
    objects = array_says (parts_of triples).objects fits.objects;
    object_pair_ends = record { form = refl; fits = fits.object_pair_ends };
    object_pairs = array_says (parts_of triples).object_pairs fits.object_pairs;
  };
}

dictionary_says : (texts : List (List ℕ)) → Rising texts → length texts < 2 ^ 64 → length (dictionary_bytes texts) < 2 ^ 64
    → DictionarySays (dictionary_starts texts) (dictionary_bytes texts) texts
dictionary_says texts rising counted fits = record { rising = rising; starts_spelled = refl; bytes_spelled = refl; counted = counted; fits = fits }

counted : (kind : PartKind) (facts : Facts) → length (list_sections facts ++ map_sections kind facts) ≡ section_count kind
counted Layer facts = refl
counted Rollup facts = refl

maps_say : (kind : PartKind) (facts : Facts) → MapsRule kind facts → length facts.nodes + length facts.values < 2 ^ 64 → length facts.predicates < 2 ^ 64
    → MapsSay kind (list_sections facts ++ map_sections kind facts) facts
maps_say Layer facts rule terms predicates = rule
maps_say Rollup facts rule terms predicates = (
  record { permutes = rule.0; spelled = refl; counted = omega (arith, rule.1, terms) },
  record { permutes = rule.2; spelled = refl; counted = omega (arith, rule.3, predicates) },
)

sections_say : (facts : Facts) → KeepsRules facts → FieldsFit facts → SectionsSay (sections_of facts) facts
sections_say facts rules fits =
    let lists = rules.lists in
    let terms = lists.header.terms in
    let predicates = lists.header.predicates in
    record {
      nodes = dictionary_says (spellings facts.nodes) lists.nodes.rising (omega (arith, terms, length-spellings facts.nodes)) fits.nodes;
      predicates = dictionary_says (spellings facts.predicates) lists.predicates.rising (omega (arith, predicates, length-spellings facts.predicates)) fits.predicates;
      values = dictionary_says (spellings facts.values) lists.values.rising (omega (arith, terms, length-spellings facts.values)) fits.values;
      additions = plane_says facts.additions lists.additions.list fits.additions;
      removals = plane_says facts.removals lists.removals.list fits.removals;
      maps = maps_say facts.kind facts lists.maps (omega (arith, terms)) (omega (arith, predicates));
    }

pub some_file : (facts : Facts) → KeepsRules facts → FieldsFit facts → PartSays (the_file facts) facts
unfolding the_file
some_file facts rules fits =
    let is : IsFile (file_of (header_of facts (size_of (sections_of facts))) (sections_of facts)) facts (sections_of facts) =
    is_file (file_of (header_of facts (size_of (sections_of facts))) (sections_of facts)) facts (size_of (sections_of facts)) (sections_of facts) refl refl fits.header in
    file_says (file_of (header_of facts (size_of (sections_of facts))) (sections_of facts)) facts (sections_of facts) is (counted facts.kind facts) (sections_say facts rules fits) rules
