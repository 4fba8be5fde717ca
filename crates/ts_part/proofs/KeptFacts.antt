-- Sections that keep their rules say facts.
use Rattle.std.proofs.Common.{◌≡◌, ℕ, ◌+◌, ◌-◌, ◌≤◌, List, [], length, drop, map, refl, sym, ◌∙◌, ap, ap₂, subst, arith, All}
use Rattle.std.proofs.lemmas.List.{length-map, map-id, length-take, length-drop}
use Rattle.std.proofs.lemmas.List.Elements.{All-map}
use Rattle.std.proofs.lemmas.Simd.{map-map}
use Rattle.ts_front.specs.Dictionary.{DictionarySays, Rising}
use Rattle.ts_idmap.specs.IdMap.{MapSays}
use Rattle.ts_idmap.specs.Permutation.{Permutes}
use Rattle.ts_model.specs.declared.term.TermKind.{TermKind}
use Rattle.ts_model.specs.declared.term.TermKind.TheVariants.{Node, Predicate, Value}
use Rattle.ts_model.specs.TextTerm.{TextTerm, IsTerm}
use Rattle.ts_plane.specs.Decoded.{triples_in}
use Rattle.ts_plane.specs.Parts.{PlaneParts}
use Rattle.ts_plane.specs.Plane.{PlaneSays}
use Rattle.ts_plane.specs.Rules.{KeepsBefore}
use Rattle.ts_plane.specs.Triple.{IsWithin}
use Rattle.ts_plane.proofs.DecodedLemmas.{length-triples_in}
use Rattle.ts_plane.proofs.OpenLemmas.{kept_say, kept_within}
use Rattle.ts_part.specs.declared.header.Header.{Header}
use Rattle.ts_part.specs.declared.header.PartKind.{PartKind}
use Rattle.ts_part.specs.declared.header.PartKind.TheVariants.{Layer, Rollup}
use Rattle.ts_part.specs.Facts.{Facts, spellings}
use Rattle.ts_part.specs.Header.{FitsHeader, HasHeader, KeepsHeaderRules, header_bytes, header_of, section_count}
use Rattle.ts_part.specs.Layout.{AreSections, of_kind, plane_from}
use Rattle.ts_part.specs.Part.{MapsSay}
use Rattle.ts_part.specs.Places.{ArePlaces}
use Rattle.ts_part.specs.Rules.{MapsRule, TermsRule}
use Rattle.ts_part.specs.Sections.{BytesRule, KeepUpTo, MapRule, PlaneRule, Reading}
use Rattle.ts_part.specs.Tells.{IsFileOf}
use Rattle.ts_part.proofs.HeaderLemmas.{same_header, some_parent}
use Rattle.ts_part.proofs.ToldPlanes.{planes_there}

abbrev named : TermKind → List (List ℕ) → List TextTerm
named kind texts = map (λ text. record { kind = kind; spelling = text }) texts

spelled : (kind : TermKind) (texts : List (List ℕ)) → spellings (named kind texts) ≡ texts
spelled kind texts =
    map-map (λ (t : TextTerm). t.spelling) (λ (text : List ℕ). record { kind = kind; spelling = text }) texts ∙ map-id texts

-- the terms that a dictionary's rule gives
record AreNamed (kind : TermKind) (count : ℕ) (starts bytes : List ℕ) (terms : List TextTerm) : Type 0 where
  says : DictionarySays starts bytes (spellings terms)
  counted : length terms ≡ count
  rule : TermsRule kind terms

are_named : (kind : TermKind) (count : ℕ) (starts bytes : List ℕ) (texts : List (List ℕ)) → BytesRule kind count starts bytes texts
    → AreNamed kind count starts bytes (named kind texts)
are_named kind count starts bytes texts rule = record {
  says = subst (DictionarySays starts bytes) (sym (spelled kind texts)) rule.says;
  counted = length-map texts (λ (text : List ℕ). record { kind = kind; spelling = text }) ∙ rule.counted;
  rule = record {
    kinds = All-map (λ (t : TextTerm). t.kind ≡ kind) (λ (text : List ℕ). record { kind = kind; spelling = text }) texts (λ k d h. refl);
    canonical = All-map IsTerm (λ (text : List ℕ). record { kind = kind; spelling = text }) texts rule.terms;
    rising = subst Rising (sym (spelled kind texts)) rule.says.rising;
  };
}

-- the rules of all eight sections
all_eight : (sections : List (List ℕ)) (terms predicates last : ℕ) (parts : PlaneParts) → 8 ≤ last → KeepsBefore sections terms predicates parts last
    → KeepsBefore sections terms predicates parts 8
all_eight sections terms predicates last parts h keeps = record {
  subjects = λ _. keeps.subjects (omega arith);
  pair_ends = λ _. keeps.pair_ends (omega arith);
  pair_predicates = λ _. keeps.pair_predicates (omega arith);
  object_ends = λ _. keeps.object_ends (omega arith);
  pair_objects = λ _. keeps.pair_objects (omega arith);
  objects = λ _. keeps.objects (omega arith);
  object_pair_ends = λ _. keeps.object_pair_ends (omega arith);
  object_pairs = λ _. keeps.object_pairs (omega arith);
}

-- the triples that a plane's rules give
record AreTriples (sections : List (List ℕ)) (terms predicates count : ℕ) (parts : PlaneParts) : Type 0 where
  says : PlaneSays sections (triples_in parts)
  within : All (IsWithin terms predicates) (triples_in parts)
  counted : length (triples_in parts) ≡ count

are_triples : (sections : List (List ℕ)) (terms predicates count last : ℕ) (parts : PlaneParts) → length sections ≡ 8 → 8 ≤ last
    → PlaneRule terms predicates count sections parts last → AreTriples sections terms predicates count parts
are_triples sections terms predicates count last parts eight h rule =
    let keeps = all_eight sections terms predicates last parts h rule.keep in
    record {
      says = kept_say sections terms predicates parts eight keeps;
      within = kept_within sections terms predicates parts keeps;
      counted = length-triples_in parts ∙ rule.counted (omega arith);
    }

-- the map of a rollup, and none of a layer
abbrev map_of_kind : PartKind → List ℕ → List ℕ
map_of_kind Layer outer = []
map_of_kind Rollup outer = outer

-- the facts of a header and readings
abbrev pub facts_of : Header → Reading → Facts
facts_of h read = record {
  kind = h.kind;
  number = h.number;
  parent = h.parent;
  terms_before = h.terms_before;
  predicates_before = h.predicates_before;
  nodes = named Node read.nodes;
  predicates = named Predicate read.predicates;
  values = named Value read.values;
  additions = triples_in read.additions;
  removals = triples_in read.removals;
  term_map = map_of_kind h.kind read.term_map;
  predicate_map = map_of_kind h.kind read.predicate_map;
}

record AreMaps (kind : PartKind) (sections : List (List ℕ)) (facts : Facts) : Type 0 where
  say : MapsSay kind sections facts
  rule : MapsRule kind facts

are_maps : (kind : PartKind) (sections : List (List ℕ)) (facts : Facts) (terms predicates : List ℕ) → facts.term_map ≡ map_of_kind kind terms
    → facts.predicate_map ≡ map_of_kind kind predicates
    → (23 ≤ section_count kind → MapRule (length facts.nodes + length facts.values) (of_kind sections 23) terms)
    → (24 ≤ section_count kind → MapRule (length facts.predicates) (of_kind sections 24) predicates)
    → AreMaps kind sections facts
are_maps Layer sections facts terms predicates e f first second = record { say = (e, f); rule = (e, f) }
are_maps Rollup sections facts terms predicates e f first second =
    let a = first (omega arith) in
    let b = second (omega arith) in
    record {
      say = (subst (λ (l : List ℕ). MapSays (of_kind sections 23) l) (sym e) a.says, subst (λ (l : List ℕ). MapSays (of_kind sections 24) l) (sym f) b.says);
      rule = (
        subst Permutes (sym e) a.says.permutes,
        ap length e ∙ a.counted,
        subst Permutes (sym f) b.says.permutes,
        ap length f ∙ b.counted,
      );
    }

-- a header's rules say nothing of the length
pub rules_of_any : (h : Header) (size : ℕ) → KeepsHeaderRules h → KeepsHeaderRules (record h { length = size })
rules_of_any h size rules = record {
  number = rules.number;
  placed = record { parent = rules.placed.parent; base = rules.placed.base };
  terms = rules.terms;
  predicates = rules.predicates;
}

eight_long : (sections : List (List ℕ)) (count from : ℕ) → length sections ≡ count → from + 7 ≤ count → 1 ≤ from → length (plane_from sections from) ≡ 8
eight_long sections count from long h some = omega (arith, length-take 8 (drop (from - 1) sections), length-drop (from - 1) sections)

-- a file that begins with a header, whose sections keep all their rules, says facts
pub kept_facts : (file : List ℕ) (places : List (ℕ × ℕ)) (h : Header) (sections : List (List ℕ)) (read : Reading) → HasHeader file h
    → ArePlaces file (section_count h.kind) places → AreSections file (section_count h.kind) sections
    → KeepUpTo h sections read (section_count h.kind) → IsFileOf file places h (facts_of h read)
kept_facts file places h sections read headed placed lie keep =
    let many = planes_there h.kind in
    let nodes = are_named Node h.nodes (of_kind sections 1) (of_kind sections 2) read.nodes (keep.node_bytes (omega arith)) in
    let predicates = are_named Predicate h.predicates (of_kind sections 3) (of_kind sections 4) read.predicates (keep.predicate_bytes (omega arith)) in
    let values = are_named Value h.values (of_kind sections 5) (of_kind sections 6) read.values (keep.value_bytes (omega arith)) in
    let additions = are_triples (plane_from sections 7) (h.terms_before + h.nodes + h.values) (h.predicates_before + h.predicates) h.additions (section_count h.kind - 6) read.additions
    (eight_long sections (section_count h.kind) 7 lie.counted (omega arith) (omega arith)) (omega arith) keep.additions in
    let removals = are_triples (plane_from sections 15) h.terms_before h.predicates_before h.removals (section_count h.kind - 14) read.removals
    (eight_long sections (section_count h.kind) 15 lie.counted (omega arith) (omega arith)) (omega arith) keep.removals in
    let same : header_of (facts_of h read) (length file) ≡ h =
    same_header (header_of (facts_of h read) (length file)) h refl refl refl refl refl nodes.counted values.counted predicates.counted additions.counted removals.counted (sym headed.long) in
    let terms : h.terms_before + length (named Node read.nodes) + length (named Value read.values) ≡ h.terms_before + h.nodes + h.values =
    ap₂ (λ a b. h.terms_before + a + b) nodes.counted values.counted in
    let maps = are_maps h.kind sections (facts_of h read) read.term_map read.predicate_map refl refl
    (λ l. subst (λ n. MapRule n (of_kind sections 23) read.term_map) (sym (ap₂ (λ a b. a + b) nodes.counted values.counted)) (keep.term_map l))
    (λ l. subst (λ n. MapRule n (of_kind sections 24) read.predicate_map) (sym predicates.counted) (keep.predicate_map l)) in
    record {
      says = record {
        kinds = record {
          nodes = nodes.rule.kinds;
          predicates = predicates.rule.kinds;
          values = values.rule.kinds;
          parent = some_parent h headed.says.rules;
        };
        head = headed.says.spelled ∙ ap header_bytes (sym same);
        fits = subst FitsHeader (sym same) headed.says.fits;
        sections = sections;
        lie = lie;
        say = record {
          nodes = nodes.says;
          predicates = predicates.says;
          values = values.says;
          additions = additions.says;
          removals = removals.says;
          maps = maps.say;
        };
      };
      headed = same;
      placed = placed;
      lists = record {
        header = subst KeepsHeaderRules (ap (λ (x : Header). record x { length = 0 }) (sym same)) (rules_of_any h 0 headed.says.rules);
        nodes = nodes.rule;
        predicates = predicates.rule;
        values = values.rule;
        additions = record {
          list = additions.says.list;
          within = subst (λ n. All (IsWithin n (h.predicates_before + length (named Predicate read.predicates))) (triples_in read.additions)) (sym terms)
              (subst (λ n. All (IsWithin (h.terms_before + h.nodes + h.values) (h.predicates_before + n)) (triples_in read.additions)) (sym predicates.counted) additions.within);
        };
        removals = record { list = removals.says.list; within = removals.within };
        maps = maps.rule;
      };
    }
