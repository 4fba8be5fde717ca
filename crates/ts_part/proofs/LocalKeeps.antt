-- Sections that say facts which keep their list rules keep their own rules.
use Rattle.std.proofs.Common.{◌≡◌, ℕ, ◌+◌, ◌-◌, ◌≤◌, List, length, map, get_or, sym, ◌∙◌, ap, subst, arith, All}
use Rattle.std.proofs.lemmas.List.{length-map}
use Rattle.std.proofs.lemmas.List.Elements.{All-map}
use Rattle.ts_front.specs.Dictionary.{DictionarySays, block_starts}
use Rattle.ts_front.proofs.SaysLemmas.{starts_said}
use Rattle.ts_model.specs.declared.term.TermKind.{TermKind}
use Rattle.ts_model.specs.declared.term.TermKind.TheVariants.{Node, Predicate, Value}
use Rattle.ts_model.specs.TextTerm.{TextTerm, IsTerm}
use Rattle.ts_plane.specs.declared.triple.IdTriple.{IdTriple}
use Rattle.ts_plane.specs.Parts.{PlaneParts, pair_of, parts_of, same_pair}
use Rattle.ts_plane.specs.Plane.{PlaneSays}
use Rattle.ts_plane.specs.Rules.{KeepsBefore}
use Rattle.ts_plane.specs.Triple.{IsWithin}
use Rattle.ts_plane.proofs.GroupMembers.{length-last_marks}
use Rattle.ts_plane.proofs.SaidLemmas.{said_keeps}
use Rattle.ts_part.specs.declared.header.Header.{Header}
use Rattle.ts_part.specs.declared.header.PartKind.{PartKind}
use Rattle.ts_part.specs.declared.header.PartKind.TheVariants.{Layer, Rollup}
use Rattle.ts_part.specs.Facts.{Facts, spellings}
use Rattle.ts_part.specs.Header.{header_of, section_count}
use Rattle.ts_part.specs.Layout.{of_kind, plane_from}
use Rattle.ts_part.specs.Part.{MapsSay, SectionsSay}
use Rattle.ts_part.specs.Rules.{KeepsListRules, MapsRule, TermsRule}
use Rattle.ts_part.specs.Sections.{BytesRule, KeepUpTo, MapRule, PlaneRule, Reading, StartsRule}

starts_keep : (starts bytes : List ℕ) (texts : List (List ℕ)) → DictionarySays starts bytes texts → StartsRule starts
starts_keep starts bytes texts says = (block_starts texts, starts_said starts bytes texts says)

-- terms of a kind, by their spellings
terms_spelled : (kind : TermKind) (terms : List TextTerm) → TermsRule kind terms → All (λ text. IsTerm (record { kind = kind; spelling = text })) (spellings terms)
terms_spelled kind terms rule =
    All-map (λ (text : List ℕ). IsTerm (record { kind = kind; spelling = text })) (λ (t : TextTerm). t.spelling) terms
    (λ k d h. subst (λ (x : TermKind). IsTerm (record { kind = x; spelling = (get_or terms k d).spelling })) (rule.kinds k d h) (rule.canonical k d h))

bytes_keep : (kind : TermKind) (starts bytes : List ℕ) (terms : List TextTerm) → DictionarySays starts bytes (spellings terms) → TermsRule kind terms
    → BytesRule kind (length terms) starts bytes (spellings terms)
bytes_keep kind starts bytes terms says rule = record {
  says = says;
  counted = length-map terms (λ (t : TextTerm). t.spelling);
  terms = terms_spelled kind terms rule;
}

-- the rules of the first so many of the eight sections
first_keep : (sections : List (List ℕ)) (terms predicates first : ℕ) (parts : PlaneParts) → KeepsBefore sections terms predicates parts 8
    → KeepsBefore sections terms predicates parts first
first_keep sections terms predicates first parts keeps = record {
  subjects = λ _. keeps.subjects (omega arith);
  pair_ends = λ _. keeps.pair_ends (omega arith);
  pair_predicates = λ _. keeps.pair_predicates (omega arith);
  object_ends = λ _. keeps.object_ends (omega arith);
  pair_objects = λ _. keeps.pair_objects (omega arith);
  objects = λ _. keeps.objects (omega arith);
  object_pair_ends = λ _. keeps.object_pair_ends (omega arith);
  object_pairs = λ _. keeps.object_pairs (omega arith);
}

ends_long : (triples : List IdTriple) → length (parts_of triples).object_ends ≡ length triples
unfolding parts_of
ends_long triples = length-last_marks same_pair (map pair_of triples) ∙ length-map triples pair_of

plane_keeps : (sections : List (List ℕ)) (terms predicates first : ℕ) (triples : List IdTriple) → PlaneSays sections triples
    → All (IsWithin terms predicates) triples → PlaneRule terms predicates (length triples) sections (parts_of triples) first
plane_keeps sections terms predicates first triples says within = record {
  keep = first_keep sections terms predicates first (parts_of triples) (said_keeps sections terms predicates triples says within);
  counted = λ _. ends_long triples;
}

-- a layer has no sections of the last two kinds, and a rollup has its maps there
maps_keep : (kind : PartKind) (sections : List (List ℕ)) (facts : Facts) (last : ℕ) → MapsSay kind sections facts → MapsRule kind facts → last ≤ section_count kind
    → (23 ≤ last → MapRule (length facts.nodes + length facts.values) (of_kind sections 23) facts.term_map)
    × (24 ≤ last → MapRule (length facts.predicates) (of_kind sections 24) facts.predicate_map)
maps_keep Layer sections facts last say rule few = (λ l. absurd (omega arith), λ l. absurd (omega arith))
maps_keep Rollup sections facts last say rule few =
    (λ _. record { says = say.0; counted = rule.1 }, λ _. record { says = say.1; counted = rule.3 })

-- what the sections are read as
abbrev pub reading_of : Facts → Reading
reading_of facts = record {
  nodes = spellings facts.nodes;
  predicates = spellings facts.predicates;
  values = spellings facts.values;
  additions = parts_of facts.additions;
  removals = parts_of facts.removals;
  term_map = facts.term_map;
  predicate_map = facts.predicate_map;
}

said_keep : (facts : Facts) (size : ℕ) (sections : List (List ℕ)) (last : ℕ) → SectionsSay sections facts → KeepsListRules facts → last ≤ section_count facts.kind
    → KeepUpTo (header_of facts size) sections (reading_of facts) last
said_keep facts size sections last say rules few =
    let maps = maps_keep facts.kind sections facts last say.maps rules.maps few in
    record {
      node_starts = λ _. starts_keep (of_kind sections 1) (of_kind sections 2) (spellings facts.nodes) say.nodes;
      node_bytes = λ _. bytes_keep Node (of_kind sections 1) (of_kind sections 2) facts.nodes say.nodes rules.nodes;
      predicate_starts = λ _. starts_keep (of_kind sections 3) (of_kind sections 4) (spellings facts.predicates) say.predicates;
      predicate_bytes = λ _. bytes_keep Predicate (of_kind sections 3) (of_kind sections 4) facts.predicates say.predicates rules.predicates;
      value_starts = λ _. starts_keep (of_kind sections 5) (of_kind sections 6) (spellings facts.values) say.values;
      value_bytes = λ _. bytes_keep Value (of_kind sections 5) (of_kind sections 6) facts.values say.values rules.values;
      additions = plane_keeps (plane_from sections 7) (facts.terms_before + length facts.nodes + length facts.values) (facts.predicates_before + length facts.predicates)
          (last - 6) facts.additions say.additions rules.additions.within;
      removals = plane_keeps (plane_from sections 15) facts.terms_before facts.predicates_before (last - 14) facts.removals say.removals rules.removals.within;
      term_map = maps.0;
      predicate_map = maps.1;
    }

-- at each kind
pub local_keeps : (facts : Facts) (size : ℕ) (h : Header) (sections : List (List ℕ)) (last : ℕ) → header_of facts size ≡ h → SectionsSay sections facts
    → KeepsListRules facts → last ≤ section_count h.kind → KeepUpTo h sections (reading_of facts) last
local_keeps facts size h sections last same say rules few =
    let kind : facts.kind ≡ h.kind = ap (λ (x : Header). x.kind) same in
    subst (λ (x : Header). KeepUpTo x sections (reading_of facts) last) same
    (said_keep facts size sections last say rules (subst (λ (k : PartKind). last ≤ section_count k) (sym kind) few))
