-- A file says one list of facts: those that are read from it.
use Rattle.std.proofs.Common.{◌≡◌, ℕ, List, length, refl, sym, ◌∙◌, ap}
use Rattle.ts_model.specs.declared.term.TermKind.TheVariants.{Node, Predicate, Value}
use Rattle.ts_part.specs.declared.header.Header.{Header}
use Rattle.ts_part.specs.Facts.{Facts}
use Rattle.ts_part.specs.Header.{header_of, section_count}
use Rattle.ts_part.specs.Layout.{of_kind, plane_from}
use Rattle.ts_part.specs.Part.{HasKinds, PartSays, PartSaysOnly, SectionsSay}
use Rattle.ts_part.specs.Read.{facts_in, header_in, map_in, plane_in, sections_in, terms_in}
use Rattle.ts_part.proofs.ReadHeader.{header_read}
use Rattle.ts_part.proofs.ReadSections.{maps_read, plane_read, terms_read}
use Rattle.ts_part.proofs.ReadTable.{sections_read}

-- facts are the same field by field
pub facts_same : (a b : Facts) → a.kind ≡ b.kind → a.number ≡ b.number → a.parent ≡ b.parent → a.terms_before ≡ b.terms_before
    → a.predicates_before ≡ b.predicates_before → a.nodes ≡ b.nodes → a.predicates ≡ b.predicates → a.values ≡ b.values
    → a.additions ≡ b.additions → a.removals ≡ b.removals → a.term_map ≡ b.term_map → a.predicate_map ≡ b.predicate_map → a ≡ b
facts_same a b e0 e1 e2 e3 e4 e5 e6 e7 e8 e9 e10 e11 =
    ap (λ x. record a { kind = x }) e0
    ∙ ap (λ x. record a { kind = b.kind; number = x }) e1
    ∙ ap (λ x. record a { kind = b.kind; number = b.number; parent = x }) e2
    ∙ ap (λ x. record a { kind = b.kind; number = b.number; parent = b.parent; terms_before = x }) e3
    ∙ ap (λ x. record a { kind = b.kind; number = b.number; parent = b.parent; terms_before = b.terms_before; predicates_before = x }) e4
    ∙ ap (λ x. record b { nodes = x; predicates = a.predicates; values = a.values; additions = a.additions; removals = a.removals; term_map = a.term_map; predicate_map = a.predicate_map }) e5
    ∙ ap (λ x. record b { predicates = x; values = a.values; additions = a.additions; removals = a.removals; term_map = a.term_map; predicate_map = a.predicate_map }) e6
    ∙ ap (λ x. record b { values = x; additions = a.additions; removals = a.removals; term_map = a.term_map; predicate_map = a.predicate_map }) e7
    ∙ ap (λ x. record b { additions = x; removals = a.removals; term_map = a.term_map; predicate_map = a.predicate_map }) e8
    ∙ ap (λ x. record b { removals = x; term_map = a.term_map; predicate_map = a.predicate_map }) e9
    ∙ ap (λ x. record b { term_map = x; predicate_map = a.predicate_map }) e10
    ∙ ap (λ x. record b { predicate_map = x }) e11

-- the facts of a header and sections
abbrev made_of : Header → List (List ℕ) → Facts
made_of h sections = record {
  kind = h.kind;
  number = h.number;
  parent = h.parent;
  terms_before = h.terms_before;
  predicates_before = h.predicates_before;
  nodes = terms_in Node h.nodes (of_kind sections 2);
  predicates = terms_in Predicate h.predicates (of_kind sections 4);
  values = terms_in Value h.values (of_kind sections 6);
  additions = plane_in (plane_from sections 7);
  removals = plane_in (plane_from sections 15);
  term_map = map_in h.kind (of_kind sections 23);
  predicate_map = map_in h.kind (of_kind sections 24);
}

made_is : (facts : Facts) (size : ℕ) (sections : List (List ℕ)) → HasKinds facts → SectionsSay sections facts → made_of (header_of facts size) sections ≡ facts
made_is facts size sections kinds say =
    let maps = maps_read facts.kind sections facts say.maps in
    facts_same (made_of (header_of facts size) sections) facts refl refl refl refl refl
    (terms_read Node (length facts.nodes) (of_kind sections 1) (of_kind sections 2) facts.nodes say.nodes kinds.nodes refl)
    (terms_read Predicate (length facts.predicates) (of_kind sections 3) (of_kind sections 4) facts.predicates say.predicates kinds.predicates refl)
    (terms_read Value (length facts.values) (of_kind sections 5) (of_kind sections 6) facts.values say.values kinds.values refl)
    (plane_read (plane_from sections 7) facts.additions say.additions)
    (plane_read (plane_from sections 15) facts.removals say.removals)
    maps.0 maps.1

pub facts_read : (file : List ℕ) (facts : Facts) → PartSays file facts → facts_in file ≡ facts
unfolding facts_in
facts_read file facts says =
    let head : header_in file ≡ header_of facts (length file) = header_read file (header_of facts (length file)) says.head says.fits says.kinds.parent in
    ap (λ (h : Header). made_of h (sections_in file (section_count h.kind))) head
    ∙ ap (made_of (header_of facts (length file))) (sections_read file (section_count facts.kind) says.sections says.fits.length says.lie)
    ∙ made_is facts (length file) says.sections says.kinds says.say

-- so it says no others
pub one_facts : (file : List ℕ) (a b : Facts) → PartSays file a → PartSays file b → a ≡ b
one_facts file a b says_a says_b = sym (facts_read file a says_a) ∙ facts_read file b says_b

pub says_only : (file : List ℕ) → PartSays file (facts_in file) → PartSaysOnly file (facts_in file)
says_only file says others other = sym (facts_read file others other)
