-- The rules of a file's sections, one kind after another.
use Rattle.std.proofs.Common.{◌≡◌, ℕ, ◌+◌, ◌-◌, ◌≤◌, ◌⊎◌, List, [], Option, None, Some, IfNone, IfSome, take, drop, refl, sym, ◌∙◌, ap, subst, arith, inl, inr}
use Rattle.std.proofs.lemmas.Bool.{cases_eq}
use Rattle.std.proofs.lemmas.List.{drop-map, take-map}
use Rattle.ts_front.specs.Dictionary.{block_starts}
use Rattle.ts_front.proofs.SaysLemmas.{starts_said}
use Rattle.ts_model.specs.declared.term.TermKind.{TermKind}
use Rattle.ts_model.specs.declared.term.TermKind.TheVariants.{Node, Predicate, Value}
use Rattle.ts_plane.specs.Parts.{PlaneParts}
use Rattle.ts_plane.specs.Plane.{cut}
use Rattle.ts_part.specs.declared.damage.LoadError.{LoadError}
use Rattle.ts_part.specs.declared.damage.LoadError.TheVariants as errors
use Rattle.ts_part.specs.declared.header.Header.{Header}
use Rattle.ts_part.specs.declared.header.PartKind.{PartKind}
use Rattle.ts_part.specs.declared.header.PartKind.TheVariants.{Layer, Rollup}
use Rattle.ts_part.specs.Faults.{IsTermsFault, IsPlaneFault, IsSectionsError, NeedsMemory}
use Rattle.ts_part.specs.Header.{section_count}
use Rattle.ts_part.specs.Layout.{of_kind, plane_from}
use Rattle.ts_part.specs.Sections.{Reading, StartsRule, BytesRule, PlaneRule, MapRule, KeepUpTo, IsFirstFault}
use Rattle.ts_part.proofs.NumberLemmas.{piece_within}

pub at_least_22 : (kind : PartKind) → 22 ≤ section_count kind
at_least_22 Layer = omega arith
at_least_22 Rollup = omega arith

pub rollup_24 : (kind : PartKind) → kind ≡ Rollup → section_count kind ≡ 24
rollup_24 kind e = ap section_count e

-- the eight sections of a plane are cut at their eight places
pub eight_cut : (file : List ℕ) (count kind : ℕ) (places : List (ℕ × ℕ)) → kind - 1 + 8 ≤ count
    → cut file (take 8 (drop (kind - 1) places)) ≡ plane_from (cut file (take count places)) kind
eight_cut file count kind places inside =
    ap (cut file) (sym (piece_within (kind - 1) 8 count places inside))
    ∙ sym (take-map (λ (place : ℕ × ℕ). take place.1 (drop place.0 file)) 8 (drop (kind - 1) (take count places)))
    ∙ ap (take 8) (sym (drop-map (λ (place : ℕ × ℕ). take place.1 (drop place.0 file)) (kind - 1) (take count places)))

starts_of : (kind : TermKind) (count : ℕ) (starts bytes : List ℕ) (texts : List (List ℕ)) → BytesRule kind count starts bytes texts → StartsRule starts
starts_of kind count starts bytes texts rule = (block_starts texts, starts_said starts bytes texts rule.says)

abbrev pub additions_rule : Header → List (List ℕ) → PlaneParts → ℕ → Type 0
additions_rule h sections parts first = PlaneRule (h.terms_before + h.nodes + h.values) (h.predicates_before + h.predicates) h.additions (plane_from sections 7) parts first

abbrev pub removals_rule : Header → List (List ℕ) → PlaneParts → ℕ → Type 0
removals_rule h sections parts first = PlaneRule h.terms_before h.predicates_before h.removals (plane_from sections 15) parts first

-- of no section
no_plane : (terms predicates count : ℕ) (sections : List (List ℕ)) (parts : PlaneParts) (first : ℕ) → first ≡ 0 → PlaneRule terms predicates count sections parts first
no_plane terms predicates count sections parts first none = record {
  keep = record {
    subjects = λ low. absurd (omega arith);
    pair_ends = λ low. absurd (omega arith);
    pair_predicates = λ low. absurd (omega arith);
    object_ends = λ low. absurd (omega arith);
    pair_objects = λ low. absurd (omega arith);
    objects = λ low. absurd (omega arith);
    object_pair_ends = λ low. absurd (omega arith);
    object_pairs = λ low. absurd (omega arith);
  };
  counted = λ low. absurd (omega arith);
}

-- nothing is read yet
pub keep_none : (h : Header) (sections : List (List ℕ)) (read : Reading) → KeepUpTo h sections read 0
keep_none h sections read = record {
  node_starts = λ low. absurd (omega arith);
  node_bytes = λ low. absurd (omega arith);
  predicate_starts = λ low. absurd (omega arith);
  predicate_bytes = λ low. absurd (omega arith);
  value_starts = λ low. absurd (omega arith);
  value_bytes = λ low. absurd (omega arith);
  additions = no_plane (h.terms_before + h.nodes + h.values) (h.predicates_before + h.predicates) h.additions (plane_from sections 7) read.additions 0 refl;
  removals = no_plane h.terms_before h.predicates_before h.removals (plane_from sections 15) read.removals 0 refl;
  term_map = λ low. absurd (omega arith);
  predicate_map = λ low. absurd (omega arith);
}

-- the nodes
node_starts_kept : (h : Header) (sections : List (List ℕ)) (read : Reading) → KeepUpTo h sections read 0 → StartsRule (of_kind sections 1) → KeepUpTo h sections read 1
node_starts_kept h sections read keep starts = record {
  node_starts = λ low. starts;
  node_bytes = λ low. absurd (omega arith);
  predicate_starts = λ low. absurd (omega arith);
  predicate_bytes = λ low. absurd (omega arith);
  value_starts = λ low. absurd (omega arith);
  value_bytes = λ low. absurd (omega arith);
  additions = no_plane (h.terms_before + h.nodes + h.values) (h.predicates_before + h.predicates) h.additions (plane_from sections 7) read.additions 0 refl;
  removals = no_plane h.terms_before h.predicates_before h.removals (plane_from sections 15) read.removals 0 refl;
  term_map = λ low. absurd (omega arith);
  predicate_map = λ low. absurd (omega arith);
}

pub nodes_kept : (h : Header) (sections : List (List ℕ)) (read : Reading) (texts : List (List ℕ)) → KeepUpTo h sections read 0
    → BytesRule Node h.nodes (of_kind sections 1) (of_kind sections 2) texts → KeepUpTo h sections (record read { nodes = texts }) 2
nodes_kept h sections read texts keep rule = record {
  node_starts = λ low. starts_of Node h.nodes (of_kind sections 1) (of_kind sections 2) texts rule;
  node_bytes = λ low. rule;
  predicate_starts = λ low. absurd (omega arith);
  predicate_bytes = λ low. absurd (omega arith);
  value_starts = λ low. absurd (omega arith);
  value_bytes = λ low. absurd (omega arith);
  additions = no_plane (h.terms_before + h.nodes + h.values) (h.predicates_before + h.predicates) h.additions (plane_from sections 7) read.additions 0 refl;
  removals = no_plane h.terms_before h.predicates_before h.removals (plane_from sections 15) read.removals 0 refl;
  term_map = λ low. absurd (omega arith);
  predicate_map = λ low. absurd (omega arith);
}

pub nodes_fault : (h : Header) (sections : List (List ℕ)) (read : Reading) (fault : ℕ) → KeepUpTo h sections read 0
    → IsTermsFault Node h.nodes (of_kind sections 1) (of_kind sections 2) fault → IsFirstFault h sections (1 + fault)
nodes_fault h sections read fault keep is =
    let there = at_least_22 h.kind in
    elim (cases_eq fault 0) [
      | inl first ↦ (let at : 1 ≡ 1 + fault = omega arith in
          let is_first : IsFirstFault h sections 1 = record {
            some = omega arith;
            there = omega arith;
            read = read;
            before = keep;
            fault = λ others kept. is.first first (kept.node_starts (omega arith));
          } in subst (IsFirstFault h sections) at is_first)
      | inr other ↦ (let at : 2 ≡ 1 + fault = omega (arith, is.one_of_two) in
          let both = is.second (omega (arith, is.one_of_two)) in
          let is_second : IsFirstFault h sections 2 = record {
            some = omega arith;
            there = omega arith;
            read = read;
            before = node_starts_kept h sections read keep both.0;
            fault = λ others kept. both.1 others.nodes (kept.node_bytes (omega arith));
          } in subst (IsFirstFault h sections) at is_second)
    ]

-- the predicates
predicate_starts_kept : (h : Header) (sections : List (List ℕ)) (read : Reading) → KeepUpTo h sections read 2 → StartsRule (of_kind sections 3) → KeepUpTo h sections read 3
predicate_starts_kept h sections read keep starts = record {
  node_starts = λ low. keep.node_starts (omega arith);
  node_bytes = λ low. keep.node_bytes (omega arith);
  predicate_starts = λ low. starts;
  predicate_bytes = λ low. absurd (omega arith);
  value_starts = λ low. absurd (omega arith);
  value_bytes = λ low. absurd (omega arith);
  additions = no_plane (h.terms_before + h.nodes + h.values) (h.predicates_before + h.predicates) h.additions (plane_from sections 7) read.additions 0 refl;
  removals = no_plane h.terms_before h.predicates_before h.removals (plane_from sections 15) read.removals 0 refl;
  term_map = λ low. absurd (omega arith);
  predicate_map = λ low. absurd (omega arith);
}

pub predicates_kept : (h : Header) (sections : List (List ℕ)) (read : Reading) (texts : List (List ℕ)) → KeepUpTo h sections read 2
    → BytesRule Predicate h.predicates (of_kind sections 3) (of_kind sections 4) texts → KeepUpTo h sections (record read { predicates = texts }) 4
predicates_kept h sections read texts keep rule = record {
  node_starts = λ low. keep.node_starts (omega arith);
  node_bytes = λ low. keep.node_bytes (omega arith);
  predicate_starts = λ low. starts_of Predicate h.predicates (of_kind sections 3) (of_kind sections 4) texts rule;
  predicate_bytes = λ low. rule;
  value_starts = λ low. absurd (omega arith);
  value_bytes = λ low. absurd (omega arith);
  additions = no_plane (h.terms_before + h.nodes + h.values) (h.predicates_before + h.predicates) h.additions (plane_from sections 7) read.additions 0 refl;
  removals = no_plane h.terms_before h.predicates_before h.removals (plane_from sections 15) read.removals 0 refl;
  term_map = λ low. absurd (omega arith);
  predicate_map = λ low. absurd (omega arith);
}

pub predicates_fault : (h : Header) (sections : List (List ℕ)) (read : Reading) (fault : ℕ) → KeepUpTo h sections read 2
    → IsTermsFault Predicate h.predicates (of_kind sections 3) (of_kind sections 4) fault → IsFirstFault h sections (3 + fault)
predicates_fault h sections read fault keep is =
    let there = at_least_22 h.kind in
    elim (cases_eq fault 0) [
      | inl first ↦ (let at : 3 ≡ 3 + fault = omega arith in
          let is_first : IsFirstFault h sections 3 = record {
            some = omega arith;
            there = omega arith;
            read = read;
            before = keep;
            fault = λ others kept. is.first first (kept.predicate_starts (omega arith));
          } in subst (IsFirstFault h sections) at is_first)
      | inr other ↦ (let at : 4 ≡ 3 + fault = omega (arith, is.one_of_two) in
          let both = is.second (omega (arith, is.one_of_two)) in
          let is_second : IsFirstFault h sections 4 = record {
            some = omega arith;
            there = omega arith;
            read = read;
            before = predicate_starts_kept h sections read keep both.0;
            fault = λ others kept. both.1 others.predicates (kept.predicate_bytes (omega arith));
          } in subst (IsFirstFault h sections) at is_second)
    ]

-- the values
value_starts_kept : (h : Header) (sections : List (List ℕ)) (read : Reading) → KeepUpTo h sections read 4 → StartsRule (of_kind sections 5) → KeepUpTo h sections read 5
value_starts_kept h sections read keep starts = record {
  node_starts = λ low. keep.node_starts (omega arith);
  node_bytes = λ low. keep.node_bytes (omega arith);
  predicate_starts = λ low. keep.predicate_starts (omega arith);
  predicate_bytes = λ low. keep.predicate_bytes (omega arith);
  value_starts = λ low. starts;
  value_bytes = λ low. absurd (omega arith);
  additions = no_plane (h.terms_before + h.nodes + h.values) (h.predicates_before + h.predicates) h.additions (plane_from sections 7) read.additions 0 refl;
  removals = no_plane h.terms_before h.predicates_before h.removals (plane_from sections 15) read.removals 0 refl;
  term_map = λ low. absurd (omega arith);
  predicate_map = λ low. absurd (omega arith);
}

pub values_kept : (h : Header) (sections : List (List ℕ)) (read : Reading) (texts : List (List ℕ)) → KeepUpTo h sections read 4
    → BytesRule Value h.values (of_kind sections 5) (of_kind sections 6) texts → KeepUpTo h sections (record read { values = texts }) 6
values_kept h sections read texts keep rule = record {
  node_starts = λ low. keep.node_starts (omega arith);
  node_bytes = λ low. keep.node_bytes (omega arith);
  predicate_starts = λ low. keep.predicate_starts (omega arith);
  predicate_bytes = λ low. keep.predicate_bytes (omega arith);
  value_starts = λ low. starts_of Value h.values (of_kind sections 5) (of_kind sections 6) texts rule;
  value_bytes = λ low. rule;
  additions = no_plane (h.terms_before + h.nodes + h.values) (h.predicates_before + h.predicates) h.additions (plane_from sections 7) read.additions 0 refl;
  removals = no_plane h.terms_before h.predicates_before h.removals (plane_from sections 15) read.removals 0 refl;
  term_map = λ low. absurd (omega arith);
  predicate_map = λ low. absurd (omega arith);
}

pub values_fault : (h : Header) (sections : List (List ℕ)) (read : Reading) (fault : ℕ) → KeepUpTo h sections read 4
    → IsTermsFault Value h.values (of_kind sections 5) (of_kind sections 6) fault → IsFirstFault h sections (5 + fault)
values_fault h sections read fault keep is =
    let there = at_least_22 h.kind in
    elim (cases_eq fault 0) [
      | inl first ↦ (let at : 5 ≡ 5 + fault = omega arith in
          let is_first : IsFirstFault h sections 5 = record {
            some = omega arith;
            there = omega arith;
            read = read;
            before = keep;
            fault = λ others kept. is.first first (kept.value_starts (omega arith));
          } in subst (IsFirstFault h sections) at is_first)
      | inr other ↦ (let at : 6 ≡ 5 + fault = omega (arith, is.one_of_two) in
          let both = is.second (omega (arith, is.one_of_two)) in
          let is_second : IsFirstFault h sections 6 = record {
            some = omega arith;
            there = omega arith;
            read = read;
            before = value_starts_kept h sections read keep both.0;
            fault = λ others kept. both.1 others.values (kept.value_bytes (omega arith));
          } in subst (IsFirstFault h sections) at is_second)
    ]

pub additions_kept : (h : Header) (sections : List (List ℕ)) (read : Reading) (parts : PlaneParts) → KeepUpTo h sections read 6
    → additions_rule h sections parts 8 → KeepUpTo h sections (record read { additions = parts }) 14
additions_kept h sections read parts keep rule = record {
  node_starts = λ low. keep.node_starts (omega arith);
  node_bytes = λ low. keep.node_bytes (omega arith);
  predicate_starts = λ low. keep.predicate_starts (omega arith);
  predicate_bytes = λ low. keep.predicate_bytes (omega arith);
  value_starts = λ low. keep.value_starts (omega arith);
  value_bytes = λ low. keep.value_bytes (omega arith);
  additions = rule;
  removals = no_plane h.terms_before h.predicates_before h.removals (plane_from sections 15) read.removals 0 refl;
  term_map = λ low. absurd (omega arith);
  predicate_map = λ low. absurd (omega arith);
}

additions_before : (h : Header) (sections : List (List ℕ)) (read : Reading) (fault : ℕ) → KeepUpTo h sections read 6
    → (is : IsPlaneFault (h.terms_before + h.nodes + h.values) (h.predicates_before + h.predicates) h.additions (plane_from sections 7) fault) → KeepUpTo h sections (record read { additions = is.parts }) (7 + fault - 1)
additions_before h sections read fault keep is =
    let index : fault ≡ 7 + fault - 1 - 6 = omega arith in
    record {
      node_starts = λ low. keep.node_starts (omega arith);
      node_bytes = λ low. keep.node_bytes (omega arith);
      predicate_starts = λ low. keep.predicate_starts (omega arith);
      predicate_bytes = λ low. keep.predicate_bytes (omega arith);
      value_starts = λ low. keep.value_starts (omega arith);
      value_bytes = λ low. keep.value_bytes (omega arith);
      additions = subst (PlaneRule (h.terms_before + h.nodes + h.values) (h.predicates_before + h.predicates) h.additions (plane_from sections 7) is.parts) index is.before;
      removals = no_plane h.terms_before h.predicates_before h.removals (plane_from sections 15) read.removals (7 + fault - 1 - 14) (omega (arith, is.one_of_eight));
      term_map = λ low. absurd (omega (arith, is.one_of_eight));
      predicate_map = λ low. absurd (omega (arith, is.one_of_eight));
    }

pub additions_fault : (h : Header) (sections : List (List ℕ)) (read : Reading) (fault : ℕ) → KeepUpTo h sections read 6
    → IsPlaneFault (h.terms_before + h.nodes + h.values) (h.predicates_before + h.predicates) h.additions (plane_from sections 7) fault → IsFirstFault h sections (7 + fault)
additions_fault h sections read fault keep is =
    let there = at_least_22 h.kind in
    let index : 7 + fault - 6 ≡ fault + 1 = omega arith in
    record {
      some = omega arith;
      there = omega (arith, is.one_of_eight);
      read = record read { additions = is.parts };
      before = additions_before h sections read fault keep is;
      fault = λ others kept. is.none others.additions (subst (PlaneRule (h.terms_before + h.nodes + h.values) (h.predicates_before + h.predicates) h.additions (plane_from sections 7) others.additions) index kept.additions);
    }

-- all eight sections of a plane keep their rules, however many sections follow
plane_stays : (terms predicates count : ℕ) (sections : List (List ℕ)) (parts : PlaneParts) (i j : ℕ) → 8 ≤ i → PlaneRule terms predicates count sections parts i
    → PlaneRule terms predicates count sections parts j
plane_stays terms predicates count sections parts i j high rule = record {
  keep = record {
    subjects = λ low. rule.keep.subjects (omega arith);
    pair_ends = λ low. rule.keep.pair_ends (omega arith);
    pair_predicates = λ low. rule.keep.pair_predicates (omega arith);
    object_ends = λ low. rule.keep.object_ends (omega arith);
    pair_objects = λ low. rule.keep.pair_objects (omega arith);
    objects = λ low. rule.keep.objects (omega arith);
    object_pair_ends = λ low. rule.keep.object_pair_ends (omega arith);
    object_pairs = λ low. rule.keep.object_pairs (omega arith);
  };
  counted = λ low. rule.counted (omega arith);
}

pub removals_kept : (h : Header) (sections : List (List ℕ)) (read : Reading) (parts : PlaneParts) → KeepUpTo h sections read 14
    → removals_rule h sections parts 8 → KeepUpTo h sections (record read { removals = parts }) 22
removals_kept h sections read parts keep rule = record {
  node_starts = λ low. keep.node_starts (omega arith);
  node_bytes = λ low. keep.node_bytes (omega arith);
  predicate_starts = λ low. keep.predicate_starts (omega arith);
  predicate_bytes = λ low. keep.predicate_bytes (omega arith);
  value_starts = λ low. keep.value_starts (omega arith);
  value_bytes = λ low. keep.value_bytes (omega arith);
  additions = plane_stays (h.terms_before + h.nodes + h.values) (h.predicates_before + h.predicates) h.additions (plane_from sections 7) read.additions 8 16 (omega arith) keep.additions;
  removals = rule;
  term_map = λ low. absurd (omega arith);
  predicate_map = λ low. absurd (omega arith);
}

removals_before : (h : Header) (sections : List (List ℕ)) (read : Reading) (fault : ℕ) → KeepUpTo h sections read 14
    → (is : IsPlaneFault h.terms_before h.predicates_before h.removals (plane_from sections 15) fault) → KeepUpTo h sections (record read { removals = is.parts }) (15 + fault - 1)
removals_before h sections read fault keep is =
    let index : fault ≡ 15 + fault - 1 - 14 = omega arith in
    record {
      node_starts = λ low. keep.node_starts (omega arith);
      node_bytes = λ low. keep.node_bytes (omega arith);
      predicate_starts = λ low. keep.predicate_starts (omega arith);
      predicate_bytes = λ low. keep.predicate_bytes (omega arith);
      value_starts = λ low. keep.value_starts (omega arith);
      value_bytes = λ low. keep.value_bytes (omega arith);
      additions = plane_stays (h.terms_before + h.nodes + h.values) (h.predicates_before + h.predicates) h.additions (plane_from sections 7) read.additions 8 (15 + fault - 1 - 6) (omega arith) keep.additions;
      removals = subst (PlaneRule h.terms_before h.predicates_before h.removals (plane_from sections 15) is.parts) index is.before;
      term_map = λ low. absurd (omega (arith, is.one_of_eight));
      predicate_map = λ low. absurd (omega (arith, is.one_of_eight));
    }

pub removals_fault : (h : Header) (sections : List (List ℕ)) (read : Reading) (fault : ℕ) → KeepUpTo h sections read 14
    → IsPlaneFault h.terms_before h.predicates_before h.removals (plane_from sections 15) fault → IsFirstFault h sections (15 + fault)
removals_fault h sections read fault keep is =
    let there = at_least_22 h.kind in
    let index : 15 + fault - 14 ≡ fault + 1 = omega arith in
    record {
      some = omega arith;
      there = omega (arith, is.one_of_eight);
      read = record read { removals = is.parts };
      before = removals_before h sections read fault keep is;
      fault = λ others kept. is.none others.removals (subst (PlaneRule h.terms_before h.predicates_before h.removals (plane_from sections 15) others.removals) index kept.removals);
    }

pub term_map_kept : (h : Header) (sections : List (List ℕ)) (read : Reading) (outer : List ℕ) → KeepUpTo h sections read 22
    → MapRule (h.nodes + h.values) (of_kind sections 23) outer → KeepUpTo h sections (record read { term_map = outer }) 23
term_map_kept h sections read outer keep rule = record {
  node_starts = λ low. keep.node_starts (omega arith);
  node_bytes = λ low. keep.node_bytes (omega arith);
  predicate_starts = λ low. keep.predicate_starts (omega arith);
  predicate_bytes = λ low. keep.predicate_bytes (omega arith);
  value_starts = λ low. keep.value_starts (omega arith);
  value_bytes = λ low. keep.value_bytes (omega arith);
  additions = plane_stays (h.terms_before + h.nodes + h.values) (h.predicates_before + h.predicates) h.additions (plane_from sections 7) read.additions 16 17 (omega arith) keep.additions;
  removals = plane_stays h.terms_before h.predicates_before h.removals (plane_from sections 15) read.removals 8 9 (omega arith) keep.removals;
  term_map = λ low. rule;
  predicate_map = λ low. absurd (omega arith);
}

pub term_map_fault : (h : Header) (sections : List (List ℕ)) (read : Reading) → h.kind ≡ Rollup → KeepUpTo h sections read 22
    → ((outer : List ℕ) → ¬ MapRule (h.nodes + h.values) (of_kind sections 23) outer) → IsFirstFault h sections 23
term_map_fault h sections read rollup keep none =
    let there = rollup_24 h.kind rollup in
    record {
      some = omega arith;
      there = omega arith;
      read = read;
      before = keep;
      fault = λ others kept. none others.term_map (kept.term_map (omega arith));
    }

pub predicate_map_kept : (h : Header) (sections : List (List ℕ)) (read : Reading) (outer : List ℕ) → KeepUpTo h sections read 23
    → MapRule h.predicates (of_kind sections 24) outer → KeepUpTo h sections (record read { predicate_map = outer }) 24
predicate_map_kept h sections read outer keep rule = record {
  node_starts = λ low. keep.node_starts (omega arith);
  node_bytes = λ low. keep.node_bytes (omega arith);
  predicate_starts = λ low. keep.predicate_starts (omega arith);
  predicate_bytes = λ low. keep.predicate_bytes (omega arith);
  value_starts = λ low. keep.value_starts (omega arith);
  value_bytes = λ low. keep.value_bytes (omega arith);
  additions = plane_stays (h.terms_before + h.nodes + h.values) (h.predicates_before + h.predicates) h.additions (plane_from sections 7) read.additions 17 18 (omega arith) keep.additions;
  removals = plane_stays h.terms_before h.predicates_before h.removals (plane_from sections 15) read.removals 9 10 (omega arith) keep.removals;
  term_map = λ low. keep.term_map (omega arith);
  predicate_map = λ low. rule;
}

pub predicate_map_fault : (h : Header) (sections : List (List ℕ)) (read : Reading) → h.kind ≡ Rollup → KeepUpTo h sections read 23
    → ((outer : List ℕ) → ¬ MapRule h.predicates (of_kind sections 24) outer) → IsFirstFault h sections 24
predicate_map_fault h sections read rollup keep none =
    let there = rollup_24 h.kind rollup in
    record {
      some = omega arith;
      there = omega arith;
      read = read;
      before = keep;
      fault = λ others kept. none others.predicate_map (kept.predicate_map (omega arith));
    }

-- what is read of no section
abbrev pub no_parts : PlaneParts
no_parts = record {
  subjects = [];
  pair_ends = [];
  pair_predicates = [];
  object_ends = [];
  pair_objects = [];
  objects = [];
  object_pair_ends = [];
  object_pairs = [];
}

abbrev pub nothing : Reading
nothing = record {
  nodes = [];
  predicates = [];
  values = [];
  additions = no_parts;
  removals = no_parts;
  term_map = [];
  predicate_map = [];
}

-- the sections up to a kind keep their rules, read in some way
abbrev pub Kept : Header → List (List ℕ) → ℕ → Type 0
Kept h sections last = (read : Reading) × KeepUpTo h sections read last

pub start_kept : (h : Header) (sections : List (List ℕ)) → Kept h sections 0
start_kept h sections = (nothing, keep_none h sections nothing)

pub nodes_step : (h : Header) (sections : List (List ℕ)) → Kept h sections 0
    → (texts : List (List ℕ)) × BytesRule Node h.nodes (of_kind sections 1) (of_kind sections 2) texts → Kept h sections 2
nodes_step h sections kept found =
    let read : Reading = kept.0 in (record read { nodes = found.0 }, nodes_kept h sections read found.0 kept.1 found.1)

pub predicates_step : (h : Header) (sections : List (List ℕ)) → Kept h sections 2
    → (texts : List (List ℕ)) × BytesRule Predicate h.predicates (of_kind sections 3) (of_kind sections 4) texts → Kept h sections 4
predicates_step h sections kept found =
    let read : Reading = kept.0 in (record read { predicates = found.0 }, predicates_kept h sections read found.0 kept.1 found.1)

pub values_step : (h : Header) (sections : List (List ℕ)) → Kept h sections 4
    → (texts : List (List ℕ)) × BytesRule Value h.values (of_kind sections 5) (of_kind sections 6) texts → Kept h sections 6
values_step h sections kept found =
    let read : Reading = kept.0 in (record read { values = found.0 }, values_kept h sections read found.0 kept.1 found.1)

pub additions_step : (h : Header) (sections : List (List ℕ)) → Kept h sections 6 → (parts : PlaneParts) × additions_rule h sections parts 8 → Kept h sections 14
additions_step h sections kept found =
    let read : Reading = kept.0 in (record read { additions = found.0 }, additions_kept h sections read found.0 kept.1 found.1)

pub removals_step : (h : Header) (sections : List (List ℕ)) → Kept h sections 14 → (parts : PlaneParts) × removals_rule h sections parts 8 → Kept h sections 22
removals_step h sections kept found =
    let read : Reading = kept.0 in (record read { removals = found.0 }, removals_kept h sections read found.0 kept.1 found.1)

pub term_map_step : (h : Header) (sections : List (List ℕ)) → Kept h sections 22 → (outer : List ℕ) × MapRule (h.nodes + h.values) (of_kind sections 23) outer
    → Kept h sections 23
term_map_step h sections kept found =
    let read : Reading = kept.0 in (record read { term_map = found.0 }, term_map_kept h sections read found.0 kept.1 found.1)

-- what holds where there is no value, and where there is one
pub none_there : {P : Type 0} (r : Option ℕ) → r ≡ None → IfNone r P → P
none_there {P = P} r e h = subst (λ (o : Option ℕ). IfNone o P) e h

pub some_there : (P : ℕ → Type 0) (r : Option ℕ) (x : ℕ) → r ≡ Some x → IfSome r P → P x
some_there P r x e h = subst (λ (o : Option ℕ). IfSome o P) e h

layer_or_rollup : (kind : PartKind) → (kind ≡ Layer) ⊎ (kind ≡ Rollup)
layer_or_rollup Layer = inl refl
layer_or_rollup Rollup = inr refl

-- all sections of a layer, and of a rollup with its two maps
pub all_kept : (h : Header) (sections : List (List ℕ)) (read : Reading) → KeepUpTo h sections read 22
    → (h.kind ≡ Rollup → (outer : List ℕ) × MapRule (h.nodes + h.values) (of_kind sections 23) outer)
    → (h.kind ≡ Rollup → (outer : List ℕ) × MapRule h.predicates (of_kind sections 24) outer)
    → (read : Reading) × KeepUpTo h sections read (section_count h.kind)
all_kept h sections read keep terms predicates = elim (layer_or_rollup h.kind) [
  | inl layer ↦ (let count : 22 ≡ section_count h.kind = sym (ap section_count layer) in (read, subst (KeepUpTo h sections read) count keep))
  | inr rollup ↦
      let one = terms rollup in
      let two = predicates rollup in
      let with_one = term_map_kept h sections read one.0 keep one.1 in
      let with_two = predicate_map_kept h sections (record read { term_map = one.0 }) two.0 with_one two.1 in
      let count : 24 ≡ section_count h.kind = sym (ap section_count rollup) in
      let with_map : Reading = record read { term_map = one.0 } in
      let last : Reading = record with_map { predicate_map = two.0 } in
      (last, subst (KeepUpTo h sections last) count with_two)
]

-- want of memory, where it is needed
pub memory_error : (h : Header) (sections : List (List ℕ)) (error : LoadError) → error ≡ errors.Memory → NeedsMemory h sections → IsSectionsError h sections error
memory_error h sections error is needs = subst (IsSectionsError h sections) (sym is) needs
