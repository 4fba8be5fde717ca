-- The entries of a part's terms, and their numbers.
use Rattle.std.proofs.Common.{◌≡◌, ◌≢◌, ℕ, ◌+◌, ◌-◌, ◌<◌, ◌≤◌, List, [], ◌++◌, length, get_or, slice_get, Some, inl, inr, refl, sym, ◌∙◌, ap, subst, arith, All}
use Rattle.std.proofs.lemmas.Bool.{cases_eq, cases_lt}
use Rattle.std.proofs.lemmas.List.{get_or-map, get_or_append_left, get_or-append-add, length-append, length-map}
use Rattle.std.proofs.lemmas.Option.{get_or_from_slice_get, slice_get-get_or, slice_get_within}
use Rattle.ts_front.specs.Shared.{text_at}
use Rattle.ts_idmap.specs.Permutation.{Permutes}
use Rattle.ts_model.specs.declared.term.TermKind.{TermKind}
use Rattle.ts_model.specs.declared.term.TermKind.TheVariants.{Node, Predicate, Value}
use Rattle.ts_model.specs.TextTerm.{TextTerm}
use Rattle.ts_part.specs.declared.header.PartKind.{PartKind}
use Rattle.ts_part.specs.declared.header.PartKind.TheVariants.{Layer, Rollup}
use Rattle.ts_part.specs.Facts.{Facts, HasTerm, HasPredicate, entries_of, outer_number, spellings}
use Rattle.ts_part.specs.Part.{HasKinds}
use Rattle.ts_part.specs.Rules.{MapsRule}
use Rattle.ts_part.specs.Views.{AppendsPredicate, AppendsTerm, IsNodeNumber, IsPredicateNumber, IsTermNumber, LacksPredicate, LacksTerm}

abbrev no_term : TermKind → TextTerm
no_term kind = record { kind = kind; spelling = [] }

-- the term at a place of a list of one kind
pub text_here : (kind : TermKind) (terms : List TextTerm) (i : ℕ) (text : List ℕ) → All (λ term. term.kind ≡ kind) terms → i < length terms
    → text_at (spellings terms) i ≡ text → slice_get terms i ≡ Some (record { kind = kind; spelling = text })
text_here kind terms i text kinds h is =
    slice_get-get_or terms i (no_term kind) h
    ∙ ap (λ k. Some (record { kind = k; spelling = (get_or terms i (no_term kind)).spelling })) (kinds i (no_term kind) h)
    ∙ ap (λ (t : List ℕ). Some (record { kind = kind; spelling = t })) (sym (get_or-map (λ (t : TextTerm). t.spelling) terms i (no_term kind) [] h) ∙ is)

-- and back
pub text_of : (terms : List TextTerm) (i : ℕ) (term : TextTerm) → slice_get terms i ≡ Some term → text_at (spellings terms) i ≡ term.spelling
text_of terms i term e =
    get_or-map (λ (t : TextTerm). t.spelling) terms i term [] (slice_get_within terms i term e)
    ∙ ap (λ (t : TextTerm). t.spelling) (get_or_from_slice_get terms i term term e)

pub kind_of : (kind : TermKind) (terms : List TextTerm) (i : ℕ) (term : TextTerm) → All (λ t. t.kind ≡ kind) terms → slice_get terms i ≡ Some term → term.kind ≡ kind
kind_of kind terms i term kinds e =
    ap (λ (t : TextTerm). t.kind) (sym (get_or_from_slice_get terms i term term e)) ∙ kinds i term (slice_get_within terms i term e)

-- an entry of two lists joined is one of the first, or one of the second
pub first_entry : (xs ys : List TextTerm) (i : ℕ) → i < length xs → slice_get (xs ++ ys) i ≡ slice_get xs i
first_entry xs ys i h =
    let d : TextTerm = record { kind = Node; spelling = [] } in
    slice_get-get_or (xs ++ ys) i d (omega (arith, length-append xs ys)) ∙ ap (λ (t : TextTerm). Some t) (get_or_append_left xs ys d i h)
    ∙ sym (slice_get-get_or xs i d h)

pub second_entry : (xs ys : List TextTerm) (i : ℕ) → i < length ys → slice_get (xs ++ ys) (length xs + i) ≡ slice_get ys i
second_entry xs ys i h =
    let d : TextTerm = record { kind = Node; spelling = [] } in
    slice_get-get_or (xs ++ ys) (length xs + i) d (omega (arith, length-append xs ys))
    ∙ ap (λ (t : TextTerm). Some t) (get_or-append-add xs ys i d)
    ∙ sym (slice_get-get_or ys i d h)

-- no entry of the nodes and values is a node but one of the nodes
pub node_entry : (facts : Facts) (i : ℕ) (term : TextTerm) → HasKinds facts → slice_get (entries_of facts) i ≡ Some term → term.kind ≡ Node → i < length facts.nodes
node_entry facts i term kinds stands node = elim (cases_lt i (length facts.nodes)) [
  | inl first ↦ first
  | inr second ↦
      let within = slice_get_within (entries_of facts) i term stands in
      let e : length facts.nodes + (i - length facts.nodes) ≡ i = omega arith in
      let here : slice_get facts.values (i - length facts.nodes) ≡ Some term =
      sym (second_entry facts.nodes facts.values (i - length facts.nodes) (omega (arith, length-append facts.nodes facts.values)))
      ∙ ap (slice_get (entries_of facts)) e ∙ stands in
      let other : Node ≡ Value = sym node ∙ kind_of Value facts.values (i - length facts.nodes) term kinds.values here in
      absurd (cc)
]

-- nor a value but one of the values
pub value_entry : (facts : Facts) (i : ℕ) (term : TextTerm) → HasKinds facts → slice_get (entries_of facts) i ≡ Some term → term.kind ≡ Value
    → (length facts.nodes ≤ i) × (slice_get facts.values (i - length facts.nodes) ≡ Some term)
value_entry facts i term kinds stands value = elim (cases_lt i (length facts.nodes)) [
  | inl first ↦
      let other : Value ≡ Node = sym value ∙ kind_of Node facts.nodes i term kinds.nodes (sym (first_entry facts.nodes facts.values i first) ∙ stands) in
      absurd (cc)
  | inr second ↦
      let within = slice_get_within (entries_of facts) i term stands in
      let e : length facts.nodes + (i - length facts.nodes) ≡ i = omega arith in (
        second,
        sym (second_entry facts.nodes facts.values (i - length facts.nodes) (omega (arith, length-append facts.nodes facts.values)))
            ∙ ap (slice_get (entries_of facts)) e ∙ stands,
      )
]

-- a text of a dictionary that is found, as a term
pub record IsFound (texts : List (List ℕ)) (text : List ℕ) (i : ℕ) : Type 0 where
  pub within : i < length texts
  pub is : text_at texts i ≡ text

pub node_there : (facts : Facts) (texts : List (List ℕ)) (text : List ℕ) (i : ℕ) → HasKinds facts → texts ≡ spellings facts.nodes → IsFound texts text i
    → slice_get (entries_of facts) i ≡ Some (record { kind = Node; spelling = text })
node_there facts texts text i kinds same found =
    let within : i < length facts.nodes = omega (arith, found.within, ap length same, length-map facts.nodes (λ (t : TextTerm). t.spelling)) in
    first_entry facts.nodes facts.values i within ∙ text_here Node facts.nodes i text kinds.nodes within (ap (λ (l : List (List ℕ)). text_at l i) (sym same) ∙ found.is)

pub value_there : (facts : Facts) (texts : List (List ℕ)) (text : List ℕ) (before i : ℕ) → HasKinds facts → before ≡ length facts.nodes → texts ≡ spellings facts.values
    → IsFound texts text i → slice_get (entries_of facts) (before + i) ≡ Some (record { kind = Value; spelling = text })
value_there facts texts text before i kinds e same found =
    let within : i < length facts.values = omega (arith, found.within, ap length same, length-map facts.values (λ (t : TextTerm). t.spelling)) in
    ap (λ n. slice_get (entries_of facts) (n + i)) e
    ∙ second_entry facts.nodes facts.values i within ∙ text_here Value facts.values i text kinds.values within (ap (λ (l : List (List ℕ)). text_at l i) (sym same) ∙ found.is)

pub predicate_there : (facts : Facts) (texts : List (List ℕ)) (text : List ℕ) (i : ℕ) → HasKinds facts → texts ≡ spellings facts.predicates → IsFound texts text i
    → slice_get facts.predicates i ≡ Some (record { kind = Predicate; spelling = text })
predicate_there facts texts text i kinds same found =
    let within : i < length facts.predicates = omega (arith, found.within, ap length same, length-map facts.predicates (λ (t : TextTerm). t.spelling)) in
    text_here Predicate facts.predicates i text kinds.predicates within (ap (λ (l : List (List ℕ)). text_at l i) (sym same) ∙ found.is)

-- a text that a dictionary lacks
abbrev pub IsAbsent : List (List ℕ) → List ℕ → Type 0
IsAbsent texts text = (i : ℕ) → i < length texts → text_at texts i ≢ text

absent_here : (terms : List TextTerm) (texts : List (List ℕ)) (i : ℕ) (term : TextTerm) → texts ≡ spellings terms → slice_get terms i ≡ Some term → IsAbsent texts term.spelling → ⊥
absent_here terms texts i term same stands absent =
    absent i (omega (arith, ap length same, length-map terms (λ (t : TextTerm). t.spelling), slice_get_within terms i term stands))
    (ap (λ (l : List (List ℕ)). text_at l i) same ∙ text_of terms i term stands)

pub lacks_node : (facts : Facts) (texts : List (List ℕ)) (text : List ℕ) → HasKinds facts → texts ≡ spellings facts.nodes → IsAbsent texts text → LacksTerm facts Node text
lacks_node facts texts text kinds same absent = λ number has.
    let first = node_entry facts has.entry (record { kind = Node; spelling = text }) kinds has.stands refl in
    absent_here facts.nodes texts has.entry (record { kind = Node; spelling = text }) same (sym (first_entry facts.nodes facts.values has.entry first) ∙ has.stands) absent

pub lacks_value : (facts : Facts) (texts : List (List ℕ)) (text : List ℕ) → HasKinds facts → texts ≡ spellings facts.values → IsAbsent texts text → LacksTerm facts Value text
lacks_value facts texts text kinds same absent = λ number has.
    let second = value_entry facts has.entry (record { kind = Value; spelling = text }) kinds has.stands refl in
    absent_here facts.values texts (has.entry - length facts.nodes) (record { kind = Value; spelling = text }) same second.1 absent

pub lacks_predicate : (facts : Facts) (texts : List (List ℕ)) (text : List ℕ) → texts ≡ spellings facts.predicates → IsAbsent texts text → LacksPredicate facts Predicate text
lacks_predicate facts texts text same absent = λ number has.
    absent_here facts.predicates texts has.entry (record { kind = Predicate; spelling = text }) same has.stands absent

-- each new number is that of one entry
pub one_entry : (kind : PartKind) (outer : List ℕ) (count a b : ℕ) → (kind ≡ Rollup → Permutes outer × (length outer ≡ count)) → a < count → b < count
    → outer_number kind outer a ≡ outer_number kind outer b → a ≡ b
one_entry Layer outer count a b rule low high e = e
one_entry Rollup outer count a b rule low high e =
    let all = rule refl in
    elim (cases_eq a b) [
      | inl same ↦ same
      | inr other ↦ elim (cases_lt a b) [
        | inl less ↦ absurd (all.0.distinct a b 0 less (omega (arith, all.1)) e)
        | inr more ↦ absurd (all.0.distinct b a 0 (omega arith) (omega (arith, all.1)) (sym e))
      ]
    ]

pub entry_within : (facts : Facts) (number : ℕ) (term : TextTerm) (has : HasTerm facts number term) → has.entry < length facts.nodes + length facts.values
entry_within facts number term has =
    omega (arith, slice_get_within (entries_of facts) has.entry term has.stands, length-append facts.nodes facts.values)

pub map_rule : (facts : Facts) → MapsRule facts.kind facts → facts.kind ≡ Rollup → Permutes facts.term_map × (length facts.term_map ≡ length facts.nodes + length facts.values)
map_rule facts rule rollup = (let r = subst (λ (k : PartKind). MapsRule k facts) rollup rule in (r.0, r.1))

-- an entry has one of as many numbers
outer_within : (kind : PartKind) (outer : List ℕ) (count entry : ℕ) → (kind ≡ Rollup → Permutes outer × (length outer ≡ count)) → entry < count
    → outer_number kind outer entry < count
outer_within Layer outer count entry rule low = low
outer_within Rollup outer count entry rule low =
    let all = rule refl in
    omega (arith, all.1, all.0.within entry 0 (omega (arith, all.1)))

-- the number of a node or value is one of the new ones
pub term_within : (facts : Facts) (number : ℕ) (term : TextTerm) → MapsRule facts.kind facts → HasTerm facts number term → IsTermNumber facts number
term_within facts number term rule has =
    let low = outer_within facts.kind facts.term_map (length facts.nodes + length facts.values) has.entry (map_rule facts rule) (entry_within facts number term has) in
    record { above = omega (arith, has.numbered); within = omega (arith, has.numbered, low) }

predicate_rule : (facts : Facts) → MapsRule facts.kind facts → facts.kind ≡ Rollup → Permutes facts.predicate_map × (length facts.predicate_map ≡ length facts.predicates)
predicate_rule facts rule rollup = (let r = subst (λ (k : PartKind). MapsRule k facts) rollup rule in (r.2, r.3))

pub predicate_within : (facts : Facts) (number : ℕ) (term : TextTerm) → MapsRule facts.kind facts → HasPredicate facts number term → IsPredicateNumber facts number
predicate_within facts number term rule has =
    let low = outer_within facts.kind facts.predicate_map (length facts.predicates) has.entry (predicate_rule facts rule)
    (slice_get_within facts.predicates has.entry term has.stands) in
    record { above = omega (arith, has.numbered); within = omega (arith, has.numbered, low) }

-- the node of an entry, with its number
pub is_node : (facts : Facts) (number entry : ℕ) → HasKinds facts → number ≡ facts.terms_before + 1 + outer_number facts.kind facts.term_map entry
    → entry < length facts.nodes → IsNodeNumber facts number
is_node facts number entry kinds numbered first = (
  get_or facts.nodes entry (record { kind = Node; spelling = [] }),
  (record {
    entry = entry;
    stands = first_entry facts.nodes facts.values entry first ∙ slice_get-get_or facts.nodes entry (record { kind = Node; spelling = [] }) first;
    numbered = numbered;
  }),
  kinds.nodes entry (record { kind = Node; spelling = [] }) first,
)

-- and back
pub node_is : (facts : Facts) (number entry : ℕ) → HasKinds facts → MapsRule facts.kind facts → number ≡ facts.terms_before + 1 + outer_number facts.kind facts.term_map entry
    → entry < length facts.nodes + length facts.values → IsNodeNumber facts number → entry < length facts.nodes
node_is facts number entry kinds rule numbered within is =
    let has = is.1 in
    let same : outer_number facts.kind facts.term_map entry ≡ outer_number facts.kind facts.term_map has.entry = omega (arith, numbered, has.numbered) in
    let one = one_entry facts.kind facts.term_map (length facts.nodes + length facts.values) entry has.entry (map_rule facts rule) within (entry_within facts number is.0 has) same in
    let node = node_entry facts has.entry is.0 kinds has.stands is.2 in
    omega (arith, one, node)

-- the spelling of an entry, written
pub node_written : (facts : Facts) (number entry : ℕ) (texts : List (List ℕ)) (old new : List ℕ) → HasKinds facts
    → number ≡ facts.terms_before + 1 + outer_number facts.kind facts.term_map entry → texts ≡ spellings facts.nodes → entry < length facts.nodes
    → new ≡ old ++ text_at texts entry → AppendsTerm facts number old new
node_written facts number entry texts old new kinds numbered same within written = record {
  term = record { kind = Node; spelling = text_at texts entry };
  there = record {
    entry = entry;
    stands = node_there facts texts (text_at texts entry) entry kinds same
        (record { within = omega (arith, ap length same, length-map facts.nodes (λ (t : TextTerm). t.spelling)); is = refl });
    numbered = numbered;
  };
  written = written;
}

pub value_written : (facts : Facts) (number entry before : ℕ) (texts : List (List ℕ)) (old new : List ℕ) → HasKinds facts
    → number ≡ facts.terms_before + 1 + outer_number facts.kind facts.term_map entry → texts ≡ spellings facts.values → before ≡ length facts.nodes
    → before ≤ entry → entry < length facts.nodes + length facts.values → new ≡ old ++ text_at texts (entry - before) → AppendsTerm facts number old new
value_written facts number entry before texts old new kinds numbered same many high within written =
    let e : before + (entry - before) ≡ entry = omega arith in
    record {
      term = record { kind = Value; spelling = text_at texts (entry - before) };
      there = record {
        entry = entry;
        stands = ap (slice_get (entries_of facts)) (sym e)
            ∙ value_there facts texts (text_at texts (entry - before)) before (entry - before) kinds many same
            (record { within = omega (arith, ap length same, length-map facts.values (λ (t : TextTerm). t.spelling)); is = refl });
        numbered = numbered;
      };
      written = written;
    }

pub predicate_written : (facts : Facts) (number entry : ℕ) (texts : List (List ℕ)) (old new : List ℕ) → HasKinds facts
    → number ≡ facts.predicates_before + 1 + outer_number facts.kind facts.predicate_map entry → texts ≡ spellings facts.predicates → entry < length facts.predicates
    → new ≡ old ++ text_at texts entry → AppendsPredicate facts number old new
predicate_written facts number entry texts old new kinds numbered same within written = record {
  term = record { kind = Predicate; spelling = text_at texts entry };
  there = record {
    entry = entry;
    stands = predicate_there facts texts (text_at texts entry) entry kinds same
        (record { within = omega (arith, ap length same, length-map facts.predicates (λ (t : TextTerm). t.spelling)); is = refl });
    numbered = numbered;
  };
  written = written;
}
