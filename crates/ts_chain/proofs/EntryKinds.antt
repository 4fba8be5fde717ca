-- Of which kind the term of a part's number is.
use Rattle.std.proofs.Common.{◌≡◌, ℕ, ◌+◌, inl, inr, length, sym, ap, ◌∙◌, arith}
use Rattle.std.specs.Prelude.{slice_get}
use Rattle.std.specs.Option.{unwrap_or}
use Rattle.std.proofs.lemmas.List.Elements.{All-contains, Contains-append_cases}
use Rattle.ts_model.specs.declared.term.TermKind.TheVariants.{Node, Predicate, Value}
use Rattle.ts_model.specs.TextTerm.{TextTerm, IsTerm}
use Rattle.ts_part.specs.Facts.{Facts, HasTerm, HasPredicate, entries_of}
use Rattle.ts_part.specs.Rules.{KeepsRules}
use Rattle.ts_part.specs.Views.{IsNodeNumber}
use Rattle.ts_part.proofs.EntryLemmas.{entry_within, map_rule, one_entry}
use Rattle.ts_chain.specs.Entries.{IsNodeOrValue}
use Rattle.ts_chain.proofs.Elements.{contains_at}

-- the term of a number is canonical, and a node or a value
pub entry_is : (facts : Facts) → KeepsRules facts → (id : ℕ) (term : TextTerm) → HasTerm facts id term → IsTerm term × IsNodeOrValue term
entry_is facts rules id term has =
    elim (Contains-append_cases facts.nodes facts.values term (contains_at (entries_of facts) has.entry term has.stands)) as (λ _. IsTerm term × IsNodeOrValue term) [
      | inl node ↦ (
        All-contains IsTerm facts.nodes term rules.lists.nodes.canonical node,
        inl (All-contains (λ t. t.kind ≡ Node) facts.nodes term rules.lists.nodes.kinds node),
      )
      | inr value ↦ (
        All-contains IsTerm facts.values term rules.lists.values.canonical value,
        inr (All-contains (λ t. t.kind ≡ Value) facts.values term rules.lists.values.kinds value),
      )
    ]

pub predicate_is : (facts : Facts) → KeepsRules facts → (id : ℕ) (term : TextTerm) → HasPredicate facts id term → IsTerm term × (term.kind ≡ Predicate)
predicate_is facts rules id term has =
    let among = contains_at facts.predicates has.entry term has.stands in (
      All-contains IsTerm facts.predicates term rules.lists.predicates.canonical among,
      All-contains (λ t. t.kind ≡ Predicate) facts.predicates term rules.lists.predicates.kinds among,
    )

-- a number is that of one term
pub one_term : (facts : Facts) → KeepsRules facts → (id : ℕ) (a b : TextTerm) → HasTerm facts id a → HasTerm facts id b → a ≡ b
one_term facts rules id a b first second =
    let same = one_entry facts.kind facts.term_map (length facts.nodes + length facts.values) first.entry second.entry (map_rule facts rules.lists.maps)
    (entry_within facts id a first) (entry_within facts id b second) (let one = first.numbered in let two = second.numbered in omega arith) in
    ap (λ o. unwrap_or o a) (sym first.stands ∙ ap (slice_get (entries_of facts)) same ∙ second.stands)

pub node_kind : (facts : Facts) → KeepsRules facts → (id : ℕ) (term : TextTerm) → IsNodeNumber facts id → HasTerm facts id term → IsTerm term × (Node ≡ term.kind) × IsNodeOrValue term
node_kind facts rules id term node has =
    let is = entry_is facts rules id term has in
    (is.0, sym node.2 ∙ ap (λ (t : TextTerm). t.kind) (one_term facts rules id node.0 term node.1 has), is.1)

pub value_kind : (facts : Facts) → KeepsRules facts → (id : ℕ) (term : TextTerm) → ¬ IsNodeNumber facts id → HasTerm facts id term → IsTerm term × (Value ≡ term.kind) × IsNodeOrValue term
value_kind facts rules id term other has =
    let is = entry_is facts rules id term has in
    elim is.1 as (λ _. IsTerm term × (Value ≡ term.kind) × IsNodeOrValue term) [
      | inl node ↦ absurd (other (term, has, node))
      | inr value ↦ (is.0, sym value, is.1)
    ]
