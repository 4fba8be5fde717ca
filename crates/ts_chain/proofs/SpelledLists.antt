-- Terms of numbers, put in the order of their spellings.
use Rattle.std.proofs.Common.{◌≡◌, ℕ, ◌+◌, inl, inr, List, [], ◌++◌, length, Contains, sym, ap, ◌∙◌, subst, arith, length-append}
use Rattle.std.specs.Prelude.{◌↔◌}
use Rattle.std.specs.List.Sorted.{IsStrictlySortedBy}
use Rattle.std.specs.Ordering.{nat_cmp}
use Rattle.std.proofs.lemmas.List.{length-map, map-append}
use Rattle.std.proofs.lemmas.List.Elements.{Contains-append_cases, Contains-append_left, Contains-append_right}
use Rattle.ts_model.specs.declared.term.TermKind.{TermKind}
use Rattle.ts_model.specs.declared.term.TermKind.TheVariants.{Node, Value}
use Rattle.ts_model.specs.TextTerm.{TextTerm}
use Rattle.ts_model.specs.History.{History}
use Rattle.ts_part.specs.Facts.{Facts}
use Rattle.ts_part.specs.Rules.{TermsRule}
use Rattle.ts_chain.specs.declared.spelled.Entry.{Entry}
use Rattle.ts_chain.specs.Entries.{AreEntries, AreSplit, IsInOrder, ids_of}
use Rattle.ts_chain.specs.Spelled.{AreNamed}
use Rattle.ts_chain.specs.Stands.{StandsFor}
use Rattle.ts_chain.specs.Views.{NamesPredicate, NamesTerm}
use Rattle.ts_chain.proofs.EntryOrders.{are_named, ids_moved, names_sorted, sorted_long, terms_long, terms_rule}
use Rattle.ts_chain.proofs.NamesAtLayers.{names_predicate_at, names_term_at}

-- where a chain stands for a layer, a term has one number
pub one_number : (history : History) (k : ℕ) (parts : List Facts) → StandsFor parts history k → (i j : ℕ) (term : TextTerm) → NamesTerm parts i term → NamesTerm parts j term → i ≡ j
one_number history k parts stands i j term first second = sym (names_term_at history k parts i term stands first).number ∙ (names_term_at history k parts j term stands second).number

pub one_predicate : (history : History) (k : ℕ) (parts : List Facts) → StandsFor parts history k → (i j : ℕ) (term : TextTerm) → NamesPredicate parts i term → NamesPredicate parts j term → i ≡ j
one_predicate history k parts stands i j term first second = sym (names_predicate_at history k parts i term stands first).number ∙ (names_predicate_at history k parts j term stands second).number

-- of one kind
module _ (Names : ℕ → TextTerm → Type 0) (kind : TermKind) (ids : List ℕ) (entries : List Entry) (named : AreEntries Names kind entries) (ids_are : ids_of entries ≡ ids)
    (rise : IsStrictlySortedBy nat_cmp ids) (terms : List TextTerm) (old new : List ℕ) (nothing : old ≡ []) (put : IsInOrder entries terms old new) where
  entries_rise : IsStrictlySortedBy nat_cmp (ids_of entries)
  entries_rise = subst (IsStrictlySortedBy nat_cmp) (sym ids_are) rise

  new_is : new ≡ ids_of put.sorted
  new_is = put.ids_are ∙ ap (λ l. l ++ ids_of put.sorted) nothing

  pub put_rule : ((i j : ℕ) (term : TextTerm) → Names i term → Names j term → i ≡ j) → TermsRule kind terms
  put_rule one = terms_rule Names kind entries named entries_rise terms old new put one

  pub put_ids : (id : ℕ) → Contains new id ↔ Contains ids id
  put_ids id =
      let moved = ids_moved Names kind entries named entries_rise terms old new put id in (
        λ h. subst (λ l. Contains l id) ids_are (moved.0 (subst (λ l. Contains l id) new_is h)),
        λ h. subst (λ l. Contains l id) (sym new_is) (moved.1 (subst (λ l. Contains l id) (sym ids_are) h)),
      )

  pub put_once : length new ≡ length ids
  put_once =
      ap length new_is ∙ length-map put.sorted (λ (e : Entry). e.id) ∙ sorted_long Names kind entries named entries_rise terms old new put
      ∙ sym (length-map entries (λ (e : Entry). e.id)) ∙ ap length ids_are

  pub put_counted : length terms ≡ length ids
  put_counted = terms_long Names kind entries named entries_rise terms old new put ∙ sym (length-map entries (λ (e : Entry). e.id)) ∙ ap length ids_are

  pub put_named : AreNamed Names new terms
  put_named = are_named Names put.sorted new terms new_is put.terms_are (names_sorted Names kind entries named entries_rise terms old new put)

-- of nodes and values
module _ (Names : ℕ → TextTerm → Type 0) (ids : List ℕ) (nodes values : List Entry) (split : AreSplit Names ids nodes values)
    (node_terms value_terms : List TextTerm) (old between new : List ℕ) (nothing : old ≡ []) (first : IsInOrder nodes node_terms old between) (second : IsInOrder values value_terms between new) where
  pub nodes_rule : ((i j : ℕ) (term : TextTerm) → Names i term → Names j term → i ≡ j) → TermsRule Node node_terms
  nodes_rule one = terms_rule Names Node nodes split.nodes_named split.nodes_rise node_terms old between first one

  pub values_rule : ((i j : ℕ) (term : TextTerm) → Names i term → Names j term → i ≡ j) → TermsRule Value value_terms
  values_rule one = terms_rule Names Value values split.values_named split.values_rise value_terms between new second one

  all_new : new ≡ ids_of first.sorted ++ ids_of second.sorted
  all_new = second.ids_are ∙ ap (λ l. l ++ ids_of second.sorted) (first.ids_are ∙ ap (λ l. l ++ ids_of first.sorted) nothing)

  pub both_ids : (id : ℕ) → Contains new id ↔ Contains ids id
  both_ids id =
      let node = ids_moved Names Node nodes split.nodes_named split.nodes_rise node_terms old between first id in
      let value = ids_moved Names Value values split.values_named split.values_rise value_terms between new second id in (
        λ h.
            elim (Contains-append_cases (ids_of first.sorted) (ids_of second.sorted) id (subst (λ l. Contains l id) all_new h)) as (λ _. Contains ids id) [
              | inl a ↦ split.within id (inl (node.0 a))
              | inr b ↦ split.within id (inr (value.0 b))
            ],
        λ h.
            subst (λ l. Contains l id) (sym all_new)
            (elim (split.all id h) as (λ _. Contains (ids_of first.sorted ++ ids_of second.sorted) id) [
              | inl a ↦ Contains-append_left (ids_of first.sorted) (ids_of second.sorted) id (node.1 a)
              | inr b ↦ Contains-append_right (ids_of first.sorted) (ids_of second.sorted) id (value.1 b)
            ]),
      )

  pub both_once : length new ≡ length ids
  both_once =
      let whole = ap length all_new ∙ length-append (ids_of first.sorted) (ids_of second.sorted) in
      let a = length-map first.sorted (λ (e : Entry). e.id) ∙ sorted_long Names Node nodes split.nodes_named split.nodes_rise node_terms old between first in
      let b = length-map second.sorted (λ (e : Entry). e.id) ∙ sorted_long Names Value values split.values_named split.values_rise value_terms between new second in
      let counted = split.counted in
      omega arith

  pub both_counted : length node_terms + length value_terms ≡ length ids
  both_counted =
      let a = terms_long Names Node nodes split.nodes_named split.nodes_rise node_terms old between first in
      let b = terms_long Names Value values split.values_named split.values_rise value_terms between new second in
      let counted = split.counted in
      omega arith

  pub both_named : AreNamed Names new (node_terms ++ value_terms)
  both_named =
      are_named Names (first.sorted ++ second.sorted) new (node_terms ++ value_terms)
      (all_new ∙ sym (map-append (λ (e : Entry). e.id) first.sorted second.sorted))
      ((λ i. first.terms_are i ++ second.terms_are i) ∙ sym (map-append (λ (e : Entry). e.term) first.sorted second.sorted))
      (λ e among.
      elim (Contains-append_cases first.sorted second.sorted e among) as (λ _. Names e.id e.term) [
        | inl a ↦ names_sorted Names Node nodes split.nodes_named split.nodes_rise node_terms old between first e a
        | inr b ↦ names_sorted Names Value values split.values_named split.values_rise value_terms between new second e b
      ])
