-- The new terms of each kind, and how many there are: the entries are all of the new nodes and values.
use Rattle.std.proofs.Common.{◌≡◌, ℕ, ◌+◌, ◌⊎◌, inl, inr, Bool, true, not, ◌++◌, filter, length, Option, Some, refl, sym, ap, ◌∙◌, subst, arith, length-append}
use Rattle.std.specs.Prelude.{nat_eq}
use Rattle.std.specs.List.{AllByRecursion, count_by}
use Rattle.std.specs.List.Sorted.{IsPermutation}
use Rattle.std.proofs.lemmas.List.Sorted.{IsPermutation-filter_both, length_permutation}
use Rattle.std.proofs.lemmas.Bool.{and_parts}
use Rattle.ts_model.specs.declared.term.TermKind.{TermKind}
use Rattle.ts_model.specs.declared.term.TermKind.TheVariants.{Node, Predicate, Value}
use Rattle.ts_model.specs.TextTerm.{TextTerm}
use Rattle.ts_model.specs.Order.{kind_place, term_cmp, term_cmp_total}
use Rattle.ts_model.specs.Sets.{contains, size}
use Rattle.ts_model.specs.History.{History, IsWellKept}
use Rattle.ts_part.specs.Numbers.{numbered_with}
use Rattle.ts_part.specs.Step.{is_of_kind, new_terms, IsNewTerm}
use Rattle.ts_part.proofs.Ranks.{count-moved, each_among}
use Rattle.ts_part.proofs.RisingLists.{filter-agree, filter-every}
use Rattle.ts_part.proofs.Births.{IsOver}
use Rattle.ts_part.proofs.Mentioned.{node_or_value_of, predicate_of}
use Rattle.ts_part.proofs.Numbered.{new_of, among_new, totals-of}
use Rattle.ts_part.proofs.NewTerms.{is_in, entries, listed_is_new}

-- a new term of the kind
abbrev pub IsListed : History → Option ℕ → ℕ → TermKind → TextTerm → Type 0
IsListed history from k kind term = (term.kind ≡ kind) × IsNewTerm history from k term

module _ (history : History) (kept : IsWellKept history) (from : Option ℕ) (k : ℕ) (over : IsOver history from k) where
  pub each_listed : (kind : TermKind) → AllByRecursion (IsListed history from k kind) (new_terms kind history from k)
  each_listed kind = each_among term_cmp term_cmp_total (IsListed history from k kind) (new_terms kind history from k) (listed_is_new history kept from k over kind)

  among_all : (kind : TermKind) (term : TextTerm) → is_in (new_of history kept from k over kind) term ≡ true → contains (numbered_with kind history (Some k)) term ≡ true
  among_all kind term there =
      (and_parts (contains (numbered_with kind history (Some k)) term) (not (contains (numbered_with kind history from) term)) (sym (among_new history kept from k over kind term) ∙ there)).0

  node_or_not : (term : TextTerm) → (term.kind ≡ Node) ⊎ (term.kind ≡ Value) → not (is_of_kind Node term) ≡ is_of_kind Value term
  node_or_not term (inl node) = ap (λ kind. not (nat_eq (kind_place kind) 0)) node ∙ ap (λ kind. nat_eq (kind_place kind) 2) (sym node)
  node_or_not term (inr value) = ap (λ kind. not (nat_eq (kind_place kind) 0)) value ∙ ap (λ kind. nat_eq (kind_place kind) 2) (sym value)

  -- the entries are the new nodes and values, in another order
  pub entries_moved : IsPermutation (new_of history kept from k over Node) (entries history kept from k over)
  entries_moved =
      let others : filter (λ term. not (is_of_kind Node term)) (new_of history kept from k over Node) ≡ new_terms Value history from k =
      filter-agree (λ term. not (is_of_kind Node term)) (is_of_kind Value) (new_of history kept from k over Node)
      (each_among term_cmp term_cmp_total (λ term. not (is_of_kind Node term) ≡ is_of_kind Value term) (new_of history kept from k over Node)
      (λ term there. node_or_not term (node_or_value_of history kept (Some k) term (among_all Node term there)))) in
      subst (λ l. IsPermutation (new_of history kept from k over Node) (new_terms Node history from k ++ l)) others
      (IsPermutation-filter_both (is_of_kind Node) (λ term. not (is_of_kind Node term)) (λ term. refl) (new_of history kept from k over Node))

  pub count-entries : (p : TextTerm → Bool) → count_by p (new_of history kept from k over Node) ≡ count_by p (entries history kept from k over)
  count-entries p = sym (count-moved p (new_of history kept from k over Node) (entries history kept from k over) entries_moved)

  pub predicates_are_new : new_terms Predicate history from k ≡ new_of history kept from k over Predicate
  predicates_are_new =
      filter-every (is_of_kind Predicate) (new_of history kept from k over Predicate)
      (each_among term_cmp term_cmp_total (λ term. is_of_kind Predicate term ≡ true) (new_of history kept from k over Predicate)
      (λ term there. ap (λ kind. nat_eq (kind_place kind) 1) (predicate_of history kept (Some k) term (among_all Predicate term there))))

  -- the totals, by the lengths of the lists
  pub entry_total : size (numbered_with Node history from) + length (new_terms Node history from k) + length (new_terms Value history from k) ≡ size (numbered_with Node history (Some k))
  entry_total =
      let all = totals-of history kept from k over Node in
      let long : length (entries history kept from k over) ≡ length (new_of history kept from k over Node) =
      length_permutation (new_of history kept from k over Node) (entries history kept from k over) entries_moved in
      let both = length-append (new_terms Node history from k) (new_terms Value history from k) in
      omega arith

  pub predicate_total : size (numbered_with Predicate history from) + length (new_terms Predicate history from k) ≡ size (numbered_with Predicate history (Some k))
  predicate_total =
      let all = totals-of history kept from k over Predicate in
      let long = ap length predicates_are_new in
      omega arith
