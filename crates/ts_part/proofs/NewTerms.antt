-- The new terms of a kind, and the entries that nodes and values are listed as.
use Rattle.std.proofs.Common.{◌≡◌, ℕ, ◌⊎◌, inl, inr, Bool, true, false, not, ◌&&◌, ◌||◌, List, ◌++◌, Option, Some, refl, sym, ap, ◌∙◌, true≢false}
use Rattle.std.specs.Prelude.{nat_eq}
use Rattle.std.specs.Ordering.{eq_by_cmp}
use Rattle.std.specs.List.{list_any}
use Rattle.std.proofs.lemmas.Bool.{and_parts, and_from, or_cases, or_left, or_right, not_from_false}
use Rattle.std.proofs.lemmas.List.Folds.{list_any-append}
use Rattle.ts_model.specs.declared.term.TermKind.{TermKind}
use Rattle.ts_model.specs.declared.term.TermKind.TheVariants.{Node, Predicate, Value}
use Rattle.ts_model.specs.TextTerm.{TextTerm}
use Rattle.ts_model.specs.Order.{kind_place, term_cmp, term_cmp_total, term_cmp-IsAntisymmetric}
use Rattle.ts_model.specs.Sets.{contains}
use Rattle.ts_model.specs.History.{History, IsWellKept}
use Rattle.ts_part.specs.Numbers.{numbered_with}
use Rattle.ts_part.specs.Step.{is_of_kind, new_terms, IsNewTerm}
use Rattle.ts_part.proofs.Births.{IsOver}
use Rattle.ts_part.proofs.Subsets.{among_filter}
use Rattle.ts_part.proofs.Numbered.{among_new, is_new, new_of}

pub same_kind : (a b : TermKind) → nat_eq (kind_place a) (kind_place b) ≡ true → a ≡ b
same_kind Node Node e = refl
same_kind Node Predicate e = absurd (true≢false (sym e))
same_kind Node Value e = absurd (true≢false (sym e))
same_kind Predicate Node e = absurd (true≢false (sym e))
same_kind Predicate Predicate e = refl
same_kind Predicate Value e = absurd (true≢false (sym e))
same_kind Value Node e = absurd (true≢false (sym e))
same_kind Value Predicate e = absurd (true≢false (sym e))
same_kind Value Value e = refl

its_own : (kind : TermKind) → nat_eq (kind_place kind) (kind_place kind) ≡ true
its_own Node = refl
its_own Predicate = refl
its_own Value = refl

abbrev pub is_in : List TextTerm → TextTerm → Bool
is_in terms term = list_any (eq_by_cmp term_cmp term) terms

module _ (history : History) (kept : IsWellKept history) (from : Option ℕ) (k : ℕ) (over : IsOver history from k) where
  among_kind : (kind : TermKind) (term : TextTerm) → is_in (new_terms kind history from k) term ≡ (is_in (new_of history kept from k over kind) term && is_of_kind kind term)
  among_kind kind term = among_filter term_cmp term_cmp_total term_cmp-IsAntisymmetric (is_of_kind kind) (new_of history kept from k over kind) term

  -- what is listed under a kind is a new term of it
  pub listed_is_new : (kind : TermKind) (term : TextTerm) → is_in (new_terms kind history from k) term ≡ true → (term.kind ≡ kind) × IsNewTerm history from k term
  listed_is_new kind term there =
      let parts = and_parts (is_in (new_of history kept from k over kind) term) (is_of_kind kind term) (sym (among_kind kind term) ∙ there) in
      (same_kind term.kind kind parts.1, is_new history kept from k over kind term parts.0)

  -- and each new term is listed under its own
  pub new_is_listed : (kind : TermKind) (term : TextTerm) → term.kind ≡ kind → IsNewTerm history from k term → is_in (new_terms kind history from k) term ≡ true
  new_is_listed kind term is new =
      let own : nat_eq (kind_place term.kind) (kind_place kind) ≡ true = ap (λ other. nat_eq (kind_place term.kind) (kind_place other)) (sym is) ∙ its_own term.kind in
      let there : contains (numbered_with kind history (Some k)) term ≡ true = ap (λ other. contains (numbered_with other history (Some k)) term) (sym is) ∙ new.there in
      let before : contains (numbered_with kind history from) term ≡ false = ap (λ other. contains (numbered_with other history from) term) (sym is) ∙ new.before in
      among_kind kind term
      ∙ and_from (is_in (new_of history kept from k over kind) term) (is_of_kind kind term)
      (among_new history kept from k over kind term
      ∙ and_from (contains (numbered_with kind history (Some k)) term) (not (contains (numbered_with kind history from) term)) there (not_from_false (contains (numbered_with kind history from) term) before))
      own

  -- the entries of nodes and values
  abbrev pub entries : List TextTerm
  entries = new_terms Node history from k ++ new_terms Value history from k

  pub entry_is_new : (term : TextTerm) → is_in entries term ≡ true → ((term.kind ≡ Node) ⊎ (term.kind ≡ Value)) × IsNewTerm history from k term
  entry_is_new term there =
      elim (or_cases (is_in (new_terms Node history from k) term) (is_in (new_terms Value history from k) term)
      (sym (list_any-append (eq_by_cmp term_cmp term) (new_terms Node history from k) (new_terms Value history from k)) ∙ there))
      as (λ _. ((term.kind ≡ Node) ⊎ (term.kind ≡ Value)) × IsNewTerm history from k term) [
        | inl node ↦ (let is = listed_is_new Node term node in (inl is.0, is.1))
        | inr value ↦ (let is = listed_is_new Value term value in (inr is.0, is.1))
      ]

  pub new_is_entry : (term : TextTerm) → (term.kind ≡ Node) ⊎ (term.kind ≡ Value) → IsNewTerm history from k term → is_in entries term ≡ true
  new_is_entry term kind new =
      list_any-append (eq_by_cmp term_cmp term) (new_terms Node history from k) (new_terms Value history from k)
      ∙ elim kind as (λ _. (is_in (new_terms Node history from k) term || is_in (new_terms Value history from k) term) ≡ true) [
        | inl node ↦ or_left (is_in (new_terms Node history from k) term) (is_in (new_terms Value history from k) term) (new_is_listed Node term node new)
        | inr value ↦ or_right (is_in (new_terms Node history from k) term) (is_in (new_terms Value history from k) term) (new_is_listed Value term value new)
      ]
