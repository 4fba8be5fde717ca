-- Numbers at a layer: those of an ancestor's terms are the ancestor's, and the others go on from its totals.
use Rattle.std.proofs.Common.{◌≡◌, ℕ, suc, ◌+◌, Bool, true, false, not, ◌&&◌, List, ◌++◌, length, Option, Some, sym, ap, ◌∙◌, arith}
use Rattle.std.specs.Ordering.{eq_by_cmp, is_lt}
use Rattle.std.specs.List.{list_any, AllByRecursion, count_by}
use Rattle.std.proofs.lemmas.Bool.{and_parts, not-true, or_right}
use Rattle.std.proofs.lemmas.List.Folds.{list_any-append}
use Rattle.std.proofs.lemmas.List.{length-append}
use Rattle.std.proofs.lemmas.List.Sorted.{length_permutation}
use Rattle.ts_model.specs.declared.term.TermKind.{TermKind}
use Rattle.ts_model.specs.TextTerm.{TextTerm}
use Rattle.ts_model.specs.Order.{term_cmp, term_cmp_total, term_cmp-IsAntisymmetric}
use Rattle.ts_model.specs.Sets.{SetOf, contains, members, size, difference}
use Rattle.ts_model.specs.History.{History, IsWellKept, chain_of}
use Rattle.ts_model.specs.Birth.{mentions}
use Rattle.ts_model.specs.Listing.{key_cmp}
use Rattle.ts_model.proofs.SetLaws.{contains-members}
use Rattle.ts_model.proofs.SetAlgebra.{contains-difference}
use Rattle.ts_model.proofs.HistoryLaws.{chain_from}
use Rattle.ts_part.specs.Numbers.{IsTermAt, numbered_with, number_of}
use Rattle.ts_part.specs.Step.{IsNewTerm}
use Rattle.ts_part.proofs.Ranks.{each_among, each_weaker, count-agree, count-none, count-all}
use Rattle.ts_part.proofs.Births.{IsOver}
use Rattle.ts_part.proofs.Mentioned.{is_numbered, numbered_together}
use Rattle.ts_part.proofs.Subsets.{count-parts, parts_moved}
use Rattle.ts_part.proofs.Later.{old_first, new_not_first, old_order}

module _ (history : History) (kept : IsWellKept history) where
  -- a member of the terms that are numbered with a kind is a term of the layer
  pub own_term : (kind : TermKind) (at : Option ℕ) (term : TextTerm) → contains (numbered_with kind history at) term ≡ true → IsTermAt history at term
  own_term kind at term is = ap (λ set. contains set term) (sym (numbered_together history kept kind at term is at)) ∙ is

  module _ (from : Option ℕ) (k : ℕ) (over : IsOver history from k) where
    abbrev pub all_of : TermKind → SetOf term_cmp
    all_of kind = numbered_with kind history (Some k)

    abbrev pub old_of : TermKind → SetOf term_cmp
    old_of kind = numbered_with kind history from

    abbrev pub new_of : TermKind → List TextTerm
    new_of kind = members (difference (all_of kind) (old_of kind))

    still_mentioned : (term : TextTerm) → list_any (mentions history term) (chain_from history from) ≡ true → list_any (mentions history term) (chain_of history k) ≡ true
    still_mentioned term is =
        ap (list_any (mentions history term)) over.chain
        ∙ list_any-append (mentions history term) over.front (chain_from history from)
        ∙ or_right (list_any (mentions history term) over.front) (list_any (mentions history term) (chain_from history from)) is

    -- a layer has the terms of its ancestors
    pub still_there : (kind : TermKind) (term : TextTerm) → contains (old_of kind) term ≡ true → contains (all_of kind) term ≡ true
    still_there kind term is =
        ap (λ set. contains set term) (numbered_together history kept kind from term is (Some k))
        ∙ is_numbered history kept (Some k) term
        ∙ still_mentioned term (sym (is_numbered history kept from term) ∙ own_term kind from term is)

    old_terms : (kind : TermKind) → AllByRecursion (IsTermAt history from) (members (old_of kind))
    old_terms kind =
        each_among term_cmp term_cmp_total (IsTermAt history from) (members (old_of kind)) (λ term there.
        own_term kind from term (contains-members term_cmp (old_of kind) term ∙ there))

    pub among_new : (kind : TermKind) (term : TextTerm) → list_any (eq_by_cmp term_cmp term) (new_of kind) ≡ (contains (all_of kind) term && not (contains (old_of kind) term))
    among_new kind term =
        sym (contains-members term_cmp (difference (all_of kind) (old_of kind)) term)
        ∙ contains-difference term_cmp term_cmp_total term_cmp-IsAntisymmetric (all_of kind) (old_of kind) term

    pub is_new : (kind : TermKind) (term : TextTerm) → list_any (eq_by_cmp term_cmp term) (new_of kind) ≡ true → IsNewTerm history from k term
    is_new kind term there =
        let parts = and_parts (contains (all_of kind) term) (not (contains (old_of kind) term)) (sym (among_new kind term) ∙ there) in
        record {
          there = own_term kind (Some k) term parts.0;
          before = ap (λ set. contains set term) (sym (numbered_together history kept kind (Some k) term parts.0 from)) ∙ not-true (contains (old_of kind) term) parts.1;
        }

    pub new_terms_new : (kind : TermKind) → AllByRecursion (IsNewTerm history from k) (new_of kind)
    new_terms_new kind = each_among term_cmp term_cmp_total (IsNewTerm history from k) (new_of kind) (is_new kind)

    count_at : (kind : TermKind) (p : TextTerm → Bool) → count_by p (members (all_of kind)) ≡ count_by p (members (old_of kind)) + count_by p (new_of kind)
    count_at kind p = count-parts term_cmp term_cmp_total term_cmp-IsAntisymmetric (all_of kind) (old_of kind) (still_there kind) p

    -- totals go on
    pub totals-of : (kind : TermKind) → size (all_of kind) ≡ size (old_of kind) + length (new_of kind)
    totals-of kind =
        sym (length_permutation (members (all_of kind)) (members (old_of kind) ++ new_of kind)
        (parts_moved term_cmp term_cmp_total term_cmp-IsAntisymmetric (all_of kind) (old_of kind) (still_there kind)))
        ∙ length-append (members (old_of kind)) (new_of kind)

    abbrev pub lesser : TextTerm → TextTerm → Bool
    lesser term other = is_lt (key_cmp history k other term)

    -- a term of the ancestor comes after others of it alone
    pub number-old : (term : TextTerm) → IsTermAt history from term → number_of history k term ≡ suc (count_by (lesser term) (members (old_of term.kind)))
    unfolding number_of
    number-old term was =
        let none : count_by (lesser term) (new_of term.kind) ≡ 0 =
        count-none (lesser term) (new_of term.kind) (
        each_weaker (IsNewTerm history from k) (λ other. lesser term other ≡ false) (λ other is. new_not_first history kept from k over term other was is.there is.before) (new_of term.kind) (new_terms_new term.kind)) in
        let parts = count_at term.kind (lesser term) in
        ap suc (omega arith)

    -- and any other after all of the ancestor
    pub number-new : (term : TextTerm) → IsNewTerm history from k term → number_of history k term ≡ suc (size (old_of term.kind) + count_by (lesser term) (new_of term.kind))
    unfolding number_of
    number-new term is =
        let all : count_by (lesser term) (members (old_of term.kind)) ≡ size (old_of term.kind) =
        count-all (lesser term) (members (old_of term.kind)) (
        each_weaker (IsTermAt history from) (λ other. lesser term other ≡ true) (λ other was. ap is_lt (old_first history kept from k over other term was is.there is.before)) (members (old_of term.kind)) (old_terms term.kind)) in
        let parts = count_at term.kind (lesser term) in
        ap suc (omega arith)

  -- numbers are stable
  pub number-stays : (a k : ℕ) → IsOver history (Some a) k → (term : TextTerm) → IsTermAt history (Some a) term → number_of history k term ≡ number_of history a term
  unfolding number_of
  number-stays a k over term was =
      number-old (Some a) k over term was
      ∙ ap suc (
      count-agree (λ other. is_lt (key_cmp history k other term)) (λ other. is_lt (key_cmp history a other term)) (members (numbered_with term.kind history (Some a))) (
      each_weaker (IsTermAt history (Some a)) (λ other. is_lt (key_cmp history k other term) ≡ is_lt (key_cmp history a other term)) (λ other is. ap is_lt (old_order history kept a k over other term is was))
      (members (numbered_with term.kind history (Some a))) (old_terms (Some a) k over term.kind)))
