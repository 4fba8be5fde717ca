-- The maps of a rollup give each of its entries one of its new numbers.
use Rattle.std.proofs.Common.{◌≡◌, ℕ, ◌+◌, ◌-◌, ◌<◌, ◌≤◌, true, List, [], map, length, get_or, Option, Some, sym, ap, ◌∙◌, subst, true≢false, arith, length-append}
use Rattle.std.specs.Ordering.{eq_by_cmp, is_eq}
use Rattle.std.specs.Cmp.{tied_itself}
use Rattle.std.specs.List.{AllByRecursion, IsDistinct}
use Rattle.std.proofs.lemmas.List.{get_or-map, length-map}
use Rattle.std.proofs.lemmas.List.Elements.{All-from_recursion, All-get_or}
use Rattle.std.proofs.lemmas.Map.Keys.{IsDistinct-from_sorted, IsDistinct-IsPermutation, apart_from_distinct}
use Rattle.std.specs.Cmp.{eq_by_cmp_equiv}
use Rattle.ts_model.specs.declared.term.TermKind.{TermKind}
use Rattle.ts_model.specs.declared.term.TermKind.TheVariants.{Node, Predicate, Value}
use Rattle.ts_model.specs.TextTerm.{TextTerm}
use Rattle.ts_model.specs.Order.{term_cmp, term_cmp_total}
use Rattle.ts_model.specs.Sets.{contains, difference, size}
use Rattle.ts_model.specs.History.{History, IsWellKept}
use Rattle.ts_model.proofs.SetLaws.{IsStrictlySortedBy-members}
use Rattle.ts_idmap.specs.Permutation.{Permutes}
use Rattle.ts_part.specs.Numbers.{numbered_with, number_of, totals_at}
use Rattle.ts_part.specs.Step.{new_terms, number_after}
use Rattle.ts_part.proofs.Ranks.{each_among}
use Rattle.ts_part.proofs.RisingLists.{each-map}
use Rattle.ts_part.proofs.Births.{IsOver}
use Rattle.ts_part.proofs.Numbered.{all_of, old_of, new_of}
use Rattle.ts_part.proofs.IdOrder.{node_at, predicate_at}
use Rattle.ts_part.proofs.Mentioned.{numbered_as_node}
use Rattle.ts_part.proofs.Places.{number-once, number-within}
use Rattle.ts_part.proofs.NewNumbers.{new_beyond}
use Rattle.ts_part.proofs.NewTerms.{entries, entry_is_new, is_in, listed_is_new}
use Rattle.ts_part.proofs.EntryCounts.{predicates_are_new, entries_moved, entry_total, predicate_total}

module _ (history : History) (kept : IsWellKept history) (k : ℕ) where
  -- of so many terms before: a term's number is after these, and no more than as many as the list has
  pub record Follows (kind : TermKind) (before long : ℕ) (term : TextTerm) : Type 0 where
    pub there : contains (numbered_with kind history (Some k)) term ≡ true
    pub more : before < number_of history k term
    pub within : number_of history k term ≤ before + long

  map_permutes : (kind : TermKind) (before : ℕ) (xs : List TextTerm) → AllByRecursion (Follows kind before (length xs)) xs → IsDistinct (eq_by_cmp term_cmp) xs
      → Permutes (map (number_after before history k) xs)
  map_permutes kind before xs each distinct = record {
    within = All-from_recursion (λ n. n < length (map (number_after before history k) xs)) (map (number_after before history k) xs)
        (each-map (number_after before history k) (Follows kind before (length xs)) (λ n. n < length (map (number_after before history k) xs)) (λ term h.
        let long : length (map (number_after before history k) xs) ≡ length xs = length-map xs (number_after before history k) in
        let more = h.more in
        let within = h.within in
        omega arith) xs each);
    distinct = λ i j d before_j below same.
        let long : length (map (number_after before history k) xs) ≡ length xs = length-map xs (number_after before history k) in
        differ xs i j d before_j (omega arith) (length xs) each distinct same;
  }
    where
      nowhere : TextTerm
      nowhere = record { kind = Node; spelling = [] }

      differ : (xs : List TextTerm) (i j d : ℕ) → i < j → j < length xs → (long : ℕ) → AllByRecursion (Follows kind before long) xs → IsDistinct (eq_by_cmp term_cmp) xs
          → get_or (map (number_after before history k) xs) i d ≡ get_or (map (number_after before history k) xs) j d → ⊥
      differ xs i j d before_j below long each distinct same =
          let first = All-get_or (Follows kind before long) xs i nowhere (omega arith) (All-from_recursion (Follows kind before long) xs each) in
          let second = All-get_or (Follows kind before long) xs j nowhere below (All-from_recursion (Follows kind before long) xs each) in
          let first_is : get_or (map (number_after before history k) xs) i d ≡ number_of history k (get_or xs i nowhere) - before - 1 = get_or-map (number_after before history k) xs i nowhere d (omega arith) in
          let second_is : get_or (map (number_after before history k) xs) j d ≡ number_of history k (get_or xs j nowhere) - before - 1 = get_or-map (number_after before history k) xs j nowhere d below in
          let more = first.more in
          let other_more = second.more in
          let numbers : number_of history k (get_or xs i nowhere) ≡ number_of history k (get_or xs j nowhere) = omega arith in
          let one : get_or xs i nowhere ≡ get_or xs j nowhere = number-once history kept k kind (get_or xs i nowhere) (get_or xs j nowhere) first.there second.there numbers in
          true≢false (sym (ap is_eq (tied_itself term_cmp_total (get_or xs i nowhere))) ∙ ap (eq_by_cmp term_cmp (get_or xs i nowhere)) one ∙ apart_from_distinct (eq_by_cmp term_cmp) xs i j nowhere distinct before_j below)

  module _ (from : Option ℕ) (over : IsOver history from k) where
    distinct_new : (kind : TermKind) → IsDistinct (eq_by_cmp term_cmp) (new_of history kept from k over kind)
    distinct_new kind =
        IsDistinct-from_sorted term_cmp (new_of history kept from k over kind)
        (IsStrictlySortedBy-members term_cmp (difference (all_of history kept from k over kind) (old_of history kept from k over kind)))

    entry_follows : (term : TextTerm) → is_in (entries history kept from k over) term ≡ true → Follows Node (totals_at history from).0 (length (entries history kept from k over)) term
    entry_follows term there =
        let new = entry_is_new history kept from k over term there in
        let is : contains (numbered_with Node history (Some k)) term ≡ true = node_at history kept (Some k) term new.0 new.1.there in
        let before : size (numbered_with term.kind history from) ≡ (totals_at history from).0 = ap size (numbered_as_node history from term.kind new.0) in
        let more = new_beyond history kept from k over term new.1 in
        let within = number-within history kept k Node term is in
        let total = entry_total history kept from k over in
        let both = length-append (new_terms Node history from k) (new_terms Value history from k) in
        record { there = is; more = omega arith; within = omega arith }

    pub term_map_permutes : Permutes (map (number_after (totals_at history from).0 history k) (entries history kept from k over))
    term_map_permutes =
        map_permutes Node (totals_at history from).0 (entries history kept from k over)
        (each_among term_cmp term_cmp_total (Follows Node (totals_at history from).0 (length (entries history kept from k over))) (entries history kept from k over) entry_follows)
        (IsDistinct-IsPermutation (eq_by_cmp term_cmp) (eq_by_cmp_equiv term_cmp_total).symm (new_of history kept from k over Node) (entries history kept from k over) (entries_moved history kept from k over) (distinct_new Node))

    predicate_follows : (term : TextTerm) → is_in (new_terms Predicate history from k) term ≡ true → Follows Predicate (totals_at history from).1 (length (new_terms Predicate history from k)) term
    predicate_follows term there =
        let new = listed_is_new history kept from k over Predicate term there in
        let is : contains (numbered_with Predicate history (Some k)) term ≡ true = predicate_at history kept (Some k) term new.0 new.1.there in
        let before : size (numbered_with term.kind history from) ≡ (totals_at history from).1 = ap (λ kind. size (numbered_with kind history from)) new.0 in
        let more = new_beyond history kept from k over term new.1 in
        let within = number-within history kept k Predicate term is in
        let total = predicate_total history kept from k over in
        record { there = is; more = omega arith; within = omega arith }

    pub predicate_map_permutes : Permutes (map (number_after (totals_at history from).1 history k) (new_terms Predicate history from k))
    predicate_map_permutes =
        map_permutes Predicate (totals_at history from).1 (new_terms Predicate history from k)
        (each_among term_cmp term_cmp_total (Follows Predicate (totals_at history from).1 (length (new_terms Predicate history from k))) (new_terms Predicate history from k) predicate_follows)
        (subst (IsDistinct (eq_by_cmp term_cmp)) (sym (predicates_are_new history kept from k over)) (distinct_new Predicate))
