use Rattle.std.proofs.Common.{rules, ◌≡◌, ℕ, ◌<◌, ◌∙◌, Bor, List, Some, drop, length, slice_get, subst, sym}
use Rattle.std.specs.Ordering.{is_lt}
use Rattle.std.specs.List.Sorted.{IsPermutation}
use Rattle.std.proofs.lemmas.List.{length-map}
use Rattle.std.proofs.lemmas.List.Sorted.{IsPermutation-trans, answers_always, ranks_by}
use Rattle.ts_model.specs.Order.{term_cmp, term_cmp_total}
use Rattle.ts_model.specs.TextTerm.{TextTerm}
use Rattle.ts_builder.specs.Ranks.{placed}
use Rattle.ts_builder.proofs.HeadLemmas.{Occurrence, same_many, sort_moves, whole_front}
use Rattle.ts_builder.proofs.RankLemmas.{each_place, now, paired_places, paired_terms, rising_terms, stand_first, stand_moved, terms_moved}
use Rattle.ts_builder.proofs.ranks.in_order.Goals as goal

arranged : (c : goal.In_ok-sort_by) → IsPermutation (placed c.in_ok-pairs.pairs.items) (placed c.arrange.new.occurrences)
arranged c = subst (λ pairs. IsPermutation (placed pairs) (placed c.arrange.new.occurrences)) c.deref_mut.ensures.value c.arrange.ensures

-- the terms and their places are those that were
moved : (c : goal.In_ok-sort_by) → IsPermutation (placed c.in_ok-pairs.pairs.items) (placed c.sort_by.new.self.items)
moved c =
    let pairs = c.in_ok-pairs.pairs in
    let after = c.arrange.new.occurrences in
    let sorted = c.sort_by.new.self.items in
    let lent = whole_front after (drop (length after) pairs.items) pairs.len (pairs.ok.0 ∙ sym (same_many pairs.items after (arranged c))) in
    IsPermutation-trans (placed pairs.items) (placed after) (placed sorted) (arranged c)
    (sort_moves after sorted (subst (λ (before : List Occurrence). IsPermutation before sorted) lent c.in_ok-sort_by.ensures.permutation))

pub returns-clause-terms : goal.returns-clause-terms
returns-clause-terms c =
    subst (λ terms. IsPermutation terms (paired_terms c.sort_by.new.self.items)) c.in_ok-pairs.ensures.terms (terms_moved c.in_ok-pairs.pairs.items c.sort_by.new.self.items (moved c))

pub returns-clause-rising : goal.returns-clause-rising
returns-clause-rising c =
    rising_terms c.sort_by.new.self.items (c.in_ok-sort_by.ensures.sorted (λ (x y : Occurrence). is_lt (term_cmp x.0.now y.0.now)) (ranks_by term_cmp_total (λ (occurrence : Occurrence). occurrence.0.now))
    (answers_always _ _ _ (λ f a r f' k. search rules)))

-- a place is one among all terms
places : (c : goal.In_ok-sort_by) → (place : ℕ) → place < length (now c.args.occurrences.now) → slice_get (paired_places c.in_ok-pairs.pairs.items) place ≡ Some place
places c place below = c.in_ok-pairs.ensures.places place (subst (λ n. place < n) (length-map c.args.occurrences.now (λ (term : Bor TextTerm). term.now)) below)

pub returns-clause-each : goal.returns-clause-each
returns-clause-each c =
    stand_moved (now c.args.occurrences.now) c.in_ok-pairs.pairs.items c.sort_by.new.self.items (moved c)
    (stand_first (now c.args.occurrences.now) c.in_ok-pairs.pairs.items c.in_ok-pairs.ensures.terms (places c))

pub returns-clause-places : goal.returns-clause-places
returns-clause-places c = λ place below.
    each_place (now c.args.occurrences.now) c.in_ok-pairs.pairs.items c.sort_by.new.self.items (moved c) (places c) place
    (subst (λ n. place < n) (sym (length-map c.args.occurrences.now (λ (term : Bor TextTerm). term.now))) below)
