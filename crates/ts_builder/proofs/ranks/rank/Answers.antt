use Rattle.std.proofs.Common.{◌≡◌, ◌+◌, ◌<◌, All, Bor, Contains, List, drop, sym, ap, ◌∙◌, subst, take_all}
use Rattle.std.specs.List.Sorted.{IsPermutation, IsSorted}
use Rattle.std.proofs.lemmas.List.{drop_all, length-map, length-set}
use Rattle.ts_model.specs.Order.{term_cmp}
use Rattle.ts_model.specs.TextTerm.{TextTerm}
use Rattle.ts_builder.proofs.HeadLemmas.{Occurrence}
use Rattle.ts_builder.proofs.RankLemmas.{IsPlaced, Stands, distinct_terms, goes_on, no_more, now, paired_places, paired_terms, placed_more, places_are, resumed, terms_from}
use Rattle.ts_builder.proofs.ranks.rank.Goals as goal

pub loop-pair-preserved : goal.loop-pair-preserved
loop-pair-preserved c =
    let given = now c.args.occurrences.now in
    let pairs = c.deref-pair-items.result.now in
    let i = c.loop-pair.pair-index in
    let pair : Occurrence = c.pair-item.result in
    let terms = now c.loop-pair.terms.items in
    let places = c.loop-pair.places.items in
    let rest = paired_terms (drop (i + 1) pairs) in
    let stand : All (Stands given) pairs = subst {A = List Occurrence} (All (Stands given)) (sym c.deref-pair-items.ensures.value) c.in_ok-pairs.ensures.each in
    record {
      terms = ap (λ terms. resumed terms rest) c.in_ok-places-2.ensures.terms ∙ sym (goes_on terms rest pair.0.now) ∙ ap (resumed terms) (sym (terms_from pairs i pair c.loop-pair-test.true c.pair-item.is)) ∙ c.loop-pair.invariant.terms;
      many = c.loop-pair.invariant.many ∙ sym (length-set places pair.1 c.in_ok-places-2.field-0);
      placed = placed_more given terms (now c.place_of.new.terms.items) pairs i pair places c.in_ok-places-2.field-0 stand c.loop-pair.invariant.placed c.loop-pair-test.true c.pair-item.is
          c.in_ok-places-2.ensures.terms c.in_ok-places-2.ensures.place (length-map c.args.occurrences.now (λ (term : Bor TextTerm). term.now) ∙ c.loop-pair.invariant.many);
    }

pub returns-clause-distinct : goal.returns-clause-distinct
returns-clause-distinct c =
    let given = now c.args.occurrences.now in
    let pairs : List Occurrence = c.deref-pair-items.result.now in
    let terms = now c.loop-pair.terms.items in
    let same : c.in_ok-pairs.pairs.items ≡ pairs = sym c.deref-pair-items.ensures.value in
    sym (no_more terms) ∙ ap (λ (rest : List Occurrence). resumed terms (paired_terms rest)) (sym (drop_all c.loop-pair.pair-index pairs c.loop-pair-test.false)) ∙ c.loop-pair.invariant.terms
    ∙ distinct_terms given (paired_terms pairs) (subst (λ (pairs : List Occurrence). IsPermutation given (paired_terms pairs)) same c.in_ok-pairs.ensures.terms)
    (subst (λ (pairs : List Occurrence). IsSorted term_cmp (paired_terms pairs)) same c.in_ok-pairs.ensures.rising)

pub returns-clause-places : goal.returns-clause-places
returns-clause-places c =
    let given = now c.args.occurrences.now in
    let pairs : List Occurrence = c.deref-pair-items.result.now in
    let terms = now c.loop-pair.terms.items in
    let places = c.loop-pair.places.items in
    let same : c.in_ok-pairs.pairs.items ≡ pairs = sym c.deref-pair-items.ensures.value in
    let many = length-map c.args.occurrences.now (λ (term : Bor TextTerm). term.now) in
    places_are given terms pairs places (many ∙ c.loop-pair.invariant.many)
    (subst (λ (pairs : List Occurrence). All (Stands given) pairs) same c.in_ok-pairs.ensures.each)
    (subst (All (IsPlaced terms places)) (take_all c.loop-pair.pair-index pairs c.loop-pair-test.false) c.loop-pair.invariant.placed)
    (λ place below. subst (λ (pairs : List Occurrence). Contains (paired_places pairs) place) same (c.in_ok-pairs.ensures.places place (subst (λ n. place < n) many below)))
