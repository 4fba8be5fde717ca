use Rattle.std.proofs.Common.{◌+◌, length, slice_get, ap, ◌∙◌}
use Rattle.std.proofs.lemmas.List.{length_push}
use Rattle.ts_builder.proofs.RankLemmas.{paired_places, paired_terms, places_more, terms_more}
use Rattle.ts_builder.proofs.ranks.with_places.Goals as goal

pub loop-place-preserved : goal.loop-place-preserved
loop-place-preserved c =
    let items = c.in_ok-push.ensures.items in
    let place = c.loop-place.place in
    let before = c.loop-place.invariant in
    record {
      many = ap length items ∙ length_push c.loop-place.pairs.items _ ∙ ap (λ n. n + 1) before.many;
      terms = ap paired_terms items ∙ terms_more c.args.occurrences.now c.loop-place.pairs.items place c.index-occurrences-place.result before.terms c.loop-place-test.true c.index-occurrences-place.is;
      places = λ k below. ap (λ pairs. slice_get (paired_places pairs) k) items ∙ places_more c.loop-place.pairs.items place c.index-occurrences-place.result before.many before.places k below;
    }
