use Rattle.std.proofs.Common.{◌≡◌, ℕ, ◌<◌, Some, length, slice_get, take}
use Rattle.ts_builder.proofs.RankLemmas.{now, paired_places, paired_terms}
use Rattle.ts_builder.proofs.ranks.with_places.Given as goal

abbrev pub invariant-loop-place : goal.invariant-loop-place
invariant-loop-place l = record {
  many : length l.pairs.items ≡ l.place;
  terms : paired_terms l.pairs.items ≡ now (take l.place l.occurrences);
  places : (k : ℕ) → k < l.place → slice_get (paired_places l.pairs.items) k ≡ Some k;
}
