use Rattle.std.proofs.Common.{◌≡◌, All, drop, length, take}
use Rattle.std.specs.List.{dedup}
use Rattle.ts_model.specs.Birth.{is_term}
use Rattle.ts_builder.proofs.RankLemmas.{IsPlaced, now, paired_terms, resumed}
use Rattle.ts_builder.proofs.ranks.rank.Given as goal

abbrev pub invariant-loop-pair : goal.invariant-loop-pair
invariant-loop-pair l = record {
  terms : resumed (now l.terms.items) (paired_terms (drop l.pair-index l.pair-items)) ≡ dedup is_term (paired_terms l.pair-items);
  many : length l.occurrences ≡ length l.places.items;
  placed : All (IsPlaced (now l.terms.items) l.places.items) (take l.pair-index l.pair-items);
}
