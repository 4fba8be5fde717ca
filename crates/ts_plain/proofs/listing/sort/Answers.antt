use Rattle.std.proofs.Common.{rules}
use Rattle.std.specs.Ordering.{is_lt}
use Rattle.std.proofs.lemmas.List.Sorted.{ranks_by, answers_always}
use Rattle.ts_plain.specs.declared.listing.Keyed.{Keyed}
use Rattle.ts_plain.specs.Keys.{keyed_cmp}
use Rattle.ts_plain.proofs.ListingLaws.{keyed_cmp_total}
use Rattle.ts_plain.proofs.listing.sort.Goals as goal

pub returns-clause-sorted : goal.returns-clause-sorted
returns-clause-sorted c = c.sort_unstable_by.ensures.sorted (λ x y. is_lt (keyed_cmp x y)) (ranks_by keyed_cmp_total (λ (keyed : Keyed). keyed)) (answers_always _ _ _ (λ f a r f' k. search rules))
