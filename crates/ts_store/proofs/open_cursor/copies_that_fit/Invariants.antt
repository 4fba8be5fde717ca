use Rattle.std.proofs.Common.{◌≡◌, filter, take}
use Rattle.ts_model.specs.Fits.{fits}
use Rattle.ts_store.proofs.PrefixLaws.{triples_lent}
use Rattle.ts_store.proofs.open_cursor.copies_that_fit.Given as goal

abbrev pub invariant-loop-triple : goal.invariant-loop-triple
invariant-loop-triple l = l.copies.items ≡ filter (fits l.pattern) (take l.triple-index (triples_lent l.triples))
