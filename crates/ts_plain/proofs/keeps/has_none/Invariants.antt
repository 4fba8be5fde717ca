use Rattle.std.proofs.Common.{◌≡◌, false, take, All}
use Rattle.ts_model.specs.History.{content_at_parent}
use Rattle.ts_model.specs.Sets.{contains}
use Rattle.ts_plain.specs.History.{history_of}
use Rattle.ts_plain.proofs.keeps.has_none.Given as goal

abbrev pub invariant-loop-triple : goal.invariant-loop-triple
invariant-loop-triple l = All (λ triple. contains (content_at_parent (history_of l.layers) l.parent) triple ≡ false) (take l.triple-index l.triples)
