use Rattle.std.proofs.Common.{take, All, IsTrue}
use Rattle.ts_model.specs.History.{content_at_parent}
use Rattle.ts_model.specs.Sets.{contains}
use Rattle.ts_plain.specs.History.{history_of}
use Rattle.ts_plain.proofs.keeps.has_all.Given as goal

abbrev pub invariant-loop-triple : goal.invariant-loop-triple
invariant-loop-triple l = All (λ triple. IsTrue (contains (content_at_parent (history_of l.layers) l.parent) triple)) (take l.triple-index l.triples)
