use Rattle.std.proofs.Common.{arith}
use Rattle.ts_plane.proofs.NextLemmas.{next_found}
use Rattle.ts_plane.proofs.sections.Sections.next_pair.Goals as goal

pub returns-clause-none : goal.returns-clause-none
returns-clause-none c = (next_found c.args.self.now.predicates c.args.p c.args.pair c.next.result _ _ (omega arith) c.places_from.ensures c.next.ensures.steps).0

pub returns-clause-some : goal.returns-clause-some
returns-clause-some c = (next_found c.args.self.now.predicates c.args.p c.args.pair c.next.result _ _ (omega arith) c.places_from.ensures c.next.ensures.steps).1
