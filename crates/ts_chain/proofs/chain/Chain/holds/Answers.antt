use Rattle.std.proofs.Common.{false}
use Rattle.ts_chain.specs.Holds.{spelled_triple}
use Rattle.ts_chain.proofs.HeldTriples.{holds_numbered, holds_nothing, holds_content}
use Rattle.ts_chain.proofs.chain.Chain.holds.Goals as goal

pub returns-in-Some-clause-stands : goal.returns-in-Some-clause-stands
returns-in-Some-clause-stands c =
    holds_numbered c.args.self.now (spelled_triple c.args.s.now c.args.p.now c.args.o.now) c.ids_of.ensures.chain c.in-Some.t c.stands.result c.in-Some.ensures.some c.stands.ensures

pub returns-in-Some-clause-content : goal.returns-in-Some-clause-content
returns-in-Some-clause-content c = λ history k stands.
    let is = holds_numbered c.args.self.now (spelled_triple c.args.s.now c.args.p.now c.args.o.now) c.ids_of.ensures.chain c.in-Some.t c.stands.result c.in-Some.ensures.some c.stands.ensures in
    holds_content c.args.self.now c.args.s.now c.args.p.now c.args.o.now c.stands.result is history k stands

pub returns-in-None-clause-stands : goal.returns-in-None-clause-stands
returns-in-None-clause-stands c = holds_nothing c.args.self.now (spelled_triple c.args.s.now c.args.p.now c.args.o.now) c.in-None.ensures.none

pub returns-in-None-clause-content : goal.returns-in-None-clause-content
returns-in-None-clause-content c = λ history k stands.
    let is = holds_nothing c.args.self.now (spelled_triple c.args.s.now c.args.p.now c.args.o.now) c.in-None.ensures.none in
    holds_content c.args.self.now c.args.s.now c.args.p.now c.args.o.now false is history k stands
