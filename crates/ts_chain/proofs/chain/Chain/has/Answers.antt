use Rattle.std.proofs.Common.{IsTrue, subst, sym}
use Rattle.ts_chain.proofs.StepsContent.{stands_content}
use Rattle.ts_chain.proofs.chain.Chain.has.Goals as goal

pub returns-clause-content : goal.returns-clause-content
returns-clause-content c = λ history k stands.
    let same = stands_content history k c.args.self.now stands c.args.t in
    (λ yes. same.0 (subst IsTrue c.stands.ensures yes), λ among. subst IsTrue (sym c.stands.ensures) (same.1 among))
