use Rattle.std.proofs.Common.{ℕ, Option, subst}
use Rattle.ts_model.specs.TextTerm.{TextTerm}
use Rattle.ts_chain.specs.Ids.{Lacks}
use Rattle.ts_chain.specs.Patterns.{IsAskedIn}
use Rattle.ts_chain.proofs.Seeking.{if_none, unasked}
use Rattle.ts_chain.proofs.chain.Chain.asked_id.Goals as goal

pub returns-in_err-id-clause-none : goal.returns-in_err-id-clause-none
returns-in_err-id-clause-none c =
    let parts = c.args.self.now in
    let term : TextTerm = c.in-Some.term in
    let lacks : Lacks parts term = subst (Lacks parts) (λ i. record { kind = c.kind-2.ensures i; spelling = c.spelling.ensures.spelling i }) c.in_err-id.ensures.absent in
    if_none c.from_residual.result ((id : Option ℕ) → ¬ IsAskedIn c.args.numbered parts c.args.asked.now id) (unasked c.args.numbered parts c.args.asked.now term c.in-Some.is lacks)
