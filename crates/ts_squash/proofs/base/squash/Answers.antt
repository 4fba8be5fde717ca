use Rattle.std.proofs.Common.{subst}
use Rattle.std.proofs.lemmas.Result.{IfOk-weaker}
use Rattle.ts_part.specs.Part.{PartSays}
use Rattle.ts_squash.proofs.BaseFacts.{base_rules}
use Rattle.ts_squash.proofs.base.squash.Goals as goal

pub returns-clause-says : goal.returns-clause-says
returns-clause-says c = λ history k fresh stands.
    let is = c.in_ok-facts.ensures.facts history k fresh stands in
    let rules = base_rules history k c.args.number c.requires c.ranges.number.fits fresh c.args.chain.now stands _ is c.in_ok-facts.ensures.base.rules in
    IfOk-weaker c.write_part.result _ _ (λ file says. subst (PartSays file.items) is (says rules)) c.write_part.ensures.says
