use Rattle.std.proofs.Common.{List, length}
use Rattle.std.specs.Option.{option_map}
use Rattle.std.proofs.lemmas.Result.{IfOk-weaker}
use Rattle.ts_part.specs.Facts.{Facts}
use Rattle.ts_part.specs.Header.{HasHeader, header_of}
use Rattle.ts_part.specs.Part.{PartSays}
use Rattle.ts_part.specs.Rules.{KeepsRules}
use Rattle.ts_part.specs.Step.{RollupSays}
use Rattle.ts_chain.specs.Chain.{parts_or_none}
use Rattle.ts_rollup.specs.Sums.{AreAbove, HasSums}
use Rattle.ts_rollup.specs.Upto.{HasTotals}
use Rattle.ts_rollup.proofs.RolledFiles.{begins, totals, says}
use Rattle.ts_rollup.proofs.RolledSums.{sums}
use Rattle.ts_rollup.proofs.rollup.roll.Goals as goal

pub returns-clause-begins : goal.returns-clause-begins
returns-clause-begins c =
    IfOk-weaker c.write_part.result (λ file. HasHeader file.items (header_of c.in_ok-facts.facts (length file.items))) _
    (λ file has. begins _ c.args.chain.now c.in_ok-facts.facts c.in_ok-facts.ensures file.items has) c.write_part.ensures.begins

pub returns-clause-totals : goal.returns-clause-totals
returns-clause-totals c =
    IfOk-weaker c.write_part.result (λ file. HasHeader file.items (header_of c.in_ok-facts.facts (length file.items))) (λ file. HasTotals c.args.chain.now file.items)
    (λ file has. totals _ c.args.chain.now c.in_ok-facts.facts c.in_ok-facts.ensures file.items has) c.write_part.ensures.begins

pub returns-clause-sums : goal.returns-clause-sums
returns-clause-sums c =
    let lower = parts_or_none (option_map (λ chain. chain.now) c.args.upto) in
    IfOk-weaker c.write_part.result (λ file. HasHeader file.items (header_of c.in_ok-facts.facts (length file.items)))
    (λ file. (newer : List Facts) → AreAbove lower c.args.chain.now newer → HasSums newer file.items)
    (λ file has newer above. sums lower c.args.chain.now c.in_ok-facts.facts c.in_ok-facts.ensures newer above file.items has) c.write_part.ensures.begins

pub returns-clause-says : goal.returns-clause-says
returns-clause-says c = λ history from k both.
    IfOk-weaker c.write_part.result (λ file. KeepsRules c.in_ok-facts.facts → PartSays file.items c.in_ok-facts.facts) (λ file. RollupSays file.items history from k)
    (λ file written. says _ c.args.chain.now c.in_ok-facts.facts c.in_ok-facts.ensures file.items history from k both written) c.write_part.ensures.says
