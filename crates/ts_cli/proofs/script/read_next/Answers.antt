use Rattle.std.proofs.Common.{◌≡◌, sym, ◌∙◌}
use Rattle.ts_script.specs.declared.stop.ScriptStop.TheVariants.{Fault, Limit, Memory}
use Rattle.ts_cli.proofs.script.read_next.Goals as goal

fault_is_no_memory : Fault ≡ Memory → ⊥
fault_is_no_memory e = cc

limit_is_no_memory : Limit ≡ Memory → ⊥
limit_is_no_memory e = cc

pub returns-in-Err-Fault-clause-waits : goal.returns-in-Err-Fault-clause-waits
returns-in-Err-Fault-clause-waits g c = λ told seen lines is input.
    c.in-Err-Fault.ensures.waits told seen lines is (λ e. fault_is_no_memory (sym c.in-Err-Fault.field-0-is ∙ e))

pub returns-in-Err-Limit-clause-waits : goal.returns-in-Err-Limit-clause-waits
returns-in-Err-Limit-clause-waits g c = λ told seen lines is input.
    c.in-Err-Limit.ensures.waits told seen lines is (λ e. limit_is_no_memory (sym c.in-Err-Limit.field-0-is ∙ e))
