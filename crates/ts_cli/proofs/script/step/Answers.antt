use Rattle.std.proofs.Common.{◌≡◌}
use Rattle.ts_store.specs.Keeps.{Keeps}
use Rattle.ts_store.specs.Step.{step_of}
use Rattle.ts_store.specs.Stops.{kind_of}
use Rattle.ts_cli.proofs.StepsLemmas.{keeps_only, kind_only}
use Rattle.ts_cli.proofs.script.step.Goals as goal

pub returns-clause-steps : goal.returns-clause-steps
returns-clause-steps g c = λ state keeps told says.
    let next = step_of state c.args.command.now in
    record {
      says = says;
      kind = kind_only c.step.result (λ kind. Keeps c.step.new.self next.state) (kind_of next.refused) (c.step.ensures.state state keeps);
      told = c.step.ensures.told state keeps;
      folder = c.step.ensures.folder state keeps told;
      says_after = c.step.ensures.says state keeps told says;
      stands_after = c.step.ensures.stands state keeps told;
      telling = c.step.ensures.tells;
      crash = c.step.ensures.crash keeps.unspent told;
      safe = c.step.ensures.safe state keeps told;
    }

pub returns-clause-keeps : goal.returns-clause-keeps
returns-clause-keeps g c = λ state keeps.
    let next = step_of state c.args.command.now in
    keeps_only c.step.result (Keeps c.step.new.self next.state) (λ kind. kind ≡ kind_of next.refused) (c.step.ensures.state state keeps)
