use Rattle.std.proofs.Common.{◌≡◌, ◌<◌, take, get_or, length, Some, sym, ap, ◌∙◌, arith}
use Rattle.std.specs.Prelude.{if◌then◌else◌}
use Rattle.ts_site.specs.declared.plan.CallKind.TheVariants as kind
use Rattle.ts_site.specs.declared.plan.FaultKind.TheVariants as fault
use Rattle.ts_site.specs.declared.plan.Plan.{Plan}
use Rattle.ts_site.specs.MemorySite.{is_due, planned}
use Rattle.ts_site.proofs.PlanLemmas.{counted_more, planned_more, how_kept}
use Rattle.ts_site.proofs.plan.count_call.Goals as goal
use Rattle.ts_site.proofs.plan.count_call.Goals.{then-count, else-count}

-- what the lemmas take for an element past the end
abbrev no_plan : Plan
no_plan = record { kind = kind.List; left = 0; how = fault.Nothing }

pub loop-plan-preserved : goal.loop-plan-preserved
loop-plan-preserved c =
    let plans = c.args.plans.now in
    let i = c.loop-plan.plan-index in
    let before = c.loop-plan.invariant.nearer in
    let within : i < length plans = omega arith in
    let more = planned_more c.args.kind plans c.loop-plan.plans i no_plan within before in
    let due = c.count.ensures.due in
    let now = c.count.ensures.nearer in
    elim c.if-count.branch [
      | then-count w ↦ record {
        found =
            let is : is_due c.args.kind (get_or c.loop-plan.plans i no_plan) ≡ _ = sym due ∙ w.if-count.true in
            w.found-is ∙ ap (λ p. Some p.how) now ∙ ap Some (how_kept c.args.kind (get_or c.loop-plan.plans i no_plan))
            ∙ sym (more ∙ ap (λ b. if b then Some (get_or c.loop-plan.plans i no_plan).how else planned c.args.kind (take i plans)) is);
        nearer = counted_more c.args.kind plans c.loop-plan.plans c.if-count.plans i no_plan c.count.new.self within before now w.plans-is;
      }
      | else-count w ↦ record {
        found =
            let is : is_due c.args.kind (get_or c.loop-plan.plans i no_plan) ≡ _ = sym due ∙ w.if-count.false in
            w.found-is ∙ c.loop-plan.invariant.found
            ∙ sym (more ∙ ap (λ b. if b then Some (get_or c.loop-plan.plans i no_plan).how else planned c.args.kind (take i plans)) is);
        nearer = counted_more c.args.kind plans c.loop-plan.plans c.if-count.plans i no_plan c.count.new.self within before now w.plans-is;
      }
    ]
