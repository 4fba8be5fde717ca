use Rattle.std.proofs.Common.{◌≡◌, ◌++◌, map, take, drop}
use Rattle.ts_site.specs.MemorySite.{nearer, planned}
use Rattle.ts_site.proofs.plan.count_call.Given as goal

abbrev pub invariant-loop-plan : goal.invariant-loop-plan
invariant-loop-plan l = record {
  found : l.found ≡ planned l.kind (take l.plan-index l.fn.plans);
  nearer : l.plans ≡ map (nearer l.kind) (take l.plan-index l.fn.plans) ++ drop l.plan-index l.fn.plans;
}
