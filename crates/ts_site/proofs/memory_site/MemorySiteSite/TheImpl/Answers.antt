use Rattle.ts_site.specs.declared.plan.CallKind.TheVariants as kind
use Rattle.ts_site.specs.MemorySite.{memory_state, has_failed, plans_of, planned}
use Rattle.ts_site.proofs.FaultLemmas.{say_says, say_told}
use Rattle.ts_site.proofs.memory_site.MemorySiteSite.TheImpl.Goals as goal

pub say-tells : goal.say-tells
say-tells c =
    let plan = planned kind.Say (plans_of c.args.self.now) in
    let old = memory_state c.args.self.now in
    let new = memory_state c.new.self.now in
    record {
      told = say_says plan c.result c.args.piece.now old new c.ensures.made;
      last = c.ensures.last;
      says = say_told (has_failed c.args.self.now) (has_failed c.new.self.now) plan c.result c.args.piece.now old new c.args.self.now.recorder.say_count c.ensures.last c.ensures.made;
    }
