use Rattle.std.proofs.Common.{sym, ap, subst, Some}
use Rattle.ts_front.specs.Building.{Holds}
use Rattle.ts_front.proofs.BuilderLemmas.{texts_none, holds_none}
use Rattle.ts_front.proofs.builder.FrontBuilder.new.Goals as goal

pub invariant_of-result : goal.invariant_of-result
invariant_of-result c = λ _.
    subst (Holds c.new.result c.new-2.result.items c.new-3.result.items 0) (sym (texts_none c.new-2.result.items))
    (holds_none c.new.result c.new-2.result.items c.new-3.result.items c.new.ensures c.new-2.ensures.items c.new-3.ensures.items)

pub returns : goal.returns
returns c = ap Some (texts_none c.new-2.result.items)
