use Rattle.std.proofs.Common.{◌≡◌, length, arith, subst}
use Rattle.ts_idmap.proofs.PermutationLemmas.{LeadsBack, inverse_by}
use Rattle.ts_idmap.proofs.write.inverse_of.Goals as goal

pub returns : goal.returns
returns c =
    let outer = c.args.outer.now in
    let inverse = c.loop-entry.inverse.items in
    let all : c.loop-entry.entry ≡ length outer = omega arith in
    let leads : LeadsBack outer inverse (length outer) = subst (LeadsBack outer inverse) all c.loop-entry.invariant.leads in
    (inverse_by outer inverse c.loop-entry.invariant.many leads).inverts
