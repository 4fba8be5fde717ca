use Rattle.std.proofs.Common.{◌≡◌, ◌+◌, ◌<◌, ◌^◌, ◌∙◌, ap, length, drop, arith}
use Rattle.ts_chain.specs.Content.{go_count}
use Rattle.ts_chain.proofs.TripleCounts.{go_count-cons}
use Rattle.ts_chain.proofs.Turns.{turn}
use Rattle.ts_chain.proofs.chain.Chain.go_count.Goals as goal

pub loop-part-preserved : goal.loop-part-preserved
loop-part-preserved c =
    let e = turn (λ part. part.value.facts) c.self.inside.parts.items c.deref-part-items.result.now c.args.self.now c.loop-part.part-index c.part-item.result c.self.view_is c.deref-part-items.ensures.value c.part-item.is (omega (arith, c.deref-part-items.ensures.len)) in
    let counted = ap go_count e ∙ go_count-cons c.part-item.result.value.facts (drop (c.loop-part.part-index + 1) c.args.self.now) in
    let same : c.from-count.result ≡ length c.part-item.result.value.facts.removals = cc in
    let fits : length c.deref.result.now.facts.removals < 2 ^ 64 = c.header.ensures.loaded.says.fits.removals in
    record { rest = omega arith; fits = omega arith }
