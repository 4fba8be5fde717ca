use Rattle.std.proofs.Common.{◌-◌, get_or, ◌∙◌, arith}
use Rattle.std.proofs.lemmas.List.{length-set}
use Rattle.ts_wavelet.specs.Nodes.{IsRung}
use Rattle.ts_wavelet.proofs.Paths.{climb_some, climb_back, climbed}
use Rattle.ts_wavelet.proofs.levels.Levels.climb.Goals as goal

pub bit_from-found-requires-clause-some : goal.bit_from-found-requires-clause-some
bit_from-found-requires-clause-some c =
    let t = c.args.self.now in
    let rung : IsRung t.width t.len t.bits c.args.p (c.loop-l.l - 1) (get_or c.loop-l.path.starts (c.loop-l.l - 1) 0) (get_or c.loop-l.path.ones (c.loop-l.l - 1) 0) =
    rw (c.loop-l.invariant.starts, c.loop-l.invariant.ones) (c.requires.path (c.loop-l.l - 1) (omega arith)) in
    climb_some t.width t.len t.bits t.whole c.args.p c.args.n (c.loop-l.l - 1) (t.width - c.loop-l.l) _ _ c.loop-l.offset c.digit.result (omega arith) rung c.digit.ensures c.loop-l.invariant.offset c.requires.some

pub loop-l-preserved : goal.loop-l-preserved
loop-l-preserved c =
    let t = c.args.self.now in
    let rung : IsRung t.width t.len t.bits c.args.p (c.loop-l.l - 1) (get_or c.loop-l.path.starts (c.loop-l.l - 1) 0) (get_or c.loop-l.path.ones (c.loop-l.l - 1) 0) =
    rw (c.loop-l.invariant.starts, c.loop-l.invariant.ones) (c.requires.path (c.loop-l.l - 1) (omega arith)) in
    record {
      within = omega arith;
      offset = climb_back t.width t.len t.bits t.whole c.args.p c.args.n (c.loop-l.l - 1) (t.width - c.loop-l.l) _ _ c.loop-l.offset c.bit_from-found.result c.digit.result (omega arith) rung c.digit.ensures c.loop-l.invariant.offset c.bit_from-found.ensures.after c.bit_from-found.ensures.there;
      starts = c.loop-l.invariant.starts;
      ones = c.loop-l.invariant.ones;
      near = length-set c.loop-l.path.near (c.loop-l.l - 1) c.bit_from-found.result ∙ c.loop-l.invariant.near;
    }

pub returns-clause-place : goal.returns-clause-place
returns-clause-place c =
    let t = c.args.self.now in
    climbed t.width t.len t.bits t.whole c.args.p c.args.n (t.width - c.loop-l.l) c.loop-l.offset (omega arith) c.requires.some c.loop-l.invariant.offset
