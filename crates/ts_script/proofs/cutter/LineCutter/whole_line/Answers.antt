use Rattle.std.proofs.Common.{subst, arith}
use Rattle.ts_script.specs.Lines.{HasNoEnd}
use Rattle.ts_script.proofs.LinesLemmas.{no_end-found, no_end-split}
use Rattle.ts_script.proofs.CuttingLemmas.{keeps-whole}
use Rattle.ts_script.specs.Cutting.{view_at}
use Rattle.ts_script.proofs.cutter.LineCutter.whole_line.Goals as goal

pub cut_at-requires-clause-no_end : goal.cut_at-requires-clause-no_end
cut_at-requires-clause-no_end c =
    let now = c.skip_line_feed.new.self in
    no_end-found now.buffer.items now.start now.scanned c.in-Some.k now.end (omega arith) (omega (arith, c.in-Some.ensures.within)) now.no_end (rw c.deref.ensures.value at c.in-Some.ensures.before)

pub discard_overlong-requires-clause-no_end : goal.discard_overlong-requires-clause-no_end
discard_overlong-requires-clause-no_end c =
    let now = c.skip_line_feed.new.self in
    no_end-split now.buffer.items now.start now.scanned now.end (omega arith) (omega arith) now.no_end (rw c.deref.ensures.value at c.in-None.ensures.none)

pub returns-in-Some-clause-some : goal.returns-in-Some-clause-some
returns-in-Some-clause-some c =
    keeps-whole c.args.self.now c.skip_line_feed.new.self c.cut_at.new.self (view_at c.cut_at.new.self c.cut_at.result) c.skip_line_feed.ensures.keeps c.cut_at.ensures.gives

pub returns-in-None-clause-waits : goal.returns-in-None-clause-waits
returns-in-None-clause-waits c = λ has.
    let now = c.skip_line_feed.new.self in
    has (subst HasNoEnd c.skip_line_feed.ensures.skips
    (no_end-split now.buffer.items now.start now.scanned now.end (omega arith) (omega arith) now.no_end (rw c.deref.ensures.value at c.in-None.ensures.none)))
