use Rattle.std.proofs.Common.{refl, arith, ◌+◌, ◌++◌, ◌∙◌, ap, Bool}
use Rattle.ts_script.proofs.LinesLemmas.{lines_behind-front, not_after_return, is_end-read, no_end-empty}
use Rattle.ts_script.proofs.OffsetLemmas.{feed-none}
use Rattle.ts_script.proofs.EndLemmas.{first_length-end}
use Rattle.ts_script.specs.Lines.{first_length}
use Rattle.ts_script.specs.Cutting.{buffered}
use Rattle.ts_script.proofs.cutter.LineCutter.cut_at.Goals as goal

pub returns-clause-gives : goal.returns-clause-gives
returns-clause-gives c =
    let old = c.args.self.now in
    record {
      lines = λ left. rw (c.span_of-span.ensures.line old.buffer.items (omega arith))
          (lines_behind-front old.is_overlong old.after_return old.buffer.items left old.start c.args.at old.end c.index.result.now
          (not_after_return old.after_return old.start old.end c.requires.settled (omega arith))
          (omega arith) (omega arith) (omega arith) c.requires.no_end
          (is_end-read old.buffer.items c.args.at c.index.result.now (omega arith) c.index.ensures c.requires.end) c.index.ensures);
      taken = refl;
      limit = refl;
      number = refl;
      has_ended = refl;
      offset = omega (arith, feed-none old.after_return (buffered old) (not_after_return old.after_return old.start old.end c.requires.settled (omega arith)));
      end = λ left.
          let settled = not_after_return old.after_return old.start old.end c.requires.settled (omega arith) in
          let read = is_end-read old.buffer.items c.args.at c.index.result.now (omega arith) c.index.ensures c.requires.end in
          let far = ap (λ (r : Bool). first_length r (buffered old ++ left)) settled
          ∙ first_length-end old.buffer.items left old.start c.args.at old.end c.index.result.now (omega arith) (omega arith) (omega arith) c.requires.no_end read c.index.ensures in
          omega (arith, far);
      begins = refl;
    }

pub invariant_of-self-clause-no_end : goal.invariant_of-self-clause-no_end
invariant_of-self-clause-no_end c = no_end-empty c.args.self.now.buffer.items (c.args.at + 1)
