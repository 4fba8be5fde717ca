use Rattle.std.proofs.Common.{◌≡◌, ◌⊎◌, ℕ, ◌+◌, ◌<◌, ◌-◌, ◌++◌, Bool, true, length, refl, sym, ◌∙◌, ap, arith, inl, inr}
use Rattle.ts_script.specs.Cutting.{buffered}
use Rattle.ts_script.proofs.LinesLemmas.{lines_behind-gone, not_after_return, length-slice_range}
use Rattle.ts_script.proofs.OffsetLemmas.{feed-none, not_return}
use Rattle.ts_script.proofs.EndLemmas.{first_length-front}
use Rattle.ts_script.specs.Lines.{first_length}
use Rattle.ts_nt.specs.Limits.{line_limit}
use Rattle.ts_script.proofs.cutter.LineCutter.discard_overlong.Goals as goal
use Rattle.ts_script.proofs.cutter.LineCutter.discard_overlong.Goals.{then-self-via-then-self, then-self-via-else-self+then-self-gt-LINE_LIMIT}

pub returns-then-self-clause-keeps : goal.returns-then-self-clause-keeps
returns-then-self-clause-keeps c =
    let old = c.args.self.now in
    let long : length (buffered old) ≡ old.end - old.start = length-slice_range old.buffer.items old.start old.end (omega arith) (omega arith) in
    let over : (old.is_overlong ≡ true) ⊎ (line_limit < length (buffered old)) =
    elim c.then-self.branch [ then-self-via-then-self w ↦ inl w.if-self.true | then-self-via-else-self+then-self-gt-LINE_LIMIT w ↦ inr (omega arith) ] in
    let apart : (old.is_overlong ≡ true) ⊎ (old.start < old.end) =
    elim c.then-self.branch [ then-self-via-then-self w ↦ inl w.if-self.true | then-self-via-else-self+then-self-gt-LINE_LIMIT w ↦ inr (omega arith) ] in
    let no_return = not_return old.is_overlong old.after_return old.start old.end old.one_of_two c.requires.settled apart in
    record {
      lines = λ left. lines_behind-gone old.is_overlong old.after_return (buffered old) left over
          (λ some. not_after_return old.after_return old.start old.end c.requires.settled (omega arith)) c.requires.no_end;
      taken = refl;
      limit = refl;
      number = refl;
      has_ended = refl;
      offset = λ left. ap (λ (n : ℕ). old.passed + n) (feed-none old.after_return left no_return ∙ sym (feed-none old.after_return (buffered old ++ left) no_return));
      end = λ left.
          let here = ap (λ (r : Bool). first_length r left) no_return in
          let far = ap (λ (r : Bool). first_length r (buffered old ++ left)) no_return ∙ first_length-front (buffered old) left c.requires.no_end in
          omega (arith, here, far, long);
    }
