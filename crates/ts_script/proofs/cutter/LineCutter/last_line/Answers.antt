use Rattle.std.proofs.Common.{◌≡◌, ◌⊎◌, ◌<◌, ◌-◌, ℕ, Bool, List, slice_range, true, false, length, refl, sym, arith, inl, inr}
use Rattle.ts_script.specs.Cutting.{buffered}
use Rattle.ts_script.proofs.LinesLemmas.{lines_behind-last, lines_behind-nil, no_end-empty, length-slice_range, not_after_return}
use Rattle.ts_script.proofs.OffsetLemmas.{offset-here, not_return, feed-none}
use Rattle.ts_script.proofs.EndLemmas.{first_length-last}
use Rattle.ts_script.specs.Lines.{feed_of}
use Rattle.ts_script.proofs.cutter.LineCutter.last_line.Goals as goal

feed-nothing : (r : Bool) (text : List ℕ) (i : ℕ) → feed_of r (slice_range text i i) ≡ 0
feed-nothing false text i = refl
feed-nothing true text i = let none : i - i ≡ 0 = omega arith in rw none refl

pub invariant_of-self-clause-no_end : goal.invariant_of-self-clause-no_end
invariant_of-self-clause-no_end c = no_end-empty c.args.self.now.buffer.items c.args.self.now.end

pub returns-then-not-has_rest-clause-none : goal.returns-then-not-has_rest-clause-none
returns-then-not-has_rest-clause-none c =
    let old = c.args.self.now in
    let nothing = lines_behind-nil old.is_overlong old.after_return old.buffer.items old.start old.end (c.has_rest.ensures.whole c.if-not-has_rest.true) (c.has_rest.ensures.none c.if-not-has_rest.true) in
    record { ended = c.requires.ended; none = nothing; after = nothing; taken = omega arith; limit = refl; number = refl; offset = sym (offset-here old) }

pub returns-clause-some : goal.returns-clause-some
returns-clause-some c =
    let old = c.args.self.now in
    let long : length (buffered old) ≡ old.end - old.start = length-slice_range old.buffer.items old.start old.end (omega arith) (omega arith) in
    let some : (old.is_overlong ≡ true) ⊎ (0 < length (buffered old)) = elim (c.has_rest.ensures.what c.if-not-has_rest.false) [ inl is ↦ inl is | inr lt ↦ inr (omega arith) ] in
    record {
      next = inr (
        c.requires.ended,
        rw (c.span_of-span.ensures.line old.buffer.items (omega arith))
            (lines_behind-last old.is_overlong old.after_return (buffered old) (λ more. not_after_return old.after_return old.start old.end c.requires.none.settled (omega arith)) c.requires.none.no_end some),
        lines_behind-nil false old.after_return old.buffer.items old.end old.end refl refl,
      );
      taken = omega arith;
      limit = refl;
      number = refl;
      offset = omega (
        arith,
        c.has_rest.ensures.some c.if-not-has_rest.false,
        feed-none old.after_return (buffered old) (not_return old.is_overlong old.after_return old.start old.end old.one_of_two c.requires.none.settled (c.has_rest.ensures.what c.if-not-has_rest.false)),
      );
      end =
          let last = first_length-last old.after_return (buffered old) (λ more. not_after_return old.after_return old.start old.end c.requires.none.settled (omega arith)) c.requires.none.no_end in
          omega (arith, feed-nothing old.after_return old.buffer.items old.end, last, long);
      begins = refl;
      ended = λ is. is;
    }
