use Rattle.std.proofs.Common.{◌≡◌, ◌+◌, ◌++◌, ◌-◌, Bool, List, [], ℕ, ◌≤◌, true, false, length, drop, slice_range, refl, sym, ◌∙◌, ap, arith, inl, inr}
use Rattle.ts_script.proofs.LinesLemmas.{buffered-more, buffered-kept, no_end-kept, taken_front, length-slice_range}
use Rattle.ts_script.specs.Lines.{lines_behind, feed_of, first_length}
use Rattle.ts_script.proofs.cutter.LineCutter.fill.Goals as goal

is_open : (new old : Bool) → new ≡ old → old ≡ false → new ≡ true → ⊥
is_open new old same opened is = let e : true ≡ false = sym is ∙ same ∙ opened in absurd (cc)

-- what was taken stands behind what waits
gone : (taken end start k n : ℕ) → start ≤ end → end - start ≤ taken → taken + k - (end + k - start) + n ≡ taken - (end - start) + n
gone taken end start k n lo within = omega arith

pub invariant_of-self-clause-no_end : goal.invariant_of-self-clause-no_end
invariant_of-self-clause-no_end g c =
    let mid = c.make_room.new.self in
    no_end-kept mid.buffer.items c.take_into.new.buffer.items mid.end mid.start mid.scanned c.take_into.ensures.before (omega arith) mid.no_end

pub invariant_of-self-in-Ok-eq0-clause-no_end : goal.invariant_of-self-in-Ok-eq0-clause-no_end
invariant_of-self-in-Ok-eq0-clause-no_end g c =
    let mid = c.make_room.new.self in
    no_end-kept mid.buffer.items c.take_into.new.buffer.items mid.end mid.start mid.scanned c.take_into.ensures.before (omega arith) mid.no_end

pub invariant_of-self-in-Ok-clause-no_end : goal.invariant_of-self-in-Ok-clause-no_end
invariant_of-self-in-Ok-clause-no_end g c =
    let mid = c.make_room.new.self in
    no_end-kept mid.buffer.items c.take_into.new.buffer.items mid.end mid.start mid.scanned c.take_into.ensures.before (omega arith) mid.no_end

pub returns-in-Err-clause-takes : goal.returns-in-Err-clause-takes
returns-in-Err-clause-takes g c =
    let mid = c.make_room.new.self in
    let after = c.take_into.new.buffer.items in
    let made = c.make_room.ensures in
    let unended = is_open mid.has_ended c.args.self.now.has_ended made.ended c.requires.open in (
      [],
      record {
        takes = record {
          lines = λ more. ap (lines_behind mid.is_overlong mid.after_return) (buffered-kept mid.buffer.items after more mid.end mid.start c.take_into.ensures.before) ∙ made.takes.lines more;
          taken = made.takes.taken;
          limit = made.takes.limit;
          number = made.takes.number;
          offset = λ more. ap (λ (text : List ℕ). mid.passed + feed_of mid.after_return text) (buffered-kept mid.buffer.items after more mid.end mid.start c.take_into.ensures.before) ∙ made.takes.offset more;
          end = λ more. ap (λ (text : List ℕ). mid.taken - (mid.end - mid.start) + first_length mid.after_return text) (buffered-kept mid.buffer.items after more mid.end mid.start c.take_into.ensures.before) ∙ made.takes.end more;
          ended = λ is. made.ended ∙ is;
        };
        cause = (
          refl,
          record {
            no_end = no_end-kept mid.buffer.items after mid.end mid.start mid.end c.take_into.ensures.before (omega arith) made.none.no_end;
            small = made.none.small;
            scanned = made.none.scanned;
            settled = made.none.settled;
          },
          made.ended ∙ c.requires.open,
        );
        goes_on = tt;
        ended = λ is. absurd (unended is);
      },
      (c.in-Err.ensures.taken.0, λ told. sym (c.in-Err.ensures.taken.1 told)),
    )

pub returns-in-Ok-eq0-clause-takes : goal.returns-in-Ok-eq0-clause-takes
returns-in-Ok-eq0-clause-takes g c =
    let mid = c.make_room.new.self in
    let after = c.take_into.new.buffer.items in
    let made = c.make_room.ensures in
    let unended = is_open mid.has_ended c.args.self.now.has_ended made.ended c.requires.open in (
      [],
      record {
        takes = record {
          lines = λ more. ap (lines_behind mid.is_overlong mid.after_return) (buffered-kept mid.buffer.items after more mid.end mid.start c.take_into.ensures.before) ∙ made.takes.lines more;
          taken = made.takes.taken;
          limit = made.takes.limit;
          number = made.takes.number;
          offset = λ more. ap (λ (text : List ℕ). mid.passed + feed_of mid.after_return text) (buffered-kept mid.buffer.items after more mid.end mid.start c.take_into.ensures.before) ∙ made.takes.offset more;
          end = λ more. ap (λ (text : List ℕ). mid.taken - (mid.end - mid.start) + first_length mid.after_return text) (buffered-kept mid.buffer.items after more mid.end mid.start c.take_into.ensures.before) ∙ made.takes.end more;
          ended = λ is. refl;
        };
        cause = tt;
        goes_on = inr refl;
        ended = λ is. (
          record {
            no_end = no_end-kept mid.buffer.items after mid.end mid.start mid.end c.take_into.ensures.before (omega arith) made.none.no_end;
            small = made.none.small;
            scanned = made.none.scanned;
            settled = made.none.settled;
          },
          refl,
        );
      },
      (
        c.in-Ok-eq0.ensures.taken.0,
        λ told. let nothing : c.in-Ok-eq0.field-0 ≡ 0 = omega (arith, c.in-Ok-eq0.field-0-test) in
            sym ((c.in-Ok-eq0.ensures.taken.1 told).rest ∙ ap (λ (n : ℕ). drop n (g.S.Source.left c.args.input.now)) nothing),
      ),
    )

pub returns-in-Ok-clause-takes : goal.returns-in-Ok-clause-takes
returns-in-Ok-clause-takes g c =
    let mid = c.make_room.new.self in
    let after = c.take_into.new.buffer.items in
    let k = c.in-Ok.count in
    let made = c.make_room.ensures in
    let unended = is_open mid.has_ended c.args.self.now.has_ended made.ended c.requires.open in
    let far : (mid.end + k) - mid.end ≡ k = omega arith in
    let long : length (slice_range after mid.end (mid.end + k)) ≡ k = length-slice_range after mid.end (mid.end + k) (omega arith) (omega (arith, c.in-Ok.ensures.within)) ∙ far in (
      slice_range after mid.end (mid.end + k),
      record {
        takes = record {
          lines = λ more. ap (lines_behind mid.is_overlong mid.after_return) (buffered-more mid.buffer.items after more mid.end mid.start k c.take_into.ensures.before (omega arith))
              ∙ made.takes.lines (slice_range after mid.end (mid.end + k) ++ more);
          taken = omega arith;
          limit = made.takes.limit;
          number = made.takes.number;
          offset = λ more. ap (λ (text : List ℕ). mid.passed + feed_of mid.after_return text) (buffered-more mid.buffer.items after more mid.end mid.start k c.take_into.ensures.before (omega arith))
              ∙ made.takes.offset (slice_range after mid.end (mid.end + k) ++ more);
          end = λ more. gone mid.taken mid.end mid.start k _ (omega arith) (omega arith)
              ∙ ap (λ (text : List ℕ). mid.taken - (mid.end - mid.start) + first_length mid.after_return text) (buffered-more mid.buffer.items after more mid.end mid.start k c.take_into.ensures.before (omega arith))
              ∙ made.takes.end (slice_range after mid.end (mid.end + k) ++ more);
          ended = λ is. made.ended ∙ is;
        };
        cause = tt;
        goes_on = inl (omega (arith, c.in-Ok.count-test));
        ended = λ is. absurd (unended is);
      },
      (
        c.in-Ok.ensures.taken.0,
        λ told.
            let took = c.in-Ok.ensures.taken.1 told in taken_front (g.S.Source.left c.args.input.now) (g.S.Source.left c.take_into.new.input) after mid.end k took.front took.rest,
      ),
    )
