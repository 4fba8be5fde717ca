use Rattle.std.proofs.Common.{◌≡◌, ℕ, Bool, true, false, List, [], ◌++◌, sym, ◌∙◌, subst}
use Rattle.std.specs.Prelude.{Option, Some, None, Ok, IfSome, IfNone}
use Rattle.ts_script.specs.declared.cutter.LineCutter.{LineCutter}
use Rattle.ts_script.specs.declared.cutter.Span.{Span}
use Rattle.ts_script.specs.declared.cutter.InputStop.TheVariants.{Fault, Limit}
use Rattle.ts_script.proofs.CuttingLemmas.{takes-keeps, takes-takes, takes-whole, takes-last, takes-none, left-left}
use Rattle.ts_script.specs.Cutting.{view_at, HasWholeLine, Takes, GivesLine, HasEnded, NextIs}
use Rattle.ts_script.proofs.cutter.LineCutter.advance.Goals as goal

fault_is_not_limit : Fault ≡ Limit → ⊥
fault_is_not_limit e = cc

apart : (a b : Bool) → a ≡ true → b ≡ a → b ≡ false → ⊥
apart a b is same is_not = let e : true ≡ false = sym is ∙ sym same ∙ is_not in cc

-- what the last line makes of the bytes that were taken
next-end : (a b c : LineCutter) (bytes : List ℕ) (answer : Option Span) → Takes a b bytes → IfSome answer (λ span. GivesLine b c [] (view_at c span)) → IfNone answer (HasEnded b c [])
    → NextIs (view_at c) a c bytes (Ok answer)
next-end a b c bytes (Some span) first some none = takes-last a b c bytes (view_at c span) first some
next-end a b c bytes None first some none = takes-none a b c bytes first none

pub loop-span-preserved : goal.loop-span-preserved
loop-span-preserved g c =
    let so_far = c.loop-span.invariant in
    let more = c.in_default-fill.ensures.takes in
    let kept = takes-keeps c.args.self.now c.loop-span.self c.whole_line.new.self so_far.0 so_far.1.takes c.in_default.ensures.none in (
      so_far.0 ++ more.0,
      record {
        takes = takes-takes c.args.self.now c.whole_line.new.self c.fill.new.self so_far.0 more.0 kept more.1.takes;
        tells = λ told. so_far.1.tells (more.2.0 told);
        left = λ told. left-left _ so_far.0 more.0 _ _ (so_far.1.left (more.2.0 told)) (more.2.1 told);
        ended = λ _ is told. c.in_default-fill.ensures.ended is told;
        closed = λ is. absurd (apart c.loop-span.self.has_ended c.whole_line.new.self.has_ended (so_far.1.takes.ended is) c.in_default.ensures.none.has_ended c.if-self.false);
        lazy = λ has. absurd (c.in_default.ensures.waits (subst HasWholeLine (sym (so_far.1.lazy has).0) has));
        faults = c.in_default-fill.ensures.counts ∙ so_far.1.faults;
      },
    )

pub returns-in-Err-clause-next : goal.returns-in-Err-clause-next
returns-in-Err-clause-next g c =
    let so_far = c.loop-span.invariant in
    let more = c.in-Err.ensures.takes in
    let kept = takes-keeps c.args.self.now c.loop-span.self c.whole_line.new.self so_far.0 so_far.1.takes c.in_default.ensures.none in (
      so_far.0 ++ more.0,
      record {
        takes = takes-takes c.args.self.now c.whole_line.new.self c.fill.new.self so_far.0 more.0 kept more.1.takes;
        waits = more.1.cause.1;
        unended = more.1.cause.2;
        limited = λ is. absurd (fault_is_not_limit (sym more.1.cause.0 ∙ is));
      },
      (
        λ told. so_far.1.tells (more.2.0 told),
        λ told. left-left _ so_far.0 more.0 _ _ (so_far.1.left (more.2.0 told)) (more.2.1 told),
      ),
    )

pub returns-in-Some-clause-next : goal.returns-in-Some-clause-next
returns-in-Some-clause-next g c =
    let so_far = c.loop-span.invariant in (
      so_far.0,
      takes-whole c.args.self.now c.loop-span.self c.whole_line.new.self so_far.0 (view_at c.whole_line.new.self c.in-Some.span) so_far.1.takes c.in-Some.ensures.some,
      (so_far.1.tells, so_far.1.left),
    )

pub returns-then-self-clause-next : goal.returns-then-self-clause-next
returns-then-self-clause-next g c =
    let so_far = c.loop-span.invariant in
    let kept = takes-keeps c.args.self.now c.loop-span.self c.whole_line.new.self so_far.0 so_far.1.takes c.in_default.ensures.none in (
      so_far.0,
      next-end c.args.self.now c.whole_line.new.self c.last_line.new.self so_far.0 c.last_line.result kept c.last_line.ensures.some c.last_line.ensures.none,
      (so_far.1.tells, so_far.1.left),
    )

pub returns-in-Err-clause-closed : goal.returns-in-Err-clause-closed
returns-in-Err-clause-closed g c = λ is. absurd (apart c.loop-span.self.has_ended c.whole_line.new.self.has_ended (c.loop-span.invariant.1.takes.ended is) c.in_default.ensures.none.has_ended c.if-self.false)

pub returns-in-Err-clause-lazy : goal.returns-in-Err-clause-lazy
returns-in-Err-clause-lazy g c = λ has. absurd (c.in_default.ensures.waits (subst HasWholeLine (sym (c.loop-span.invariant.1.lazy has).0) has))
