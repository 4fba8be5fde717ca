use Rattle.std.proofs.Common.{◌≡◌, inl, inr, ◌++◌, ◌+◌, true, [], length, IsTrue, refl, ◌∙◌, ap, subst, arith}
use Rattle.ts_script.specs.Cutting.{view_of, GivesLine, HasEnded, HasSeenAll, IsStopped}
use Rattle.ts_script.specs.Script.{IsPassedOver, LineIs}
use Rattle.ts_script.specs.declared.head.Head.{Head}
use Rattle.ts_script.specs.declared.head.Head.TheVariants.{Whole, Awaits}
use Rattle.ts_script.specs.declared.script_line.ScriptLine.TheVariants.{PassedOver, Overlong, NoCommand, Heads}
use Rattle.ts_script.proofs.CuttingLemmas.{next-line, next-none, ended-left, left-left, took-bytes, took-end, took-line, took-took}
use Rattle.ts_script.proofs.BodyUpTo.{stop-waits, waits-passed}
use Rattle.ts_script.specs.Next.{WaitsForMore}
use Rattle.ts_script.proofs.NextLemmas.{waits-between, waits-body, SeenAs, gives-line, gives-body, gives-none, wants-memory, stop-wants, some-line, some-body, finished_takes}
use Rattle.ts_script.proofs.ScriptSoFar.{up_to-more, have_read-more}
use Rattle.ts_script.proofs.next.next_command.Goals as goal

pub loop-line-preserved : goal.loop-line-preserved
loop-line-preserved g c =
    let was = c.loop-line.invariant in
    let cur = c.loop-line.cutter in
    let after = c.next.follows.lender-at-none in
    let follows = c.next.follows.holds-at-none in
    let left = g.S.Source.left c.loop-line.input in
    let rest = g.S.Source.left c.next.new.input in
    let gives : GivesLine cur after follows.0 (view_of c.in-Some.line) = rw (c.in_ok-line.was, c.in-Some.is) at follows.1 in
    let number : c.in-Some.line.number ≡ cur.number + 1 = rw c.in-Some.is at c.in_ok-line.ensures.number in
    let ended : IsTrue (g.S.Source.tells c.next.new.input) → HasSeenAll c.args.cutter.now (g.S.Source.left c.args.input.now) → after.has_ended ≡ true → rest ≡ [] =
    λ told seen is.
    ended-left cur.has_ended after.has_ended left follows.0 rest (was.ended (follows.2.0 told) seen) (λ opened ends. follows.3 opened ends told) (follows.2.1 told) is in
    let seen_as : SeenAs (view_of c.in-Some.line) PassedOver = λ bytes e. subst (LineIs bytes) c.in-PassedOver.is (c.in_ok-read_script_line.ensures.line bytes e) in
    let count : cur.number ≡ c.args.cutter.now.number + length was.some.0 = was.some.1 in
    record {
      tells = λ told. was.tells (follows.2.0 told);
      faults = c.in_ok-line.ensures.counts ∙ was.faults;
      ended = ended;
      lines = λ told seen. up_to-more IsPassedOver c.args.cutter.now cur after (g.S.Source.left c.args.input.now) left rest (view_of c.in-Some.line)
          (was.lines (follows.2.0 told) seen)
          (next-line cur after follows.0 left rest (view_of c.in-Some.line) gives (follows.2.1 told) (ended told seen)) gives.number seen_as;
      some = have_read-more IsPassedOver c.args.cutter.now.number cur after follows.0 (view_of c.in-Some.line) was.some gives seen_as;
      offset = omega (arith, was.offset, gives.offset);
      lazy = λ same. absurd (omega (arith, same, gives.number, count));
      taken = (
        was.taken.0 ++ follows.0,
        took-line c.args.cutter.now cur after was.taken.0 follows.0 (view_of c.in-Some.line) was.taken.1 gives,
        λ told. left-left (g.S.Source.left c.args.input.now) was.taken.0 follows.0 left rest (was.taken.2 (follows.2.0 told)) (follows.2.1 told),
      );
    }

pub returns-in-Overlong-clause-command : goal.returns-in-Overlong-clause-command
returns-in-Overlong-clause-command g c = λ told seen.
    let was = c.loop-line.invariant in
    let cur = c.loop-line.cutter in
    let after = c.next.follows.lender-at-none in
    let follows = c.next.follows.holds-at-none in
    let left = g.S.Source.left c.loop-line.input in
    let rest = g.S.Source.left c.next.new.input in
    let gives : GivesLine cur after follows.0 (view_of c.in-Some.line) = rw (c.in_ok-line.was, c.in-Some.is) at follows.1 in
    let number : c.in-Some.line.number ≡ cur.number + 1 = rw c.in-Some.is at c.in_ok-line.ensures.number in
    let ended : IsTrue (g.S.Source.tells c.next.new.input) → HasSeenAll c.args.cutter.now (g.S.Source.left c.args.input.now) → after.has_ended ≡ true → rest ≡ [] =
    λ told seen is.
    ended-left cur.has_ended after.has_ended left follows.0 rest (was.ended (follows.2.0 told) seen) (λ opened ends. follows.3 opened ends told) (follows.2.1 told) is in
    let seen_as : SeenAs (view_of c.in-Some.line) Overlong = λ bytes e. subst (LineIs bytes) c.in-Overlong.is (c.in_ok-read_script_line.ensures.line bytes e) in
    gives-line c.args.cutter.now cur after (g.S.Source.left c.args.input.now) left rest c.in-Some.line Overlong _
    (was.lines (follows.2.0 told) seen)
    (next-line cur after follows.0 left rest (view_of c.in-Some.line) gives (follows.2.1 told) (ended told seen))
    gives.number number seen_as (λ _. (refl, refl)) (ended told seen)

pub returns-in-Overlong-clause-some : goal.returns-in-Overlong-clause-some
returns-in-Overlong-clause-some g c =
    let was = c.loop-line.invariant in
    let cur = c.loop-line.cutter in
    let after = c.next.follows.lender-at-none in
    let follows = c.next.follows.holds-at-none in
    let left = g.S.Source.left c.loop-line.input in
    let rest = g.S.Source.left c.next.new.input in
    let gives : GivesLine cur after follows.0 (view_of c.in-Some.line) = rw (c.in_ok-line.was, c.in-Some.is) at follows.1 in
    let number : c.in-Some.line.number ≡ cur.number + 1 = rw c.in-Some.is at c.in_ok-line.ensures.number in
    let seen_as : SeenAs (view_of c.in-Some.line) Overlong = λ bytes e. subst (LineIs bytes) c.in-Overlong.is (c.in_ok-read_script_line.ensures.line bytes e) in
    some-line c.args.cutter.now.number cur after follows.0 c.in-Some.line Overlong _ was.some gives number seen_as (λ _. (refl, refl))

pub returns-in-Overlong-clause-taken : goal.returns-in-Overlong-clause-taken
returns-in-Overlong-clause-taken g c =
    let was = c.loop-line.invariant in
    let cur = c.loop-line.cutter in
    let after = c.next.follows.lender-at-none in
    let follows = c.next.follows.holds-at-none in
    let left = g.S.Source.left c.loop-line.input in
    let rest = g.S.Source.left c.next.new.input in
    let gives : GivesLine cur after follows.0 (view_of c.in-Some.line) = rw (c.in_ok-line.was, c.in-Some.is) at follows.1 in
    let number : c.in-Some.line.number ≡ cur.number + 1 = rw c.in-Some.is at c.in_ok-line.ensures.number in (
      λ told. was.tells (follows.2.0 told),
      λ told. (
        was.taken.0 ++ follows.0,
        took-line c.args.cutter.now cur after was.taken.0 follows.0 (view_of c.in-Some.line) was.taken.1 gives,
        left-left (g.S.Source.left c.args.input.now) was.taken.0 follows.0 left rest (was.taken.2 (follows.2.0 told)) (follows.2.1 told),
      ),
    )

pub returns-in-NoCommand-clause-command : goal.returns-in-NoCommand-clause-command
returns-in-NoCommand-clause-command g c = λ told seen.
    let was = c.loop-line.invariant in
    let cur = c.loop-line.cutter in
    let after = c.next.follows.lender-at-none in
    let follows = c.next.follows.holds-at-none in
    let left = g.S.Source.left c.loop-line.input in
    let rest = g.S.Source.left c.next.new.input in
    let gives : GivesLine cur after follows.0 (view_of c.in-Some.line) = rw (c.in_ok-line.was, c.in-Some.is) at follows.1 in
    let number : c.in-Some.line.number ≡ cur.number + 1 = rw c.in-Some.is at c.in_ok-line.ensures.number in
    let ended : IsTrue (g.S.Source.tells c.next.new.input) → HasSeenAll c.args.cutter.now (g.S.Source.left c.args.input.now) → after.has_ended ≡ true → rest ≡ [] =
    λ told seen is.
    ended-left cur.has_ended after.has_ended left follows.0 rest (was.ended (follows.2.0 told) seen) (λ opened ends. follows.3 opened ends told) (follows.2.1 told) is in
    let seen_as : SeenAs (view_of c.in-Some.line) NoCommand = λ bytes e. subst (LineIs bytes) c.in-NoCommand.is (c.in_ok-read_script_line.ensures.line bytes e) in
    gives-line c.args.cutter.now cur after (g.S.Source.left c.args.input.now) left rest c.in-Some.line NoCommand _
    (was.lines (follows.2.0 told) seen)
    (next-line cur after follows.0 left rest (view_of c.in-Some.line) gives (follows.2.1 told) (ended told seen))
    gives.number number seen_as (λ _. (refl, refl)) (ended told seen)

pub returns-in-NoCommand-clause-some : goal.returns-in-NoCommand-clause-some
returns-in-NoCommand-clause-some g c =
    let was = c.loop-line.invariant in
    let cur = c.loop-line.cutter in
    let after = c.next.follows.lender-at-none in
    let follows = c.next.follows.holds-at-none in
    let left = g.S.Source.left c.loop-line.input in
    let rest = g.S.Source.left c.next.new.input in
    let gives : GivesLine cur after follows.0 (view_of c.in-Some.line) = rw (c.in_ok-line.was, c.in-Some.is) at follows.1 in
    let number : c.in-Some.line.number ≡ cur.number + 1 = rw c.in-Some.is at c.in_ok-line.ensures.number in
    let seen_as : SeenAs (view_of c.in-Some.line) NoCommand = λ bytes e. subst (LineIs bytes) c.in-NoCommand.is (c.in_ok-read_script_line.ensures.line bytes e) in
    some-line c.args.cutter.now.number cur after follows.0 c.in-Some.line NoCommand _ was.some gives number seen_as (λ _. (refl, refl))

pub returns-in-NoCommand-clause-taken : goal.returns-in-NoCommand-clause-taken
returns-in-NoCommand-clause-taken g c =
    let was = c.loop-line.invariant in
    let cur = c.loop-line.cutter in
    let after = c.next.follows.lender-at-none in
    let follows = c.next.follows.holds-at-none in
    let left = g.S.Source.left c.loop-line.input in
    let rest = g.S.Source.left c.next.new.input in
    let gives : GivesLine cur after follows.0 (view_of c.in-Some.line) = rw (c.in_ok-line.was, c.in-Some.is) at follows.1 in
    let number : c.in-Some.line.number ≡ cur.number + 1 = rw c.in-Some.is at c.in_ok-line.ensures.number in (
      λ told. was.tells (follows.2.0 told),
      λ told. (
        was.taken.0 ++ follows.0,
        took-line c.args.cutter.now cur after was.taken.0 follows.0 (view_of c.in-Some.line) was.taken.1 gives,
        left-left (g.S.Source.left c.args.input.now) was.taken.0 follows.0 left rest (was.taken.2 (follows.2.0 told)) (follows.2.1 told),
      ),
    )

pub returns-in-Heads-Whole-clause-command : goal.returns-in-Heads-Whole-clause-command
returns-in-Heads-Whole-clause-command g c = λ told seen.
    let was = c.loop-line.invariant in
    let cur = c.loop-line.cutter in
    let after = c.next.follows.lender-at-none in
    let follows = c.next.follows.holds-at-none in
    let left = g.S.Source.left c.loop-line.input in
    let rest = g.S.Source.left c.next.new.input in
    let gives : GivesLine cur after follows.0 (view_of c.in-Some.line) = rw (c.in_ok-line.was, c.in-Some.is) at follows.1 in
    let number : c.in-Some.line.number ≡ cur.number + 1 = rw c.in-Some.is at c.in_ok-line.ensures.number in
    let ended : IsTrue (g.S.Source.tells c.next.new.input) → HasSeenAll c.args.cutter.now (g.S.Source.left c.args.input.now) → after.has_ended ≡ true → rest ≡ [] =
    λ told seen is.
    ended-left cur.has_ended after.has_ended left follows.0 rest (was.ended (follows.2.0 told) seen) (λ opened ends. follows.3 opened ends told) (follows.2.1 told) is in
    let seen_as : SeenAs (view_of c.in-Some.line) (Heads (Whole c.in-Heads-Whole.command)) = λ bytes e. subst (LineIs bytes) (c.in-Heads-Whole.is ∙ ap (λ (head : Head). Heads head) c.in-Heads-Whole.field-0-is) (c.in_ok-read_script_line.ensures.line bytes e) in
    gives-line c.args.cutter.now cur after (g.S.Source.left c.args.input.now) left rest c.in-Some.line (Heads (Whole c.in-Heads-Whole.command)) c.in-Heads-Whole.command
    (was.lines (follows.2.0 told) seen)
    (next-line cur after follows.0 left rest (view_of c.in-Some.line) gives (follows.2.1 told) (ended told seen))
    gives.number number seen_as (λ _. (refl, refl)) (ended told seen)

pub returns-in-Heads-Whole-clause-some : goal.returns-in-Heads-Whole-clause-some
returns-in-Heads-Whole-clause-some g c =
    let was = c.loop-line.invariant in
    let cur = c.loop-line.cutter in
    let after = c.next.follows.lender-at-none in
    let follows = c.next.follows.holds-at-none in
    let left = g.S.Source.left c.loop-line.input in
    let rest = g.S.Source.left c.next.new.input in
    let gives : GivesLine cur after follows.0 (view_of c.in-Some.line) = rw (c.in_ok-line.was, c.in-Some.is) at follows.1 in
    let number : c.in-Some.line.number ≡ cur.number + 1 = rw c.in-Some.is at c.in_ok-line.ensures.number in
    let seen_as : SeenAs (view_of c.in-Some.line) (Heads (Whole c.in-Heads-Whole.command)) = λ bytes e. subst (LineIs bytes) (c.in-Heads-Whole.is ∙ ap (λ (head : Head). Heads head) c.in-Heads-Whole.field-0-is) (c.in_ok-read_script_line.ensures.line bytes e) in
    some-line c.args.cutter.now.number cur after follows.0 c.in-Some.line (Heads (Whole c.in-Heads-Whole.command)) c.in-Heads-Whole.command was.some gives number seen_as (λ _. (refl, refl))

pub returns-in-Heads-Whole-clause-taken : goal.returns-in-Heads-Whole-clause-taken
returns-in-Heads-Whole-clause-taken g c =
    let was = c.loop-line.invariant in
    let cur = c.loop-line.cutter in
    let after = c.next.follows.lender-at-none in
    let follows = c.next.follows.holds-at-none in
    let left = g.S.Source.left c.loop-line.input in
    let rest = g.S.Source.left c.next.new.input in
    let gives : GivesLine cur after follows.0 (view_of c.in-Some.line) = rw (c.in_ok-line.was, c.in-Some.is) at follows.1 in
    let number : c.in-Some.line.number ≡ cur.number + 1 = rw c.in-Some.is at c.in_ok-line.ensures.number in (
      λ told. was.tells (follows.2.0 told),
      λ told. (
        was.taken.0 ++ follows.0,
        took-line c.args.cutter.now cur after was.taken.0 follows.0 (view_of c.in-Some.line) was.taken.1 gives,
        left-left (g.S.Source.left c.args.input.now) was.taken.0 follows.0 left rest (was.taken.2 (follows.2.0 told)) (follows.2.1 told),
      ),
    )

pub returns-in-Heads-Awaits-clause-command : goal.returns-in-Heads-Awaits-clause-command
returns-in-Heads-Awaits-clause-command g c = λ behind seen.
    let told = c.read_script_body.ensures.taken.0 behind in
    let was = c.loop-line.invariant in
    let cur = c.loop-line.cutter in
    let after = c.next.follows.lender-at-none in
    let follows = c.next.follows.holds-at-none in
    let left = g.S.Source.left c.loop-line.input in
    let rest = g.S.Source.left c.next.new.input in
    let gives : GivesLine cur after follows.0 (view_of c.in-Some.line) = rw (c.in_ok-line.was, c.in-Some.is) at follows.1 in
    let number : c.in-Some.line.number ≡ cur.number + 1 = rw c.in-Some.is at c.in_ok-line.ensures.number in
    let ended : IsTrue (g.S.Source.tells c.next.new.input) → HasSeenAll c.args.cutter.now (g.S.Source.left c.args.input.now) → after.has_ended ≡ true → rest ≡ [] =
    λ told seen is.
    ended-left cur.has_ended after.has_ended left follows.0 rest (was.ended (follows.2.0 told) seen) (λ opened ends. follows.3 opened ends told) (follows.2.1 told) is in
    let seen_as : SeenAs (view_of c.in-Some.line) (Heads (Awaits c.in-Heads-Awaits.opening)) =
    λ bytes e. subst (LineIs bytes) (c.in-Heads-Awaits.is ∙ ap (λ (head : Head). Heads head) c.in-Heads-Awaits.field-0-is) (c.in_ok-read_script_line.ensures.line bytes e) in
    let body = c.in_ok-body-in-Heads-Awaits.body in
    gives-body c.args.cutter.now cur after c.read_script_body.new.cutter (g.S.Source.left c.args.input.now) left rest (g.S.Source.left c.read_script_body.new.input) c.in-Some.line
    c.in-Heads-Awaits.opening body.read body.is_closed _
    (was.lines (follows.2.0 told) seen)
    (next-line cur after follows.0 left rest (view_of c.in-Some.line) gives (follows.2.1 told) (ended told seen))
    gives.number number seen_as (c.in_ok-body-in-Heads-Awaits.ensures.body behind (ended told seen)) c.close.ensures

pub returns-in-Heads-Awaits-clause-some : goal.returns-in-Heads-Awaits-clause-some
returns-in-Heads-Awaits-clause-some g c =
    let was = c.loop-line.invariant in
    let cur = c.loop-line.cutter in
    let after = c.next.follows.lender-at-none in
    let follows = c.next.follows.holds-at-none in
    let left = g.S.Source.left c.loop-line.input in
    let rest = g.S.Source.left c.next.new.input in
    let gives : GivesLine cur after follows.0 (view_of c.in-Some.line) = rw (c.in_ok-line.was, c.in-Some.is) at follows.1 in
    let number : c.in-Some.line.number ≡ cur.number + 1 = rw c.in-Some.is at c.in_ok-line.ensures.number in
    let seen_as : SeenAs (view_of c.in-Some.line) (Heads (Awaits c.in-Heads-Awaits.opening)) =
    λ bytes e. subst (LineIs bytes) (c.in-Heads-Awaits.is ∙ ap (λ (head : Head). Heads head) c.in-Heads-Awaits.field-0-is) (c.in_ok-read_script_line.ensures.line bytes e) in
    let body = c.in_ok-body-in-Heads-Awaits.body in
    some-body c.args.cutter.now.number cur after c.read_script_body.new.cutter follows.0 c.in-Some.line c.in-Heads-Awaits.opening body.read body.is_closed _
    was.some gives number seen_as c.in_ok-body-in-Heads-Awaits.ensures.some c.close.ensures

pub returns-in-Heads-Awaits-clause-lazy : goal.returns-in-Heads-Awaits-clause-lazy
returns-in-Heads-Awaits-clause-lazy g c = λ has finished count.
    let was = c.loop-line.invariant in
    let cur = c.loop-line.cutter in
    let after = c.next.follows.lender-at-none in
    let follows = c.next.follows.holds-at-none in
    let left = g.S.Source.left c.loop-line.input in
    let rest = g.S.Source.left c.next.new.input in
    let gives : GivesLine cur after follows.0 (view_of c.in-Some.line) = rw (c.in_ok-line.was, c.in-Some.is) at follows.1 in
    let number : c.in-Some.line.number ≡ cur.number + 1 = rw c.in-Some.is at c.in_ok-line.ensures.number in
    let body = c.in_ok-body-in-Heads-Awaits.body in
    let reads = c.in_ok-body-in-Heads-Awaits.ensures.some in
    let lines : c.read_script_body.new.cutter.number ≡ after.number + length reads.taken = reads.number in
    let before : cur.number ≡ c.args.cutter.now.number + length was.some.0 = was.some.1 in
    absurd (finished_takes after.number c.in-Some.line.number reads.taken reads.rest c.in-Heads-Awaits.opening body.read body.is_closed _ reads.is c.close.ensures finished
    (omega (arith, lines, count, gives.number, before)))

pub returns-in_err-body-in-Heads-Awaits-clause-taken : goal.returns-in_err-body-in-Heads-Awaits-clause-taken
returns-in_err-body-in-Heads-Awaits-clause-taken g c =
    let was = c.loop-line.invariant in
    let cur = c.loop-line.cutter in
    let after = c.next.follows.lender-at-none in
    let follows = c.next.follows.holds-at-none in
    let left = g.S.Source.left c.loop-line.input in
    let rest = g.S.Source.left c.next.new.input in
    let gives : GivesLine cur after follows.0 (view_of c.in-Some.line) = rw (c.in_ok-line.was, c.in-Some.is) at follows.1 in
    let number : c.in-Some.line.number ≡ cur.number + 1 = rw c.in-Some.is at c.in_ok-line.ensures.number in
    let body = c.read_script_body.ensures.taken in (
      λ told. was.tells (follows.2.0 (body.0 told)),
      λ behind.
          let told = body.0 behind in
          let taken = body.1 behind in (
            (was.taken.0 ++ follows.0) ++ taken.0,
            took-took c.args.cutter.now after c.read_script_body.new.cutter (was.taken.0 ++ follows.0) taken.0
                (took-line c.args.cutter.now cur after was.taken.0 follows.0 (view_of c.in-Some.line) was.taken.1 gives) taken.1,
            left-left (g.S.Source.left c.args.input.now) (was.taken.0 ++ follows.0) taken.0 rest (g.S.Source.left c.read_script_body.new.input)
                (left-left (g.S.Source.left c.args.input.now) was.taken.0 follows.0 left rest (was.taken.2 (follows.2.0 told)) (follows.2.1 told)) taken.2,
          ),
    )

pub returns-in-Heads-Awaits-clause-taken : goal.returns-in-Heads-Awaits-clause-taken
returns-in-Heads-Awaits-clause-taken g c =
    let was = c.loop-line.invariant in
    let cur = c.loop-line.cutter in
    let after = c.next.follows.lender-at-none in
    let follows = c.next.follows.holds-at-none in
    let left = g.S.Source.left c.loop-line.input in
    let rest = g.S.Source.left c.next.new.input in
    let gives : GivesLine cur after follows.0 (view_of c.in-Some.line) = rw (c.in_ok-line.was, c.in-Some.is) at follows.1 in
    let number : c.in-Some.line.number ≡ cur.number + 1 = rw c.in-Some.is at c.in_ok-line.ensures.number in
    let body = c.read_script_body.ensures.taken in (
      λ told. was.tells (follows.2.0 (body.0 told)),
      λ behind.
          let told = body.0 behind in
          let taken = body.1 behind in (
            (was.taken.0 ++ follows.0) ++ taken.0,
            took-took c.args.cutter.now after c.read_script_body.new.cutter (was.taken.0 ++ follows.0) taken.0
                (took-line c.args.cutter.now cur after was.taken.0 follows.0 (view_of c.in-Some.line) was.taken.1 gives) taken.1,
            left-left (g.S.Source.left c.args.input.now) (was.taken.0 ++ follows.0) taken.0 rest (g.S.Source.left c.read_script_body.new.input)
                (left-left (g.S.Source.left c.args.input.now) was.taken.0 follows.0 left rest (was.taken.2 (follows.2.0 told)) (follows.2.1 told)) taken.2,
          ),
    )

pub returns-clause-command : goal.returns-clause-command
returns-clause-command g c = λ told seen.
    let was = c.loop-line.invariant in
    let cur = c.loop-line.cutter in
    let after = c.next.follows.lender-at-none in
    let follows = c.next.follows.holds-at-none in
    let left = g.S.Source.left c.loop-line.input in
    let rest = g.S.Source.left c.next.new.input in
    let ends : HasEnded cur after follows.0 = rw (c.in_ok-line.was, c.in_default.is) at follows.1 in
    let none : rest ≡ [] = ended-left cur.has_ended after.has_ended left follows.0 rest (was.ended (follows.2.0 told) seen) (λ opened ends. follows.3 opened ends told) (follows.2.1 told) ends.ended in
    gives-none c.args.cutter.now cur after (g.S.Source.left c.args.input.now) left rest (was.lines (follows.2.0 told) seen) (next-none cur after follows.0 left rest ends (follows.2.1 told) none) none

pub returns-clause-taken : goal.returns-clause-taken
returns-clause-taken g c =
    let was = c.loop-line.invariant in
    let cur = c.loop-line.cutter in
    let after = c.next.follows.lender-at-none in
    let follows = c.next.follows.holds-at-none in
    let left = g.S.Source.left c.loop-line.input in
    let rest = g.S.Source.left c.next.new.input in
    let ends : HasEnded cur after follows.0 = rw (c.in_ok-line.was, c.in_default.is) at follows.1 in (
      λ told. was.tells (follows.2.0 told),
      λ told. (
        was.taken.0 ++ follows.0,
        took-end c.args.cutter.now cur after was.taken.0 follows.0 was.taken.1 ends,
        left-left (g.S.Source.left c.args.input.now) was.taken.0 follows.0 left rest (was.taken.2 (follows.2.0 told)) (follows.2.1 told),
      ),
    )

pub returns-in_err-line-clause-taken : goal.returns-in_err-line-clause-taken
returns-in_err-line-clause-taken g c =
    let was = c.loop-line.invariant in
    let cur = c.loop-line.cutter in
    let after = c.next.follows.lender-at-none in
    let follows = c.next.follows.holds-at-none in
    let left = g.S.Source.left c.loop-line.input in
    let rest = g.S.Source.left c.next.new.input in
    let stops : IsStopped cur after follows.0 c.in_err-line.field-0.0 = rw c.in_err-line.was at follows.1 in (
      λ told. was.tells (follows.2.0 told),
      λ told. (
        was.taken.0 ++ follows.0,
        took-bytes c.args.cutter.now cur after was.taken.0 follows.0 was.taken.1 stops.takes,
        left-left (g.S.Source.left c.args.input.now) was.taken.0 follows.0 left rest (was.taken.2 (follows.2.0 told)) (follows.2.1 told),
      ),
    )

pub returns-in_err-read_script_line-clause-taken : goal.returns-in_err-read_script_line-clause-taken
returns-in_err-read_script_line-clause-taken g c =
    let was = c.loop-line.invariant in
    let cur = c.loop-line.cutter in
    let after = c.next.follows.lender-at-none in
    let follows = c.next.follows.holds-at-none in
    let left = g.S.Source.left c.loop-line.input in
    let rest = g.S.Source.left c.next.new.input in
    let gives : GivesLine cur after follows.0 (view_of c.in-Some.line) = rw (c.in_ok-line.was, c.in-Some.is) at follows.1 in
    let number : c.in-Some.line.number ≡ cur.number + 1 = rw c.in-Some.is at c.in_ok-line.ensures.number in (
      λ told. was.tells (follows.2.0 told),
      λ told. (
        was.taken.0 ++ follows.0,
        took-line c.args.cutter.now cur after was.taken.0 follows.0 (view_of c.in-Some.line) was.taken.1 gives,
        left-left (g.S.Source.left c.args.input.now) was.taken.0 follows.0 left rest (was.taken.2 (follows.2.0 told)) (follows.2.1 told),
      ),
    )

pub returns-in_err-read_script_line-clause-memory : goal.returns-in_err-read_script_line-clause-memory
returns-in_err-read_script_line-clause-memory g c = λ told seen lines is.
    let was = c.loop-line.invariant in
    let cur = c.loop-line.cutter in
    let after = c.next.follows.lender-at-none in
    let follows = c.next.follows.holds-at-none in
    let left = g.S.Source.left c.loop-line.input in
    let rest = g.S.Source.left c.next.new.input in
    let gives : GivesLine cur after follows.0 (view_of c.in-Some.line) = rw (c.in_ok-line.was, c.in-Some.is) at follows.1 in
    let number : c.in-Some.line.number ≡ cur.number + 1 = rw c.in-Some.is at c.in_ok-line.ensures.number in
    let ended : IsTrue (g.S.Source.tells c.next.new.input) → HasSeenAll c.args.cutter.now (g.S.Source.left c.args.input.now) → after.has_ended ≡ true → rest ≡ [] =
    λ told seen is.
    ended-left cur.has_ended after.has_ended left follows.0 rest (was.ended (follows.2.0 told) seen) (λ opened ends. follows.3 opened ends told) (follows.2.1 told) is in
    let wants = wants-memory c.args.cutter.now cur after (g.S.Source.left c.args.input.now) left rest (view_of c.in-Some.line) (was.lines (follows.2.0 told) seen)
    (next-line cur after follows.0 left rest (view_of c.in-Some.line) gives (follows.2.1 told) (ended told seen))
    (λ bytes e. inl (c.in_err-read_script_line.ensures.memory bytes e)) lines is in
    stop-wants c.from_residual-in_err-read_script_line.result lines wants

pub returns-in_err-body-in-Heads-Awaits-clause-memory : goal.returns-in_err-body-in-Heads-Awaits-clause-memory
returns-in_err-body-in-Heads-Awaits-clause-memory g c = λ behind seen lines is.
    let told = c.read_script_body.ensures.taken.0 behind in
    let was = c.loop-line.invariant in
    let cur = c.loop-line.cutter in
    let after = c.next.follows.lender-at-none in
    let follows = c.next.follows.holds-at-none in
    let left = g.S.Source.left c.loop-line.input in
    let rest = g.S.Source.left c.next.new.input in
    let gives : GivesLine cur after follows.0 (view_of c.in-Some.line) = rw (c.in_ok-line.was, c.in-Some.is) at follows.1 in
    let number : c.in-Some.line.number ≡ cur.number + 1 = rw c.in-Some.is at c.in_ok-line.ensures.number in
    let ended : IsTrue (g.S.Source.tells c.next.new.input) → HasSeenAll c.args.cutter.now (g.S.Source.left c.args.input.now) → after.has_ended ≡ true → rest ≡ [] =
    λ told seen is.
    ended-left cur.has_ended after.has_ended left follows.0 rest (was.ended (follows.2.0 told) seen) (λ opened ends. follows.3 opened ends told) (follows.2.1 told) is in
    let seen_as : SeenAs (view_of c.in-Some.line) (Heads (Awaits c.in-Heads-Awaits.opening)) =
    λ bytes e. subst (LineIs bytes) (c.in-Heads-Awaits.is ∙ ap (λ (head : Head). Heads head) c.in-Heads-Awaits.field-0-is) (c.in_ok-read_script_line.ensures.line bytes e) in
    let wants = wants-memory c.args.cutter.now cur after (g.S.Source.left c.args.input.now) left rest (view_of c.in-Some.line) (was.lines (follows.2.0 told) seen)
    (next-line cur after follows.0 left rest (view_of c.in-Some.line) gives (follows.2.1 told) (ended told seen))
    (λ bytes e. inr (c.in-Heads-Awaits.opening, (seen_as bytes e).1)) lines is in
    stop-wants c.from_residual-in_err-body-in-Heads-Awaits.result lines wants

pub returns-in_err-line-clause-waits : goal.returns-in_err-line-clause-waits
returns-in_err-line-clause-waits g c = λ told seen lines is.
    let was = c.loop-line.invariant in
    let cur = c.loop-line.cutter in
    let after = c.next.follows.lender-at-none in
    let follows = c.next.follows.holds-at-none in
    let stops : IsStopped cur after follows.0 c.in_err-line.field-0.0 = rw c.in_err-line.was at follows.1 in
    stop-waits c.from_residual.result (WaitsForMore c.args.cutter.now after lines)
    (waits-between c.args.cutter.now cur after (g.S.Source.left c.args.input.now) (g.S.Source.left c.loop-line.input) (was.lines (follows.2.0 told) seen) stops.takes.number stops.waits stops.unended lines is)

pub returns-in_err-body-in-Heads-Awaits-clause-waits : goal.returns-in_err-body-in-Heads-Awaits-clause-waits
returns-in_err-body-in-Heads-Awaits-clause-waits g c = λ behind seen lines is.
    let told = c.read_script_body.ensures.taken.0 behind in
    let was = c.loop-line.invariant in
    let cur = c.loop-line.cutter in
    let after = c.next.follows.lender-at-none in
    let follows = c.next.follows.holds-at-none in
    let left = g.S.Source.left c.loop-line.input in
    let rest = g.S.Source.left c.next.new.input in
    let gives : GivesLine cur after follows.0 (view_of c.in-Some.line) = rw (c.in_ok-line.was, c.in-Some.is) at follows.1 in
    let ended : IsTrue (g.S.Source.tells c.next.new.input) → HasSeenAll c.args.cutter.now (g.S.Source.left c.args.input.now) → after.has_ended ≡ true → rest ≡ [] =
    λ told seen is.
    ended-left cur.has_ended after.has_ended left follows.0 rest (was.ended (follows.2.0 told) seen) (λ opened ends. follows.3 opened ends told) (follows.2.1 told) is in
    let seen_as : SeenAs (view_of c.in-Some.line) (Heads (Awaits c.in-Heads-Awaits.opening)) =
    λ bytes e. subst (LineIs bytes) (c.in-Heads-Awaits.is ∙ ap (λ (head : Head). Heads head) c.in-Heads-Awaits.field-0-is) (c.in_ok-read_script_line.ensures.line bytes e) in
    waits-passed c.from_residual-in_err-body-in-Heads-Awaits.result c.in_err-body-in-Heads-Awaits.field-0.0 (WaitsForMore c.args.cutter.now c.read_script_body.new.cutter lines)
    c.from_residual-in_err-body-in-Heads-Awaits.ensures.1
    (λ not. waits-body c.args.cutter.now cur after c.read_script_body.new.cutter (g.S.Source.left c.args.input.now) left rest (view_of c.in-Some.line) c.in-Heads-Awaits.opening
    (was.lines (follows.2.0 told) seen)
    (next-line cur after follows.0 left rest (view_of c.in-Some.line) gives (follows.2.1 told) (ended told seen))
    gives.number seen_as (λ behind_lines to_come. c.in_err-body-in-Heads-Awaits.ensures.waits behind (ended told seen) behind_lines to_come not) lines is)
