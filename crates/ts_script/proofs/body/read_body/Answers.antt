use Rattle.std.proofs.Common.{◌≡◌, ◌++◌, ◌+◌, true, [], IsTrue, refl, ◌∙◌, arith}
use Rattle.ts_script.specs.Cutting.{view_of, GivesLine, HasEnded, HasSeenAll, IsStopped}
use Rattle.ts_script.proofs.CuttingLemmas.{next-line, next-none, ended-left, left-left, took-bytes, took-end, took-line, took-nothing}
use Rattle.ts_script.proofs.BodySoFar.{read-one, read-all, read-some}
use Rattle.ts_script.proofs.body.read_body.Goals as goal

pub loop-body-init : goal.loop-body-init
loop-body-init g c = record {
  tells = λ told. told;
  faults = refl;
  ended = λ told seen. seen;
  lines = λ told seen lines is. record { done = []; rest = lines; parts = refl; to_come = is; number = omega arith; read = c.new-body.ensures c.args.cutter.now.number };
  some = ([], omega arith, c.new-body.ensures c.args.cutter.now.number);
  taken = ([], took-nothing c.args.cutter.now, λ told. refl);
}

pub loop-body-preserved : goal.loop-body-preserved
loop-body-preserved g c =
    let was = c.loop-body.invariant in
    let cur = c.loop-body.cutter in
    let after = c.next.follows.lender-at-none in
    let follows = c.next.follows.holds-at-none in
    let left = g.S.Source.left c.loop-body.input in
    let rest = g.S.Source.left c.next.new.input in
    let gives : GivesLine cur after follows.0 (view_of c.in-Some.line) = rw (c.in_ok-line.was, c.in-Some.is) at follows.1 in
    let number : c.in-Some.line.number ≡ cur.number + 1 = rw c.in-Some.is at c.in_ok-line.ensures.number in
    let ended : IsTrue (g.S.Source.tells c.next.new.input) → HasSeenAll c.args.cutter.now (g.S.Source.left c.args.input.now) → after.has_ended ≡ true → rest ≡ [] =
    λ told seen is.
    ended-left cur.has_ended after.has_ended left follows.0 rest (was.ended (follows.2.0 told) seen) (λ opened ends. follows.3 opened ends told) (follows.2.1 told) is in
    record {
      tells = λ told. was.tells (follows.2.0 told);
      faults = c.in_ok-line.ensures.counts ∙ was.faults;
      ended = ended;
      lines = λ told seen. read-one c.args.cutter.now cur after (g.S.Source.left c.args.input.now) left rest
          c.loop-body.body.signed.items c.add.new.self.signed.items c.loop-body.body.fault c.add.new.self.fault c.in-Some.line
          (was.lines (follows.2.0 told) seen)
          (next-line cur after follows.0 left rest (view_of c.in-Some.line) gives (follows.2.1 told) (ended told seen))
          gives.number number c.in_ok-add.ensures;
      some = read-some c.args.cutter.now.number cur after follows.0
          c.loop-body.body.signed.items c.add.new.self.signed.items c.loop-body.body.fault c.add.new.self.fault c.in-Some.line
          was.some gives number c.in_ok-add.ensures;
      taken = (
        was.taken.0 ++ follows.0,
        took-line c.args.cutter.now cur after was.taken.0 follows.0 (view_of c.in-Some.line) was.taken.1 gives,
        λ told. left-left (g.S.Source.left c.args.input.now) was.taken.0 follows.0 left rest (was.taken.2 (follows.2.0 told)) (follows.2.1 told),
      );
    }

pub returns-clause-body : goal.returns-clause-body
returns-clause-body g c = λ told seen lines is.
    let was = c.loop-body.invariant in
    let cur = c.loop-body.cutter in
    let after = c.next.follows.lender-at-none in
    let follows = c.next.follows.holds-at-none in
    let left = g.S.Source.left c.loop-body.input in
    let rest = g.S.Source.left c.next.new.input in
    let ends : HasEnded cur after follows.0 = rw (c.in_ok-line.was, c.in_default.is) at follows.1 in
    let none : rest ≡ [] = ended-left cur.has_ended after.has_ended left follows.0 rest (was.ended (follows.2.0 told) seen) (λ opened ends. follows.3 opened ends told) (follows.2.1 told) ends.ended in
    c.into_read.ensures c.args.cutter.now.number lines
    (read-all c.args.cutter.now cur (g.S.Source.left c.args.input.now) left c.loop-body.body.signed.items c.loop-body.body.fault lines (was.lines (follows.2.0 told) seen)
    (next-none cur after follows.0 left rest ends (follows.2.1 told) none) is)

pub returns-clause-some : goal.returns-clause-some
returns-clause-some g c =
    let was = c.loop-body.invariant in
    (was.some.0, c.into_read.ensures c.args.cutter.now.number was.some.0 was.some.2)

pub returns-clause-all : goal.returns-clause-all
returns-clause-all g c = λ told seen.
    let was = c.loop-body.invariant in
    let cur = c.loop-body.cutter in
    let after = c.next.follows.lender-at-none in
    let follows = c.next.follows.holds-at-none in
    let ends : HasEnded cur after follows.0 = rw (c.in_ok-line.was, c.in_default.is) at follows.1 in
    ended-left cur.has_ended after.has_ended (g.S.Source.left c.loop-body.input) follows.0 (g.S.Source.left c.next.new.input)
    (was.ended (follows.2.0 told) seen) (λ opened ends. follows.3 opened ends told) (follows.2.1 told) ends.ended

pub returns-clause-taken : goal.returns-clause-taken
returns-clause-taken g c =
    let was = c.loop-body.invariant in
    let cur = c.loop-body.cutter in
    let after = c.next.follows.lender-at-none in
    let follows = c.next.follows.holds-at-none in
    let ends : HasEnded cur after follows.0 = rw (c.in_ok-line.was, c.in_default.is) at follows.1 in (
      λ told. was.tells (follows.2.0 told),
      λ told. (
        was.taken.0 ++ follows.0,
        took-end c.args.cutter.now cur after was.taken.0 follows.0 was.taken.1 ends,
        left-left (g.S.Source.left c.args.input.now) was.taken.0 follows.0 (g.S.Source.left c.loop-body.input) (g.S.Source.left c.next.new.input) (was.taken.2 (follows.2.0 told)) (follows.2.1 told),
      ),
    )

pub returns-in_err-line-clause-taken : goal.returns-in_err-line-clause-taken
returns-in_err-line-clause-taken g c =
    let was = c.loop-body.invariant in
    let cur = c.loop-body.cutter in
    let after = c.next.follows.lender-at-none in
    let follows = c.next.follows.holds-at-none in
    let stops : IsStopped cur after follows.0 c.in_err-line.field-0.0 = rw c.in_err-line.was at follows.1 in (
      λ told. was.tells (follows.2.0 told),
      λ told. (
        was.taken.0 ++ follows.0,
        took-bytes c.args.cutter.now cur after was.taken.0 follows.0 was.taken.1 stops.takes,
        left-left (g.S.Source.left c.args.input.now) was.taken.0 follows.0 (g.S.Source.left c.loop-body.input) (g.S.Source.left c.next.new.input) (was.taken.2 (follows.2.0 told)) (follows.2.1 told),
      ),
    )

pub returns-in_err-add-clause-taken : goal.returns-in_err-add-clause-taken
returns-in_err-add-clause-taken g c =
    let was = c.loop-body.invariant in
    let cur = c.loop-body.cutter in
    let after = c.next.follows.lender-at-none in
    let follows = c.next.follows.holds-at-none in
    let gives : GivesLine cur after follows.0 (view_of c.in-Some.line) = rw (c.in_ok-line.was, c.in-Some.is) at follows.1 in (
      λ told. was.tells (follows.2.0 told),
      λ told. (
        was.taken.0 ++ follows.0,
        took-line c.args.cutter.now cur after was.taken.0 follows.0 (view_of c.in-Some.line) was.taken.1 gives,
        left-left (g.S.Source.left c.args.input.now) was.taken.0 follows.0 (g.S.Source.left c.loop-body.input) (g.S.Source.left c.next.new.input) (was.taken.2 (follows.2.0 told)) (follows.2.1 told),
      ),
    )
