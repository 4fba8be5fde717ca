use Rattle.std.proofs.Common.{◌≡◌, ℕ, ◌<◌, ◌^◌, ◌++◌, [], List, IsTrue, None, Ok, Err, length, map, true≢false, refl, sym, ap, ◌∙◌, subst, arith}
use Rattle.ts_script.specs.Cutting.{lines_to_come, progress}
use Rattle.ts_script.specs.Lines.{line_view, lines_of}
use Rattle.ts_script.proofs.CuttingLemmas.{below_limit, left-left, over_limit, took-nothing, took-took}
use Rattle.ts_site.specs.Outside.{IsHonest}
use Rattle.ts_site.proofs.GoesLemmas.{falls_more}
use Rattle.ts_store.specs.FolderSays.{FolderSays}
use Rattle.ts_store.specs.Steps.{after}
use Rattle.ts_store.specs.declared.stop.Stop.TheVariants.{Memory}
use Rattle.ts_cli.specs.Asked.{IsOfScript}
use Rattle.ts_cli.specs.Causes.{IsOverLimit}
use Rattle.ts_cli.specs.Change.{change_of}
use Rattle.ts_cli.specs.Ends.{AreAllWhole, StepsFrom}
use Rattle.ts_script.specs.Next.{GivesCommand, NextCommandIs}
use Rattle.ts_cli.specs.declared.tally.Tally.{Tally}
use Rattle.ts_cli.proofs.ScriptLaws.{comes_between, comes_ended, comes_none, comes_stepped, limit_stopped, none_ended, offset_within, so_far_more, so_far_fallen, so_far_none, stopped_whole, SoFar}
use Rattle.ts_cli.proofs.StepsLemmas.{done_says}
use Rattle.ts_cli.proofs.script.do_commands.Goals as goal

pub returns-in_default-clause-ends : goal.returns-in_default-clause-ends
returns-in_default-clause-ends g c = λ state keeps fresh told says.
    ([], comes_none (g.S.Source.tells c.args.input.now) (g.S.Source.left c.args.input.now) (g.S.Source.left c.args.input.now) (g.W.Disk.outside c.args.site.now) state c.stopped.result c.stopped.ensures fresh says)

pub loop-stop-init : goal.loop-stop-init
loop-stop-init g c =
    let left = g.S.Source.left c.args.input.now in
    let o = g.W.Disk.outside c.args.site.now in
    let fresh = c.in-Ok.ensures.fresh in
    record {
      unspent = c.requires;
      so_far = λ state keeps told says.
          subst (λ (t : Tally). SoFar (g.S.Source.tells c.args.input.now) left o o state c.args.session.now t c.in-Ok.cutter left) (sym c.new-tally.ensures)
          (so_far_none (g.S.Source.tells c.args.input.now) left o state c.args.session.now c.in-Ok.cutter (2 ^ 40) keeps fresh (c.in-Ok.ensures.lines left));
      telling = λ honest. honest;
      disk = refl;
      say = refl;
      tells = λ told. told;
      faults = refl;
      lines = λ told. (lines_of left, c.in-Ok.ensures.lines left);
      seen = λ told ended. absurd (true≢false (sym ended ∙ fresh.has_ended));
      limit = fresh.limit;
      taken = λ told. ([], took-nothing c.in-Ok.cutter, refl);
      counted = omega (arith, ap (λ (t : Tally). t.done) c.new-tally.ensures);
    }

pub returns-in-Err-clause-ends : goal.returns-in-Err-clause-ends
returns-in-Err-clause-ends g c = λ state keeps fresh told says.
    let was = c.loop-stop.invariant in
    let before = g.W.Disk.outside c.args.site.now in
    let now = g.W.Disk.outside c.loop-stop.site in
    let left = g.S.Source.left c.args.input.now in
    let left_now = g.S.Source.left c.loop-stop.input in
    let left_after = g.S.Source.left c.read_next.new.input in
    let tells = g.S.Source.tells c.read_next.new.input in
    let fallen = c.in-Err.ensures.taken.0 in
    let so = so_far_fallen (g.S.Source.tells c.loop-stop.input) tells left before now state c.loop-stop.session c.loop-stop.tally c.loop-stop.cutter left_now fallen (was.so_far state keeps told says) in
    let whole : (c.in-Err.stop ≡ Memory → ⊥) → IsTrue tells → AreAllWhole left left_after so.done = λ input told_input.
    let first = was.taken (fallen told_input) in
    let took = c.in-Err.ensures.taken.1 told_input in
    let read = so.read told_input in
    let waits = c.in-Err.ensures.waits told_input (was.seen (fallen told_input)) read.rest read.to_come input in
    stopped_whole tells left before now state c.loop-stop.session c.loop-stop.tally c.loop-stop.cutter left_now so
    c.in-Ok.cutter c.read_next.new.cutter (first.0 ++ took.0) left_after told_input c.in-Ok.ensures.lines c.in-Ok.ensures.fresh.number
    (took-took c.in-Ok.cutter c.loop-stop.cutter c.read_next.new.cutter first.0 took.0 first.1 took.1) (left-left left first.0 took.0 left_now left_after first.2 took.2) waits.unended took.1.ended waits in (
      so.done,
      comes_between tells left before now state c.loop-stop.session c.loop-stop.tally c.loop-stop.cutter left_now so c.stopped-in-Err.result c.in-Err.stop c.stopped-in-Err.ensures fresh says c.in-Err.ensures.why left_after whole,
    )

pub returns-in-Err-clause-limit : goal.returns-in-Err-clause-limit
returns-in-Err-clause-limit g c = λ told.
    let was = c.loop-stop.invariant in
    let took = c.in-Err.ensures.taken.1 told in
    let taken = was.taken (c.in-Err.ensures.taken.0 told) in
    let bytes = taken.0 ++ took.0 in
    let all = took-took c.in-Ok.cutter c.loop-stop.cutter c.read_next.new.cutter taken.0 took.0 taken.1 took.1 in
    let whole = left-left (g.S.Source.left c.args.input.now) taken.0 took.0 (g.S.Source.left c.loop-stop.input) (g.S.Source.left c.read_next.new.input) taken.2 took.2 in
    limit_stopped c.stopped-in-Err.result c.loop-stop.tally.done c.in-Err.stop (IsOverLimit (g.S.Source.left c.args.input.now) (g.S.Source.left c.read_next.new.input)) c.stopped-in-Err.ensures
    (λ is. over_limit c.in-Ok.cutter c.read_next.new.cutter (2 ^ 40) bytes (g.S.Source.left c.args.input.now) (g.S.Source.left c.read_next.new.input) c.in-Ok.ensures.fresh all (c.in-Err.ensures.limited is).full whole)

pub returns-in-Ok-None-clause-ends : goal.returns-in-Ok-None-clause-ends
returns-in-Ok-None-clause-ends g c = λ state keeps fresh told says.
    let was = c.loop-stop.invariant in
    let before = g.W.Disk.outside c.args.site.now in
    let now = g.W.Disk.outside c.loop-stop.site in
    let left = g.S.Source.left c.args.input.now in
    let left_now = g.S.Source.left c.loop-stop.input in
    let left_after = g.S.Source.left c.read_next.new.input in
    let tells = g.S.Source.tells c.read_next.new.input in
    let fallen = c.in-Ok-None.ensures.taken.0 in
    let so = so_far_fallen (g.S.Source.tells c.loop-stop.input) tells left before now state c.loop-stop.session c.loop-stop.tally c.loop-stop.cutter left_now fallen (was.so_far state keeps told says) in
    let none : IsTrue tells → (lines : List (List ℕ)) → lines_to_come c.loop-stop.cutter left_now ≡ map line_view lines → NextCommandIs c.loop-stop.cutter c.read_next.new.cutter left_after lines None = λ told_input.
    rw c.in-Ok-None.field-0-is at (c.in-Ok-None.ensures.next told_input (was.seen (fallen told_input))) in (
      so.done,
      comes_ended tells left before now state c.loop-stop.session c.loop-stop.tally c.loop-stop.cutter left_now so c.ended.result c.ended.ensures fresh says c.read_next.new.cutter left_after none left_after,
    )

pub returns-in-Ok-None-clause-all : goal.returns-in-Ok-None-clause-all
returns-in-Ok-None-clause-all g c = λ told.
    let was = c.loop-stop.invariant in
    let told_now = c.in-Ok-None.ensures.taken.0 told in
    let (rest, to_come) = was.lines told_now in
    let none : NextCommandIs c.loop-stop.cutter c.read_next.new.cutter (g.S.Source.left c.read_next.new.input) rest None =
    rw c.in-Ok-None.field-0-is at (c.in-Ok-None.ensures.next told (was.seen told_now) rest to_come) in
    none_ended c.ended.result c.loop-stop.tally.done c.loop-stop.tally.refused (g.S.Source.left c.read_next.new.input ≡ []) c.ended.ensures none.1

pub returns-in-Ok-None-clause-short : goal.returns-in-Ok-None-clause-short
returns-in-Ok-None-clause-short g c = λ told.
    let was = c.loop-stop.invariant in
    let told_now = c.in-Ok-None.ensures.taken.0 told in
    let (rest, to_come) = was.lines told_now in
    let none : NextCommandIs c.loop-stop.cutter c.read_next.new.cutter (g.S.Source.left c.read_next.new.input) rest None =
    rw c.in-Ok-None.field-0-is at (c.in-Ok-None.ensures.next told (was.seen told_now) rest to_come) in
    let took = c.in-Ok-None.ensures.taken.1 told in
    let short : (progress c.read_next.new.cutter).taken < (progress c.read_next.new.cutter).limit = rw c.in-Ok-None.field-0-is at c.in-Ok-None.ensures.short in
    let taken = was.taken told_now in
    let left = g.S.Source.left c.args.input.now in
    let left_after = g.S.Source.left c.read_next.new.input in
    let below = below_limit c.in-Ok.cutter c.read_next.new.cutter (2 ^ 40) (taken.0 ++ took.0) left left_after c.in-Ok.ensures.fresh
    (took-took c.in-Ok.cutter c.loop-stop.cutter c.read_next.new.cutter taken.0 took.0 taken.1 took.1) short (left-left left taken.0 took.0 (g.S.Source.left c.loop-stop.input) left_after taken.2 took.2) none.1 in
    none_ended c.ended.result c.loop-stop.tally.done c.loop-stop.tally.refused (length left < 2 ^ 40) c.ended.ensures below

pub returns-in-Err-do_command-clause-ends : goal.returns-in-Err-do_command-clause-ends
returns-in-Err-do_command-clause-ends g c = λ state keeps fresh told says.
    let was = c.loop-stop.invariant in
    let before = g.W.Disk.outside c.args.site.now in
    let now = g.W.Disk.outside c.loop-stop.site in
    let then = g.W.Disk.outside c.do_command.new.site in
    let left = g.S.Source.left c.args.input.now in
    let left_now = g.S.Source.left c.loop-stop.input in
    let left_after = g.S.Source.left c.read_next.new.input in
    let tells = g.S.Source.tells c.read_next.new.input in
    let taken = c.in-Ok-Some.ensures.taken in
    let told_now : IsHonest now = c.in-Err-do_command.ensures.tells told in
    let so = so_far_fallen (g.S.Source.tells c.loop-stop.input) tells left before now state c.loop-stop.session c.loop-stop.tally c.loop-stop.cutter left_now taken.0 (was.so_far state keeps told_now says) in
    let here = after state so.done (length so.done) in
    let asked = c.in-Ok-Some.command in
    let says_now : FolderSays now.folder here = done_says before now state so.done says so.steps in
    let of_script : IsOfScript asked = rw c.in-Ok-Some.field-0-is at c.in-Ok-Some.ensures.some in
    let gives : IsTrue tells → (lines : List (List ℕ)) → lines_to_come c.loop-stop.cutter left_now ≡ map line_view lines → GivesCommand c.loop-stop.cutter c.read_next.new.cutter left_after lines asked = λ told_input.
    rw c.in-Ok-Some.field-0-is at (c.in-Ok-Some.ensures.next told_input (was.seen (taken.0 told_input))) in
    let does : StepsFrom (change_of now then) here asked (Err c.in-Err-do_command.stop) = c.in-Err-do_command.ensures.steps here so.keeps told says_now in (
      so.done,
      comes_stepped tells left before now state c.loop-stop.session c.loop-stop.tally c.loop-stop.cutter left_now so asked of_script c.read_next.new.cutter left_after gives (λ told_input. (taken.1 told_input).1.ended)
          then c.stopped-in-Err-do_command.result c.in-Err-do_command.stop c.stopped-in-Err-do_command.ensures fresh says c.in-Err-do_command.ensures.why does left_after,
    )

pub loop-stop-smaller : goal.loop-stop-smaller
loop-stop-smaller g c =
    let was = c.loop-stop.invariant in
    let rises = rw c.in-Ok-Some.field-0-is at c.in-Ok-Some.ensures.offset in
    let within = offset_within c.read_next.new.cutter in
    let limit = rw c.in-Ok-Some.field-0-is at c.in-Ok-Some.ensures.limit in
    omega (arith, rises, within, limit, was.limit)

pub loop-stop-preserved : goal.loop-stop-preserved
loop-stop-preserved g c =
    let was = c.loop-stop.invariant in
    let before = g.W.Disk.outside c.args.site.now in
    let now = g.W.Disk.outside c.loop-stop.site in
    let then = g.W.Disk.outside c.do_command.new.site in
    let left = g.S.Source.left c.args.input.now in
    let left_now = g.S.Source.left c.loop-stop.input in
    let left_after = g.S.Source.left c.read_next.new.input in
    let tells = g.S.Source.tells c.read_next.new.input in
    let taken = c.in-Ok-Some.ensures.taken in
    let asked = c.in-Ok-Some.command in
    let of_script : IsOfScript asked = rw c.in-Ok-Some.field-0-is at c.in-Ok-Some.ensures.some in
    let rises = rw c.in-Ok-Some.field-0-is at c.in-Ok-Some.ensures.offset in
    let gives : IsTrue tells → (lines : List (List ℕ)) → lines_to_come c.loop-stop.cutter left_now ≡ map line_view lines → GivesCommand c.loop-stop.cutter c.read_next.new.cutter left_after lines asked = λ told_input.
    rw c.in-Ok-Some.field-0-is at (c.in-Ok-Some.ensures.next told_input (was.seen (taken.0 told_input))) in
    record {
      unspent = c.in-Ok-do_command.ensures.spends;
      so_far = λ state keeps told says.
          let told_now : IsHonest now = c.in-Ok-do_command.ensures.tells told in
          let so = so_far_fallen (g.S.Source.tells c.loop-stop.input) tells left before now state c.loop-stop.session c.loop-stop.tally c.loop-stop.cutter left_now taken.0 (was.so_far state keeps told_now says) in
          let here = after state so.done (length so.done) in
          let says_now : FolderSays now.folder here = done_says before now state so.done says so.steps in
          let does : StepsFrom (change_of now then) here asked (Ok c.in-Ok-do_command.kind) = c.in-Ok-do_command.ensures.steps here so.keeps told says_now in
          so_far_more tells left before now state c.loop-stop.session c.loop-stop.tally c.loop-stop.cutter left_now so
          asked of_script c.read_next.new.cutter left_after gives (λ told_input. (taken.1 told_input).1.ended) then c.in-Ok-do_command.kind c.do_command.new.session c.count.new.self does (c.in-Ok-do_command.ensures.keeps here so.keeps)
          c.count.ensures;
      telling = falls_more before now then was.telling c.in-Ok-do_command.ensures.tells;
      disk = c.in-Ok-do_command.ensures.disk ∙ was.disk;
      say = c.in-Ok-do_command.ensures.say ∙ was.say;
      tells = λ told_input. was.tells (taken.0 told_input);
      faults = c.in-Ok-Some.ensures.counts ∙ was.faults;
      lines = λ told_input.
          let (rest, to_come) = was.lines (taken.0 told_input) in
          let one = gives told_input rest to_come in
          (one.rest, one.to_come);
      seen = λ told_input.
          let (rest, to_come) = was.lines (taken.0 told_input) in
          (gives told_input rest to_come).seen;
      limit = (rw c.in-Ok-Some.field-0-is at c.in-Ok-Some.ensures.limit) ∙ was.limit;
      taken = λ told_input.
          let first = was.taken (taken.0 told_input) in
          let took = taken.1 told_input in (
            first.0 ++ took.0,
            took-took c.in-Ok.cutter c.loop-stop.cutter c.read_next.new.cutter first.0 took.0 first.1 took.1,
            left-left left first.0 took.0 left_now left_after first.2 took.2,
          );
      counted = omega (arith, was.counted, rises, ap (λ (t : Tally). t.done) c.count.ensures);
    }
