use Rattle.std.proofs.Common.{ℕ, sym, subst}
use Rattle.ts_site.specs.Outside.{IsHonest}
use Rattle.ts_site.specs.Faults.{CountsFault}
use Rattle.ts_site.specs.Folder.{Folder}
use Rattle.ts_store.specs.FolderSays.{FolderSays}
use Rattle.ts_store.specs.Stops.{is_disk_fault, is_output_fault}
use Rattle.ts_cli.specs.Asked.{asking, run_words}
use Rattle.ts_cli.specs.Causes.{is_stop_and}
use Rattle.ts_cli.specs.Change.{change_of}
use Rattle.ts_cli.specs.Ends.{Ends}
use Rattle.ts_cli.proofs.ScriptLaws.{cause_opening, cause_script, ends_opened}
use Rattle.ts_cli.proofs.StepsLemmas.{reads_all}
use Rattle.ts_cli.proofs.script.run_script.Goals as goal

pub returns-in-Err-clause-causes : goal.returns-in-Err-clause-causes
returns-in-Err-clause-causes g c =
    cause_opening (g.W.Disk.outside c.args.site.now) (g.W.Disk.outside c.open.new.site) (g.S.Source.tells c.args.input.now) (g.S.Source.left c.args.input.now) (g.S.Source.faults c.args.input.now)
    c.stopped.result c.in-Err.stop c.stopped.ensures c.in-Err.ensures.why c.in-Err.ensures.reads c.in-Err.ensures.settles c.in-Err.ensures.damaged

pub returns-in-Ok-clause-ends : goal.returns-in-Ok-clause-ends
returns-in-Ok-clause-ends g c = λ told.
    let before = g.W.Disk.outside c.args.site.now in
    let opened = g.W.Disk.outside c.open.new.site in
    let told_then : IsHonest opened = c.do_commands.ensures.tells.0 told in
    let all = reads_all _ before opened c.in-Ok.ensures.reads told_then in
    let (state, keeps, fresh, says) = c.in-Ok.ensures.says told_then in
    let comes = c.do_commands.ensures.ends state keeps fresh told (subst (λ (f : Folder). FolderSays f state) (sym all.folder) says) in
    ends_opened before opened (g.W.Disk.outside c.do_commands.new.site) (asking run_words (g.S.Source.tells c.do_commands.new.input) (g.S.Source.left c.args.input.now)) (g.S.Source.left c.do_commands.new.input)
    c.do_commands.result state comes.0 (record { all = all; settles = c.in-Ok.ensures.settles told_then }) comes.1

pub returns-in-Ok-clause-causes : goal.returns-in-Ok-clause-causes
returns-in-Ok-clause-causes g c =
    let before = g.W.Disk.outside c.args.site.now in
    let opened = g.W.Disk.outside c.open.new.site in
    let after = g.W.Disk.outside c.do_commands.new.site in
    let outcome = c.do_commands.result in
    let reads = c.in-Ok.ensures.reads in
    let does = c.do_commands.ensures in
    let a = asking run_words (g.S.Source.tells c.do_commands.new.input) (g.S.Source.left c.args.input.now) in
    let ends : IsHonest after → Ends (change_of before after) a (g.S.Source.left c.do_commands.new.input) outcome = λ told.
    let told_then : IsHonest opened = does.tells.0 told in
    let all = reads_all _ before opened reads told_then in
    let (state, keeps, fresh, says) = c.in-Ok.ensures.says told_then in
    let comes = does.ends state keeps fresh told (subst (λ (f : Folder). FolderSays f state) (sym all.folder) says) in
    ends_opened before opened after a (g.S.Source.left c.do_commands.new.input) outcome state comes.0 (record { all = all; settles = c.in-Ok.ensures.settles told_then }) comes.1 in
    cause_script before after (g.S.Source.tells c.do_commands.new.input) (g.S.Source.left c.args.input.now) (g.S.Source.left c.do_commands.new.input) (g.S.Source.faults c.args.input.now) (g.S.Source.faults c.do_commands.new.input)
    outcome does.why
    (subst (λ (n : ℕ). CountsFault (is_stop_and is_disk_fault outcome.stop) n after.disk_faults) reads.counts does.disk)
    (subst (λ (n : ℕ). CountsFault (is_stop_and is_output_fault outcome.stop) n after.say_faults) reads.output.same_faults does.output)
    does.input does.limit does.short ends
