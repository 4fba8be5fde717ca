use Rattle.std.proofs.Common.{sym, subst}
use Rattle.ts_site.specs.Outside.{IsHonest}
use Rattle.ts_site.specs.Folder.{Folder}
use Rattle.ts_store.specs.FolderSays.{FolderSays}
use Rattle.ts_store.specs.Keeps.{Keeps}
use Rattle.ts_store.specs.Step.{step_of}
use Rattle.ts_store.specs.Stops.{kind_of}
use Rattle.ts_cli.specs.Change.{LeavesAll, change_of}
use Rattle.ts_cli.specs.Ends.{StepsFrom}
use Rattle.ts_cli.proofs.SingleLaws.{comes_of}
use Rattle.ts_cli.proofs.StepsLemmas.{kind_only, reads_all}
use Rattle.ts_cli.proofs.single.step.Goals as goal

pub returns-clause-ends : goal.returns-clause-ends
returns-clause-ends g c = λ told.
    let opened = c.in_ok-session.ensures in
    let asked = c.args.command.now in
    let old = g.W.Disk.outside c.args.site.now in
    let middle = g.W.Disk.outside c.open.new.site in
    let new = g.W.Disk.outside c.step.new.site in
    let told_then : IsHonest middle = c.step.ensures.tells told in
    let (state, keeps, fresh, says) = opened.says told_then in
    let all : LeavesAll (change_of old middle) = reads_all _ old middle opened.reads told_then in
    let says_then = subst (λ (folder : Folder). FolderSays folder state) (sym all.folder) says in
    let does : StepsFrom (change_of middle new) state asked c.step.result = record {
      says = says_then;
      kind = kind_only c.step.result (λ kind. Keeps c.step.new.self (step_of state asked).state) (kind_of (step_of state asked).refused) (c.step.ensures.state state keeps);
      told = c.step.ensures.told state keeps;
      folder = c.step.ensures.folder state keeps told;
      says_after = c.step.ensures.says state keeps told says_then;
      stands_after = c.step.ensures.stands state keeps told;
      telling = c.step.ensures.tells;
      crash = c.step.ensures.crash keeps.unspent told;
      safe = c.step.ensures.safe state keeps told;
    } in
    comes_of (change_of old new) asked c.step.result state (c.step.ensures.why keeps.unspent) (record { fresh = fresh; says = says; opened = middle; opens = record { all = all; settles = opened.settles told_then }; steps = does })
