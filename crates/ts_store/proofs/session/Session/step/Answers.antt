use Rattle.std.proofs.Common.{subst, sym}
use Rattle.ts_store.specs.FolderSays.{FolderSays}
use Rattle.ts_store.specs.Leaves.{LeavesFolder, LeavesState, LeavesTold}
use Rattle.ts_store.specs.Safe.{IsSafe, IsSettledAt}
use Rattle.ts_store.specs.Stands.{Stands}
use Rattle.ts_store.specs.State.{State}
use Rattle.ts_store.specs.Step.{step_of}
use Rattle.ts_store.proofs.CountedLaws.{counted_after}
use Rattle.ts_store.proofs.SafeLaws.{safe_stands}
use Rattle.ts_store.proofs.StandsLaws.{stands_after}
use Rattle.ts_store.proofs.session.Session.step.Goals as goal

pub returns-clause-told : goal.returns-clause-told
returns-clause-told g c = λ state keeps.
    subst (λ (s : State). LeavesTold c.dispatch-done.result (step_of s c.args.command.now).told (g.W.Disk.outside c.args.site.now).told (g.W.Disk.outside c.dispatch-done.new.site).told) keeps.store c.dispatch-done.ensures.does.told

pub returns-clause-folder : goal.returns-clause-folder
returns-clause-folder g c = λ state keeps told.
    subst (λ (s : State). LeavesFolder c.dispatch-done.result s (step_of s c.args.command.now).state (g.W.Disk.outside c.args.site.now).folder (g.W.Disk.outside c.dispatch-done.new.site).folder) keeps.store (c.dispatch-done.ensures.does.folder told)

pub returns-clause-says : goal.returns-clause-says
returns-clause-says g c = λ state keeps told says.
    let old = (g.W.Disk.outside c.args.site.now).folder in
    let new = (g.W.Disk.outside c.dispatch-done.new.site).folder in
    subst (λ (s : State). LeavesState (FolderSays new) c.dispatch-done.result s (step_of s c.args.command.now).state) keeps.store
    (c.dispatch-done.ensures.does.tells_state told (subst (FolderSays old) (sym keeps.store) says))

pub returns-clause-stands : goal.returns-clause-stands
returns-clause-stands g c = λ state keeps told stands.
    let old = (g.W.Disk.outside c.args.site.now).folder in
    let new = (g.W.Disk.outside c.dispatch-done.new.site).folder in
    let here = subst (Stands old) (sym keeps.store) stands in
    subst (λ (s : State). LeavesState (Stands new) c.dispatch-done.result s (step_of s c.args.command.now).state) keeps.store
    (stands_after new c.args.self.now.store c.args.command.now here.says.kept here.counted c.dispatch-done.result (c.dispatch-done.ensures.does.tells_state told here.says))

pub returns-clause-safe : goal.returns-clause-safe
returns-clause-safe g c = λ state keeps honest at.
    let asked = c.args.command.now in
    let old = g.W.Disk.outside c.args.site.now in
    let new = g.W.Disk.outside c.dispatch-done.new.site in
    let here : IsSettledAt Stands c.args.self.now.store old = subst (λ (s : State). IsSettledAt Stands s old) (sym keeps.store) at in
    let says : IsSettledAt FolderSays c.args.self.now.store old = record { is = here.is.says; leaves = here.leaves } in
    subst (λ (s : State). IsSafe Stands s (step_of s asked) c.dispatch-done.result old new) keeps.store
    (safe_stands c.args.self.now.store (step_of c.args.self.now.store asked) c.dispatch-done.result old new here.is.counted (counted_after c.args.self.now.store asked here.is.says.kept here.is.counted)
    (c.dispatch-done.ensures.does.safe honest says))
