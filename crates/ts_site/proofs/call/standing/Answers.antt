use Rattle.std.proofs.Common.{List, sym, ◌∙◌, ap, subst, take}
use Rattle.std.proofs.lemmas.List.{take_all}
use Rattle.ts_site.specs.Folder.{Folder, no_files, AreNamesOf}
use Rattle.ts_site.specs.Call.{folder_after, with_files}
use Rattle.ts_site.specs.declared.call.Call.{Call}
use Rattle.ts_site.proofs.CallLemmas.{take_next, folder_after-push}
use Rattle.ts_site.proofs.call.standing.Goals as goal

pub loop-call-preserved : goal.loop-call-preserved
loop-call-preserved c store =
    let base = with_files store c.args.settled.now no_files in
    let next = ap (λ (calls : List Call). folder_after store calls base) (take_next c.args.calls.now c.loop-call.call-index c.call-item.result c.loop-call-test.true c.call-item.is)
    ∙ folder_after-push store (take c.loop-call.call-index c.args.calls.now) c.call-item.result base in
    subst (λ (folder : Folder). AreNamesOf folder c.follow.new.names.items) (sym next) (c.in_ok-follow.ensures store _ (c.loop-call.invariant store))

pub returns : goal.returns
returns c store =
    subst (λ (calls : List Call). AreNamesOf (folder_after store calls (with_files store c.args.settled.now no_files)) c.loop-call.names.items) (take_all c.loop-call.call-index c.args.calls.now c.loop-call-test.false) (c.loop-call.invariant store)
