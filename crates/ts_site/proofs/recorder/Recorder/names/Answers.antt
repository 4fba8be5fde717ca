use Rattle.std.proofs.Common.{List, subst}
use Rattle.std.specs.Prelude.{IfOk}
use Rattle.ts_site.specs.Folder.{no_files, AreNamesOf}
use Rattle.ts_site.specs.Call.{folder_after, with_files}
use Rattle.ts_site.specs.declared.call.Call.{Call}
use Rattle.ts_site.specs.declared.call.Stored.{Stored}
use Rattle.ts_site.proofs.MemoryLemmas.{at_one}
use Rattle.ts_site.proofs.recorder.Recorder.names.Goals as goal

pub returns : goal.returns
returns c =
    let site = c.args.self.now in
    let store = site.store.items in
    subst (λ (calls : List Call). IfOk c.standing.result (λ names. AreNamesOf (folder_after store calls (with_files store site.settled.items no_files)) names.items)) c.deref-2.ensures.value
    (subst (λ (settled : List Stored). IfOk c.standing.result (λ names. AreNamesOf (folder_after store c.deref-2.result.now (with_files store settled no_files)) names.items)) c.deref.ensures.value
    (at_one _ c.standing.result store c.standing.ensures))
