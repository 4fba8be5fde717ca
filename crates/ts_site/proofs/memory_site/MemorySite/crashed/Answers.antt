use Rattle.ts_site.specs.Crash.{settled}
use Rattle.ts_site.specs.Recorder.{first_files, memory_state as recorded}
use Rattle.ts_site.specs.MemorySite.{memory_state}
use Rattle.ts_site.proofs.CrashLemmas.{choice_is_image}
use Rattle.ts_site.specs.Newest.{newest_after}
use Rattle.ts_site.proofs.memory_site.MemorySite.crashed.Goals as goal

pub returns-clause-image : goal.returns-clause-image
returns-clause-image c =
    let site = c.args.self.now.recorder in
    choice_is_image c.args.choice (memory_state c.args.self.now) (recorded c.in_ok-crashed.field-0).folder
    (newest_after site.store.items site.calls.items (settled (first_files site))) c.in_ok-crashed.ensures.files
