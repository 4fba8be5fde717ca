use Rattle.std.proofs.Common.{◌≡◌, ℕ, List, IfErr, subst}
use Rattle.ts_site.specs.Faults.{is_err_and}
use Rattle.ts_site.specs.Folder.{Folder}
use Rattle.ts_site.proofs.GoesLemmas.{reads_more}
use Rattle.ts_store.specs.declared.stop.Stop.TheVariants.{Damaged}
use Rattle.ts_store.specs.FolderSays.{IsFirstDamaged}
use Rattle.ts_store.specs.Stops.{is_disk_fault}
use Rattle.ts_store.proofs.open.read_settled.Goals as goal

pub returns-in-Ok-clause-damaged : goal.returns-in-Ok-clause-damaged
returns-in-Ok-clause-damaged g c = λ told.
    subst (λ (f : Folder). IfErr c.read_found.result (λ stop. (name : List ℕ) → stop ≡ Damaged name → IsFirstDamaged f name)) (c.in-Ok.ensures.reads.folder (c.read_found.ensures.reads.telling told)) (c.read_found.ensures.damaged told)

pub returns-in-Ok-clause-reads : goal.returns-in-Ok-clause-reads
returns-in-Ok-clause-reads g c =
    reads_more (is_err_and is_disk_fault c.read_found.result) (g.W.Disk.outside c.args.site.now) (g.W.Disk.outside c.scan.new.site) (g.W.Disk.outside c.read_found.new.site) c.in-Ok.ensures.reads c.read_found.ensures.reads
