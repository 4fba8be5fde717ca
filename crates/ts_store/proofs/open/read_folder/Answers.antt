use Rattle.std.proofs.Common.{◌≡◌, ℕ, List, IfErr, subst}
use Rattle.ts_site.specs.Faults.{is_err_and}
use Rattle.ts_site.specs.Folder.{Folder}
use Rattle.ts_site.proofs.GoesLemmas.{reads_more}
use Rattle.ts_store.specs.declared.stop.Stop.TheVariants.{Damaged}
use Rattle.ts_store.specs.FolderSays.{IsFirstDamaged}
use Rattle.ts_store.specs.Stops.{is_disk_fault}
use Rattle.ts_store.proofs.SafeLaws.{opening_fails, opening_settles, settled_reads}
use Rattle.ts_store.proofs.open.read_folder.Goals as goal

-- what was settled reads as it did
pub read_settled-requires : goal.read_settled-requires
read_settled-requires g c = settled_reads (g.W.Disk.outside c.args.site.now) (g.W.Disk.outside c.settle.new.site) c.in-Ok.ensures.reads c.in-Ok.ensures.crash

pub returns-in-Err-clause-settles : goal.returns-in-Err-clause-settles
returns-in-Err-clause-settles g c =
    opening_fails c.in-Err.stop (g.W.Disk.outside c.args.site.now) (g.W.Disk.outside c.settle.new.site) c.in-Err.ensures.why c.in-Err.ensures.crash

pub returns-in-Ok-clause-damaged : goal.returns-in-Ok-clause-damaged
returns-in-Ok-clause-damaged g c = λ told.
    subst (λ (f : Folder). IfErr c.read_settled.result (λ stop. (name : List ℕ) → stop ≡ Damaged name → IsFirstDamaged f name)) (c.in-Ok.ensures.reads.folder (c.read_settled.ensures.reads.telling told)) (c.read_settled.ensures.damaged told)

pub returns-in-Ok-clause-reads : goal.returns-in-Ok-clause-reads
returns-in-Ok-clause-reads g c =
    reads_more (is_err_and is_disk_fault c.read_settled.result) (g.W.Disk.outside c.args.site.now) (g.W.Disk.outside c.settle.new.site) (g.W.Disk.outside c.read_settled.new.site) c.in-Ok.ensures.reads c.read_settled.ensures.reads

pub returns-in-Ok-clause-settles : goal.returns-in-Ok-clause-settles
returns-in-Ok-clause-settles g c =
    opening_settles (g.W.Disk.outside c.args.site.now) (g.W.Disk.outside c.settle.new.site) (g.W.Disk.outside c.read_settled.new.site) c.in-Ok.ensures.reads c.in-Ok.ensures.crash c.read_settled.ensures.reads.images c.read_settled.result
