use Rattle.std.proofs.Common.{◌+◌, length, take}
use Rattle.ts_site.specs.Folder.{length_at}
use Rattle.ts_site.specs.Recorder.{memory_state as recorded, after_append}
use Rattle.ts_site.specs.MemorySite.{memory_state}
use Rattle.ts_site.specs.declared.plan.FaultKind.TheVariants.{Half}
use Rattle.ts_site.proofs.FaultLemmas.{disk_call_spoiled}
use Rattle.ts_site.proofs.memory_site.MemorySite.append_in_vain.Goals as goal

pub returns-clause-made : goal.returns-clause-made
returns-clause-made c =
    let old = memory_state c.args.self.now in
    disk_call_spoiled Half c.append-made.result c.spoil.result (length_at old.folder c.args.name.now + length c.args.bytes.now) (after_append c.args.name.now (take c.args.kept c.args.bytes.now) old)
    old (recorded c.append-made.new.self) (recorded c.spoil.new.self) c.append-made.ensures.made c.spoil.ensures.failed c.spoil.ensures.state
