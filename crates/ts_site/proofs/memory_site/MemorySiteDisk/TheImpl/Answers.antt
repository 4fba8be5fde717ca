use Rattle.std.proofs.Common.{◌+◌, length}
use Rattle.std.specs.FinMap.{remove}
use Rattle.ts_site.specs.declared.plan.CallKind.TheVariants as kind
use Rattle.ts_site.specs.Crash.{synced, renamed, removed, names_settled, settled}
use Rattle.ts_site.specs.Folder.{moved, length_at}
use Rattle.ts_site.specs.MemorySite.{memory_state, has_failed, plans_of, planned, due}
use Rattle.ts_site.proofs.CrashLemmas.{sync_adds_none, sync_names_adds_none, barrier_adds_none}
use Rattle.ts_site.proofs.FaultLemmas.{create_told, append_told, names_told, settling_told, reading_told, reading_counts, reading_gives, list_counts, size_counts, size_gives}
use Rattle.ts_site.specs.Newest.{newest_after}
use Rattle.ts_site.proofs.memory_site.MemorySiteDisk.TheImpl.Goals as goal

pub create-tells : goal.create-tells
create-tells c =
    let told = create_told (has_failed c.args.self.now) (has_failed c.new.self.now) (planned kind.Create (plans_of c.args.self.now)) c.result c.args.name.now (memory_state c.args.self.now) (memory_state c.new.self.now) c.args.self.now.recorder.disk_count c.ensures.last c.ensures.made in
    record { last = c.ensures.last; folder = λ _. told.0; crash = told.1; disk = told.2 }

pub append-tells : goal.append-tells
append-tells c =
    let old = memory_state c.args.self.now in
    let told = append_told (has_failed c.args.self.now) (has_failed c.new.self.now) (planned kind.Append (plans_of c.args.self.now)) c.result (length_at old.folder c.args.name.now + length c.args.bytes.now) c.args.name.now c.args.bytes.now old (memory_state c.new.self.now) c.args.self.now.recorder.disk_count c.ensures.last c.ensures.made in
    record { last = c.ensures.last; folder = λ _. told.0; crash = told.1; disk = told.2 }

pub rename-tells : goal.rename-tells
rename-tells c =
    let old = memory_state c.args.self.now in
    let told = names_told (has_failed c.args.self.now) (has_failed c.new.self.now) (planned kind.Rename (plans_of c.args.self.now)) c.result (moved old.folder c.args.from.now c.args.to.now) (renamed c.args.from.now c.args.to.now old.crash) old (memory_state c.new.self.now) c.args.self.now.recorder.disk_count c.ensures.last c.ensures.made in
    record { last = c.ensures.last; folder = λ _. told.0; crash = told.1; disk = told.2 }

pub remove-tells : goal.remove-tells
remove-tells c =
    let old = memory_state c.args.self.now in
    let told = names_told (has_failed c.args.self.now) (has_failed c.new.self.now) (planned kind.Remove (plans_of c.args.self.now)) c.result (remove old.folder c.args.name.now) (removed c.args.name.now old.crash) old (memory_state c.new.self.now) c.args.self.now.recorder.disk_count c.ensures.last c.ensures.made in
    record { last = c.ensures.last; folder = λ _. told.0; crash = told.1; disk = told.2 }

pub sync-tells : goal.sync-tells
sync-tells c =
    let old = memory_state c.args.self.now in
    let told = settling_told (has_failed c.args.self.now) (has_failed c.new.self.now) (planned kind.Sync (plans_of c.args.self.now)) c.result (synced c.args.name.now old.crash) old (memory_state c.new.self.now) c.args.self.now.recorder.disk_count c.ensures.last (sync_adds_none old.crash c.args.name.now) c.ensures.made in
    record { last = c.ensures.last; crash = told.0; reads = told.1 }

pub sync_names-tells : goal.sync_names-tells
sync_names-tells c =
    let old = memory_state c.args.self.now in
    let told = settling_told (has_failed c.args.self.now) (has_failed c.new.self.now) (planned kind.SyncNames (plans_of c.args.self.now)) c.result (names_settled old.crash) old (memory_state c.new.self.now) c.args.self.now.recorder.disk_count c.ensures.last (sync_names_adds_none old.crash) c.ensures.made in
    record { last = c.ensures.last; crash = told.0; reads = told.1 }

pub barrier-tells : goal.barrier-tells
barrier-tells c =
    let site = c.args.self.now.recorder in
    let old = memory_state c.args.self.now in
    let told = settling_told (has_failed c.args.self.now) (has_failed c.new.self.now) (planned kind.Barrier (plans_of c.args.self.now)) c.result (settled old.folder) old (memory_state c.new.self.now) c.args.self.now.recorder.disk_count c.ensures.last
    (barrier_adds_none old.crash old.folder (newest_after site.store.items site.calls.items _)) c.ensures.made in
    record { last = c.ensures.last; crash = told.0; reads = told.1 }

pub list-tells : goal.list-tells
list-tells c =
    let old = memory_state c.args.self.now in
    let fault = due kind.List (plans_of c.args.self.now) old.until_stop in
    let told = reading_told (has_failed c.args.self.now) (has_failed c.new.self.now) fault _ old (memory_state c.new.self.now) c.ensures.state (list_counts _ fault c.result old (memory_state c.new.self.now) c.args.self.now.recorder.disk_count c.ensures.fails c.ensures.state) c.ensures.last in
    record { last = c.ensures.last; front = c.ensures.front; names = λ _. c.ensures.names; crash = told.0; reads = told.1 }

pub size-tells : goal.size-tells
size-tells c =
    let old = memory_state c.args.self.now in
    let fault = due kind.Size (plans_of c.args.self.now) old.until_stop in
    let told = reading_told (has_failed c.args.self.now) (has_failed c.new.self.now) fault _ old (memory_state c.new.self.now) c.ensures.state (size_counts _ fault c.result old (memory_state c.new.self.now) c.args.self.now.recorder.disk_count c.ensures.size c.ensures.state) c.ensures.last in
    record { last = c.ensures.last; size = λ _. size_gives _ fault c.result c.ensures.size; crash = told.0; reads = told.1 }

pub read_at-tells : goal.read_at-tells
read_at-tells c =
    let old = memory_state c.args.self.now in
    let fault = due kind.ReadAt (plans_of c.args.self.now) old.until_stop in
    let told = reading_told (has_failed c.args.self.now) (has_failed c.new.self.now) fault _ old (memory_state c.new.self.now) c.ensures.state (reading_counts _ _ fault c.result old (memory_state c.new.self.now) c.args.self.now.recorder.disk_count c.ensures.read c.ensures.state) c.ensures.last in
    record { last = c.ensures.last; within = c.ensures.within; bytes = λ _. reading_gives _ _ fault c.result c.ensures.read; crash = told.0; reads = told.1 }
