use Rattle.std.proofs.Common.{◌≡◌, Bool, Some, refl, subst, sym, ◌∙◌, [], inl}
use Rattle.std.specs.FinMap.{get, insert}
use Rattle.std.proofs.lemmas.Result.{MatchResult-from_err}
use Rattle.ts_site.specs.Outside.{OnlyDisk, moments_of}
use Rattle.ts_site.proofs.GoesLemmas.{disk_more, disk_reads, goes_more}
use Rattle.ts_replace.specs.CrashSafe.{AgreesBut}
use Rattle.ts_replace.specs.Replaced.{new_tmp}
use Rattle.ts_replace.proofs.ReplacedLemmas.{stands_inserted, appended-new, any_before, written}
use Rattle.ts_replace.proofs.StageLemmas.{IsOld, named_change, ok_of_err, unstaged_once, unstaged_twice, unstaged_leaves, goes_unstaged, goes_settling, still_each, written_whole, stages, staged_ok, reads_whole, settles_named}
use Rattle.ts_replace.proofs.change.stage.Goals as goal

pub append-requires : goal.append-requires
append-requires g c told =
    stands_inserted _ _ _ [] (c.in_ok-create.ensures.folder told)

pub sync-requires : goal.sync-requires
sync-requires g c told =
    stands_inserted _ _ _ c.args.bytes.now (c.in_ok-append.ensures.folder told ∙ appended-new _ _ _ c.args.bytes.now (c.in_ok-create.ensures.folder (c.in_ok-append.ensures.disk.telling told)))

pub returns-in_err-append-clause-folder : goal.returns-in_err-append-clause-folder
returns-in_err-append-clause-folder g c told =
    MatchResult-from_err c.from_residual-in_err-append.result _ _ c.from_residual-in_err-append.ensures.0
    (λ _. any_before _ _ _ _ _ [] c.temporary_name-temporary.ensures (c.in_ok-create.ensures.folder (c.in_err-append.ensures.disk.telling told)) (c.in_err-append.ensures.folder told))

pub returns-clause-folder : goal.returns-clause-folder
returns-clause-folder g c told =
    let appended = c.sync.ensures.reads.telling told in
    let created = c.in_ok-append.ensures.disk.telling appended in
    written c.sync.result _ _ _ _ c.args.bytes.now c.temporary_name-temporary.ensures
    (c.sync.ensures.reads.folder told ∙ c.in_ok-append.ensures.folder appended
    ∙ appended-new _ _ _ c.args.bytes.now (c.in_ok-create.ensures.folder created))

pub returns-in_err-create-clause-crash : goal.returns-in_err-create-clause-crash
returns-in_err-create-clause-crash g c honest =
    let old = g.W.Disk.outside c.args.site.now in
    let new = g.W.Disk.outside c.create.new.self in
    let change = named_change _ _ old new c.temporary_name-temporary.ensures c.in_err-create.ensures.crash in
    MatchResult-from_err c.from_residual.result _ _ c.from_residual.ensures.0 (λ _. inl (unstaged_once old.crash new.crash _ (change.now honest)))

pub returns-in_err-create-clause-images : goal.returns-in_err-create-clause-images
returns-in_err-create-clause-images g c honest leaves =
    let old = g.W.Disk.outside c.args.site.now in
    let new = g.W.Disk.outside c.create.new.self in
    let change = named_change _ _ old new c.temporary_name-temporary.ensures c.in_err-create.ensures.crash in
    record {
      at_each = goes_unstaged old old new _ leaves refl (λ state is. unstaged_once old.crash state _ is) (change.moments honest);
      after = unstaged_leaves old.folder old.crash new.crash leaves (unstaged_once old.crash new.crash _ (change.now honest));
      ok = ok_of_err c.from_residual.result _ c.from_residual.ensures.0;
    }

pub returns-in_err-append-clause-crash : goal.returns-in_err-append-clause-crash
returns-in_err-append-clause-crash g c honest =
    let old = g.W.Disk.outside c.args.site.now in
    let between = g.W.Disk.outside c.create.new.self in
    let new = g.W.Disk.outside c.append.new.self in
    let then = c.in_err-append.ensures.disk.telling honest in
    let first = named_change _ _ old between c.temporary_name-temporary.ensures c.in_ok-create.ensures.crash in
    let change = named_change _ _ between new c.temporary_name-temporary.ensures c.in_err-append.ensures.crash in
    MatchResult-from_err c.from_residual-in_err-append.result _ _ c.from_residual-in_err-append.ensures.0
    (λ _. inl (unstaged_twice old.crash between.crash new.crash _ _ (first.now then) (change.now honest)))

pub returns-in_err-append-clause-images : goal.returns-in_err-append-clause-images
returns-in_err-append-clause-images g c honest leaves =
    let old = g.W.Disk.outside c.args.site.now in
    let between = g.W.Disk.outside c.create.new.self in
    let new = g.W.Disk.outside c.append.new.self in
    let then = c.in_err-append.ensures.disk.telling honest in
    let first = named_change _ _ old between c.temporary_name-temporary.ensures c.in_ok-create.ensures.crash in
    let change = named_change _ _ between new c.temporary_name-temporary.ensures c.in_err-append.ensures.crash in
    record {
      at_each = goes_more (IsOld old) (moments_of old) (moments_of between) (moments_of new)
          (goes_unstaged old old between _ leaves refl (λ state is. unstaged_once old.crash state _ is) (first.moments then))
          (goes_unstaged old between new _ leaves c.in_ok-create.ensures.disk.output.same_told (λ state is. unstaged_twice old.crash between.crash state _ _ (first.now then) is) (change.moments honest));
      after = unstaged_leaves old.folder old.crash new.crash leaves (unstaged_twice old.crash between.crash new.crash _ _ (first.now then) (change.now honest));
      ok = ok_of_err c.from_residual-in_err-append.result _ c.from_residual-in_err-append.ensures.0;
    }

pub returns-in_err-append-clause-disk : goal.returns-in_err-append-clause-disk
returns-in_err-append-clause-disk g c =
    let old = g.W.Disk.outside c.args.site.now in
    let new = g.W.Disk.outside c.append.new.self in
    subst (λ (b : Bool). OnlyDisk b old new) (sym c.from_residual-in_err-append.ensures.0)
    (disk_more _ old (g.W.Disk.outside c.create.new.self) new c.in_ok-create.ensures.disk c.in_err-append.ensures.disk)

pub returns-clause-disk : goal.returns-clause-disk
returns-clause-disk g c =
    let old = g.W.Disk.outside c.args.site.now in
    let between = g.W.Disk.outside c.append.new.self in
    disk_reads _ old between (g.W.Disk.outside c.sync.new.self)
    (disk_more _ old (g.W.Disk.outside c.create.new.self) between c.in_ok-create.ensures.disk c.in_ok-append.ensures.disk) c.sync.ensures.reads

pub returns-clause-crash : goal.returns-clause-crash
returns-clause-crash g c honest =
    let old = g.W.Disk.outside c.args.site.now in
    let between = g.W.Disk.outside c.create.new.self in
    let new = g.W.Disk.outside c.append.new.self in
    let last = g.W.Disk.outside c.sync.new.self in
    let later = c.sync.ensures.reads.telling honest in
    let then = c.in_ok-append.ensures.disk.telling later in
    let first = named_change _ _ old between c.temporary_name-temporary.ensures c.in_ok-create.ensures.crash in
    let change = named_change _ _ between new c.temporary_name-temporary.ensures c.in_ok-append.ensures.crash in
    let folder : new.folder ≡ insert old.folder c.temporary_name-temporary.result c.args.bytes.now = c.in_ok-append.ensures.folder later ∙ appended-new _ _ _ c.args.bytes.now (c.in_ok-create.ensures.folder then) in
    let reads : get new.folder new_tmp ≡ Some c.args.bytes.now = reads_whole old.folder new.folder c.temporary_name-temporary.result c.args.bytes.now c.temporary_name-temporary.ensures folder in
    let entire = written_whole old.crash between.crash new.crash _ _ c.args.bytes.now (first.now then) (change.now later) reads in
    stages c.sync.result c.args.bytes.now old.crash new.crash last.crash entire (settles_named c.sync.result c.temporary_name-temporary.result new last c.temporary_name-temporary.ensures c.sync.ensures.crash honest)

pub returns-clause-images : goal.returns-clause-images
returns-clause-images g c honest leaves =
    let old = g.W.Disk.outside c.args.site.now in
    let between = g.W.Disk.outside c.create.new.self in
    let new = g.W.Disk.outside c.append.new.self in
    let last = g.W.Disk.outside c.sync.new.self in
    let later = c.sync.ensures.reads.telling honest in
    let then = c.in_ok-append.ensures.disk.telling later in
    let first = named_change _ _ old between c.temporary_name-temporary.ensures c.in_ok-create.ensures.crash in
    let change = named_change _ _ between new c.temporary_name-temporary.ensures c.in_ok-append.ensures.crash in
    let told : new.told ≡ old.told = c.in_ok-append.ensures.disk.output.same_told ∙ c.in_ok-create.ensures.disk.output.same_told in
    let unsettled = unstaged_leaves old.folder old.crash new.crash leaves (unstaged_twice old.crash between.crash new.crash _ _ (first.now then) (inl (change.now later))) in
    record {
      at_each = goes_more (IsOld old) (moments_of old) (moments_of new) (moments_of last)
          (goes_more (IsOld old) (moments_of old) (moments_of between) (moments_of new)
          (goes_unstaged old old between _ leaves refl (λ state is. unstaged_once old.crash state _ is) (first.moments then))
          (goes_unstaged old between new _ leaves c.in_ok-create.ensures.disk.output.same_told (λ state is. unstaged_twice old.crash between.crash state _ _ (first.now then) is) (change.moments later)))
          (goes_settling (AgreesBut new_tmp old.folder) old.told new last unsettled told (c.sync.ensures.reads.images.moments honest));
      after = still_each (AgreesBut new_tmp old.folder) new.crash last.crash unsettled (c.sync.ensures.reads.images.now honest);
      ok = staged_ok c.sync.result c.args.bytes.now old.folder old.crash last.crash leaves (returns-clause-crash g c honest);
    }
