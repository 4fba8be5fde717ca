use Rattle.std.proofs.lemmas.Result.{MatchResult-from_err}
use Rattle.ts_site.specs.Folder.{Folder}
use Rattle.ts_site.specs.Outside.{moments_of}
use Rattle.ts_site.proofs.GoesLemmas.{disk_reads, goes_more}
use Rattle.ts_replace.specs.CrashSafe.{AgreesBut}
use Rattle.ts_replace.specs.Replaced.{new_tmp, replaced}
use Rattle.std.proofs.Common.{◌⊎◌, inl}
use Rattle.ts_replace.proofs.StageLemmas.{IsEither, named_rename, ok_of_err, goes_moved, goes_settling, moved_or_not, still_each, places, placed_ok}
use Rattle.ts_replace.proofs.change.place.Goals as goal

pub returns-in_err-rename-clause-crash : goal.returns-in_err-rename-clause-crash
returns-in_err-rename-clause-crash g c honest =
    let old = g.W.Disk.outside c.args.site.now in
    let new = g.W.Disk.outside c.rename.new.self in
    let change = named_rename _ c.temporary_name.result c.args.name.now old new c.temporary_name.ensures c.in_err-rename.ensures.crash in
    MatchResult-from_err c.from_residual.result _ _ c.from_residual.ensures.0 (λ _. inl (change.now honest))

pub returns-in_err-rename-clause-images : goal.returns-in_err-rename-clause-images
returns-in_err-rename-clause-images g c honest leaves holds =
    let old = g.W.Disk.outside c.args.site.now in
    let new = g.W.Disk.outside c.rename.new.self in
    let name = c.args.name.now in
    let bytes = c.args.bytes.now in
    let change = named_rename _ c.temporary_name.result name old new c.temporary_name.ensures c.in_err-rename.ensures.crash in
    record {
      at_each = goes_moved name bytes old new leaves holds (change.moments honest);
      after = moved_or_not name bytes old.folder old.crash new.crash leaves holds (change.now honest);
      ok = ok_of_err c.from_residual.result _ c.from_residual.ensures.0;
    }

pub returns-clause-disk : goal.returns-clause-disk
returns-clause-disk g c =
    disk_reads _ (g.W.Disk.outside c.args.site.now) (g.W.Disk.outside c.rename.new.self) (g.W.Disk.outside c.sync_names.new.self) c.in_ok-rename.ensures.disk c.sync_names.ensures.reads

pub returns-clause-crash : goal.returns-clause-crash
returns-clause-crash g c honest =
    let old = g.W.Disk.outside c.args.site.now in
    let between = g.W.Disk.outside c.rename.new.self in
    let new = g.W.Disk.outside c.sync_names.new.self in
    let then = c.sync_names.ensures.reads.telling honest in
    let change = named_rename _ c.temporary_name.result c.args.name.now old between c.temporary_name.ensures c.in_ok-rename.ensures.crash in
    places c.sync_names.result c.args.name.now old.crash between.crash new.crash (change.now then) (c.sync_names.ensures.crash honest)

pub returns-clause-images : goal.returns-clause-images
returns-clause-images g c honest leaves holds =
    let old = g.W.Disk.outside c.args.site.now in
    let between = g.W.Disk.outside c.rename.new.self in
    let new = g.W.Disk.outside c.sync_names.new.self in
    let name = c.args.name.now in
    let bytes = c.args.bytes.now in
    let then = c.sync_names.ensures.reads.telling honest in
    let change = named_rename _ c.temporary_name.result name old between c.temporary_name.ensures c.in_ok-rename.ensures.crash in
    let either = moved_or_not name bytes old.folder old.crash between.crash leaves holds (inl (change.now then)) in
    record {
      at_each = goes_more (IsEither name bytes old) (moments_of old) (moments_of between) (moments_of new)
          (goes_moved name bytes old between leaves holds (change.moments then))
          (goes_settling (λ (image : Folder). AgreesBut new_tmp old.folder image ⊎ AgreesBut new_tmp (replaced old.folder name bytes) image) old.told between new either
          c.in_ok-rename.ensures.disk.output.same_told (c.sync_names.ensures.reads.images.moments honest));
      after = still_each (λ (image : Folder). AgreesBut new_tmp old.folder image ⊎ AgreesBut new_tmp (replaced old.folder name bytes) image) between.crash new.crash either (c.sync_names.ensures.reads.images.now honest);
      ok = placed_ok c.sync_names.result name bytes old.folder old.crash new.crash leaves holds (returns-clause-crash g c honest);
    }
