use Rattle.std.proofs.lemmas.Result.{MatchResult-from_err}
use Rattle.ts_site.proofs.GoesLemmas.{disk_more}
use Rattle.ts_replace.proofs.ReplacedLemmas.{stands_inserted, replaced_or_not}
use Rattle.ts_replace.proofs.StageLemmas.{replaces, unplaced, replaces_unstaged, replaces_staged, leaves_staged_folder}
use Rattle.ts_replace.proofs.change.replace.Goals as goal

pub place-requires-clause-standing : goal.place-requires-clause-standing
place-requires-clause-standing g c told =
    stands_inserted _ _ _ c.args.bytes.now (c.in_ok-stage.ensures.folder told)

pub returns-clause-folder : goal.returns-clause-folder
returns-clause-folder g c told =
    replaced_or_not c.place.result _ _ _ _ _ (c.in_ok-stage.ensures.folder (c.place.ensures.disk.telling told)) (c.place.ensures.folder told)

pub returns-in_err-stage-clause-crash : goal.returns-in_err-stage-clause-crash
returns-in_err-stage-clause-crash g c honest =
    MatchResult-from_err c.from_residual.result _ _ c.from_residual.ensures.0 (λ _. unplaced c.args.name.now c.args.bytes.now (g.W.Disk.outside c.args.site.now).crash (g.W.Disk.outside c.stage.new.site).crash (c.in_err-stage.ensures.crash honest))

pub returns-in_err-stage-clause-images : goal.returns-in_err-stage-clause-images
returns-in_err-stage-clause-images g c honest leaves =
    let safely = c.in_err-stage.ensures.images honest leaves in
    replaces_unstaged c.from_residual.result c.args.name.now c.args.bytes.now (g.W.Disk.outside c.args.site.now) (g.W.Disk.outside c.stage.new.site) safely.after safely.at_each c.from_residual.ensures.0

pub returns-clause-disk : goal.returns-clause-disk
returns-clause-disk g c =
    disk_more _ (g.W.Disk.outside c.args.site.now) (g.W.Disk.outside c.stage.new.site) (g.W.Disk.outside c.place.new.site) c.in_ok-stage.ensures.disk c.place.ensures.disk

pub returns-clause-crash : goal.returns-clause-crash
returns-clause-crash g c honest =
    let old = g.W.Disk.outside c.args.site.now in
    let between = g.W.Disk.outside c.stage.new.site in
    let then = c.place.ensures.disk.telling honest in
    replaces c.place.result c.args.name.now c.args.bytes.now old.crash between.crash (g.W.Disk.outside c.place.new.site).crash (c.in_ok-stage.ensures.crash then) (c.place.ensures.crash honest)

pub returns-clause-images : goal.returns-clause-images
returns-clause-images g c honest leaves =
    let old = g.W.Disk.outside c.args.site.now in
    let between = g.W.Disk.outside c.stage.new.site in
    let bytes = c.args.bytes.now in
    let then = c.place.ensures.disk.telling honest in
    let safely = c.in_ok-stage.ensures.images then leaves in
    let folder = c.in_ok-stage.ensures.folder then in
    replaces_staged c.place.result c.args.name.now bytes old between (g.W.Disk.outside c.place.new.site) folder c.in_ok-stage.ensures.disk.output.same_told safely.at_each
    (c.place.ensures.images honest (leaves_staged_folder old.folder between.folder bytes between.crash folder safely.after) safely.ok)
