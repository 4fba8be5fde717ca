use Rattle.std.proofs.Common.{◌≡◌, false, true≢false, sym, ◌∙◌}
use Rattle.ts_site.proofs.FolderLemmas.{is_same, is_same-other}
use Rattle.ts_store.proofs.CursorLaws.{none_more}
use Rattle.ts_store.proofs.cursors.place_of.Goals as goal

pub loop-place-preserved : goal.loop-place-preserved
loop-place-preserved c =
    let other : is_same c.args.name.now c.index-cursors-place.result.0 ≡ false = is_same-other _ _ (λ e. true≢false (sym (c.has_name.ensures.1 e) ∙ c.if-has_name.false)) in
    none_more c.args.name.now c.args.cursors.now c.loop-place.place c.index-cursors-place.result c.loop-place-test.true c.index-cursors-place.is c.loop-place.invariant other
