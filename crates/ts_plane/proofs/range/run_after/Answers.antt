use Rattle.std.proofs.Common.{◌∙◌, arith}
use Rattle.ts_plane.specs.Read.{parts_in}
use Rattle.ts_plane.proofs.RangeLemmas.{walk_run}
use Rattle.ts_plane.proofs.range.run_after.Goals as goal

pub returns : goal.returns
returns c = λ pattern run.
    c.new.ensures ∙ walk_run (parts_in c.args.sections) pattern c.args.after c.args.run.0 c.args.run.1 c.start-start.result c.min-place.result run c.start-start.ensures
    (λ h. omega (arith, c.max.ensures, c.min-place.ensures)) (λ h k. omega (arith, c.max.ensures, c.min-place.ensures)) (λ h. omega (arith, c.max.ensures, c.min-place.ensures))
