use Rattle.std.proofs.Common.{List, ℕ, sym, subst}
use Rattle.ts_plane.specs.Plane.{PlaneSays, cut}
use Rattle.ts_part.proofs.ToldPlanes.{told_removals, removals_within}
use Rattle.ts_part.proofs.sections.Sections.removals.Goals as goal

pub of_checked-requires-clause-said : goal.of_checked-requires-clause-said
of_checked-requires-clause-said c = (
  c.requires.0.removals,
  subst (λ (places : List (ℕ × ℕ)). PlaneSays (cut c.args.self.now.file.now places) c.requires.0.removals) (sym c.eight_from.ensures)
      (told_removals c.args.self.now c.requires.0 c.requires.1),
  removals_within c.args.self.now c.requires.0 c.requires.1,
)

pub returns : goal.returns
returns c = λ facts tells.
    sym (c.of_checked.ensures.only facts.removals
    (subst (λ (places : List (ℕ × ℕ)). PlaneSays (cut c.args.self.now.file.now places) facts.removals) (sym c.eight_from.ensures)
    (told_removals c.args.self.now facts tells)))
