use Rattle.std.proofs.Common.{List, ℕ, sym, subst}
use Rattle.ts_plane.specs.Plane.{PlaneSays, cut}
use Rattle.ts_part.proofs.ToldPlanes.{told_additions, additions_within}
use Rattle.ts_part.proofs.sections.Sections.additions.Goals as goal

pub of_checked-requires-clause-said : goal.of_checked-requires-clause-said
of_checked-requires-clause-said c = (
  c.requires.0.additions,
  subst (λ (places : List (ℕ × ℕ)). PlaneSays (cut c.args.self.now.file.now places) c.requires.0.additions) (sym c.eight_from.ensures)
      (told_additions c.args.self.now c.requires.0 c.requires.1),
  additions_within c.args.self.now c.requires.0 c.requires.1,
)

pub returns : goal.returns
returns c = λ facts tells.
    sym (c.of_checked.ensures.only facts.additions
    (subst (λ (places : List (ℕ × ℕ)). PlaneSays (cut c.args.self.now.file.now places) facts.additions) (sym c.eight_from.ensures)
    (told_additions c.args.self.now facts tells)))
