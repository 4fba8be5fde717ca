use Rattle.std.proofs.Common.{List, ℕ, sym, subst}
use Rattle.ts_log.specs.LogArray.{LogSays}
use Rattle.ts_plane.specs.Parts.{parts_of}
use Rattle.ts_part.proofs.ToldParts.{told_subjects}
use Rattle.ts_part.proofs.sections.Sections.subjects.Goals as goal

pub of_checked-requires : goal.of_checked-requires
of_checked-requires c = (
  (parts_of c.requires.0.additions).subjects,
  subst (λ (bytes : List ℕ). LogSays bytes (parts_of c.requires.0.additions).subjects) (sym c.bytes_of.ensures) (told_subjects c.args.self.now c.requires.0 c.requires.1),
)

pub returns : goal.returns
returns c = λ facts tells.
    sym (c.of_checked.ensures.only (parts_of facts.additions).subjects
    (subst (λ (bytes : List ℕ). LogSays bytes (parts_of facts.additions).subjects) (sym c.bytes_of.ensures) (told_subjects c.args.self.now facts tells)))
