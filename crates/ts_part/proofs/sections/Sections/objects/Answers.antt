use Rattle.std.proofs.Common.{List, ℕ, sym, subst}
use Rattle.ts_log.specs.LogArray.{LogSays}
use Rattle.ts_plane.specs.Parts.{parts_of}
use Rattle.ts_part.proofs.ToldParts.{told_objects}
use Rattle.ts_part.proofs.sections.Sections.objects.Goals as goal

pub of_checked-requires : goal.of_checked-requires
of_checked-requires c = (
  (parts_of c.requires.0.additions).objects,
  subst (λ (bytes : List ℕ). LogSays bytes (parts_of c.requires.0.additions).objects) (sym c.bytes_of.ensures) (told_objects c.args.self.now c.requires.0 c.requires.1),
)

pub returns : goal.returns
returns c = λ facts tells.
    sym (c.of_checked.ensures.only (parts_of facts.additions).objects
    (subst (λ (bytes : List ℕ). LogSays bytes (parts_of facts.additions).objects) (sym c.bytes_of.ensures) (told_objects c.args.self.now facts tells)))
