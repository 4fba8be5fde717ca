use Rattle.std.proofs.Common.{sym}
use Rattle.ts_part.specs.Facts.{spellings}
use Rattle.ts_part.specs.Layout.{of_kind}
use Rattle.ts_part.specs.Sectioned.{sections_at}
use Rattle.ts_part.proofs.Told.{told_sections, same_dictionary}
use Rattle.ts_part.proofs.sections.Sections.nodes.Goals as goal

pub of_checked-requires : goal.of_checked-requires
of_checked-requires c = (
  spellings c.requires.0.nodes,
  same_dictionary c.bytes_of.result.now c.bytes_of-2.result.now (of_kind (sections_at c.args.self.now) 1) (of_kind (sections_at c.args.self.now) 2)
      (spellings c.requires.0.nodes) c.bytes_of.ensures c.bytes_of-2.ensures (told_sections c.args.self.now c.requires.0 c.requires.1).nodes,
)

pub returns : goal.returns
returns c = λ facts tells.
    sym (c.of_checked.ensures.only (spellings facts.nodes)
    (same_dictionary c.bytes_of.result.now c.bytes_of-2.result.now (of_kind (sections_at c.args.self.now) 1) (of_kind (sections_at c.args.self.now) 2)
    (spellings facts.nodes) c.bytes_of.ensures c.bytes_of-2.ensures (told_sections c.args.self.now facts tells).nodes))
