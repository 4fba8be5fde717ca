use Rattle.std.proofs.Common.{take}
use Rattle.std.specs.Prelude.{codes}
use Rattle.ts_model.specs.Names.{IsLabelName}
use Rattle.ts_replace.specs.Scanned.{AreNamedIn}
use Rattle.ts_replace.proofs.folder.labels_in.Given as goal

-- the labels so far are those of the names so far
abbrev pub invariant-loop-name : goal.invariant-loop-name
invariant-loop-name l = AreNamedIn IsLabelName (λ name. name) (codes ".label") (take l.name-index l.names) l.labels.items
