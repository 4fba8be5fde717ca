use Rattle.std.proofs.Common.{take}
use Rattle.ts_model.specs.LayerText.{layer_text}
use Rattle.ts_replace.specs.Names.{IsLayerNumber}
use Rattle.ts_replace.specs.Scanned.{AreNamedIn}
use Rattle.ts_replace.proofs.folder.numbers_in.Given as goal

-- the numbers so far are those of the names so far
abbrev pub invariant-loop-name : goal.invariant-loop-name
invariant-loop-name l = AreNamedIn IsLayerNumber layer_text l.ending (take l.name-index l.names) l.numbers.items
