use Rattle.std.proofs.Common.{◌≡◌, take}
use Rattle.std.specs.List.{list_any}
use Rattle.ts_model.specs.Birth.{has_term}
use Rattle.ts_model.specs.TextTerm.{TextTerm}
use Rattle.ts_plain.specs.Held.{birth_in, noted}
use Rattle.ts_plain.proofs.births.note_layer.Given as goal

abbrev pub invariant-loop-triple : goal.invariant-loop-triple
invariant-loop-triple l = (term : TextTerm)
    → birth_in l.births term ≡ noted (birth_in l.initial.births term) (list_any (has_term term) (take l.triple-index l.additions)) l.place
