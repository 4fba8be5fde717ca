use Rattle.std.proofs.Common.{◌∷◌, [], refl}
use Rattle.ts_idmap.proofs.Examples.{says_two}
use Rattle.ts_idmap.proofs.tests.reads_checked_bytes.Goals as goal

pub of_checked-requires : goal.of_checked-requires
of_checked-requires g c = (1 ∷ 0 ∷ [], (refl, says_two))
