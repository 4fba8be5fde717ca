-- The line that tells of a stop.
use Rattle.std.specs.Prelude.{ℕ, List, [], ◌∷◌, ◌++◌, codes}
use Rattle.ts_store.specs.declared.stop.Stop.{Stop}
use Rattle.ts_store.specs.declared.stop.Stop.TheVariants.{Usage, Damaged, DiskFault, InputFault, OutputFault, InputLimit, Memory}

abbrev pub stop_words : Stop → List ℕ
stop_words Usage = codes "usage"
stop_words (Damaged name) = codes "damaged " ++ name
stop_words DiskFault = codes "disk fault"
stop_words InputFault = codes "input fault"
stop_words OutputFault = codes "output fault"
stop_words InputLimit = codes "input limit"
stop_words Memory = codes "want of memory"

abbrev pub stop_text : Stop → List ℕ
stop_text stop = codes "tstore: " ++ stop_words stop ++ 10 ∷ []
