-- What giving a folder a file leaves of it, and what a layer leaves of those in memory.
use Rattle.std.specs.Prelude.{◌≡◌, ◌∷◌, ◌++◌, [], ℕ, List, Option, Some, Result, Ok, Err}
use Rattle.ts_plain.specs.declared.write.PlainLayer.{PlainLayer}
use Rattle.ts_replace.specs.Replaced.{IsReplacedOrNot, replaced}
use Rattle.ts_site.specs.Folder.{Folder}
use Rattle.ts_store.specs.declared.stop.Stop.{Stop}
use Rattle.ts_store.specs.declared.stop.Stop.TheVariants.{DiskFault, OutputFault}
use Rattle.ts_store.specs.declared.stop.Kind.{Kind}

-- one layer more, which is now the newest
abbrev pub AddsLayerTo : PlainLayer → List PlainLayer → List PlainLayer → Option ℕ → Type 0
AddsLayerTo layer layers layers_after last_after = (layers_after ≡ layers ++ layer ∷ []) × (last_after ≡ Some layer.number)

abbrev pub KeepsLayers : List PlainLayer → Option ℕ → List PlainLayer → Option ℕ → Type 0
KeepsLayers layers last layers_after last_after = (layers_after ≡ layers) × (last_after ≡ last)

-- the file was changed, also where only the reply was not said; at a fault of the disk it was, or nothing but the temporary file
abbrev pub LeavesReplaced : Result Kind Stop → List ℕ → List ℕ → Folder → Folder → Type 0
LeavesReplaced (Ok kind) name bytes old new = new ≡ replaced old name bytes
LeavesReplaced (Err OutputFault) name bytes old new = new ≡ replaced old name bytes
LeavesReplaced (Err DiskFault) name bytes old new = IsReplacedOrNot name bytes old new
LeavesReplaced (Err _) name bytes old new = new ≡ old
