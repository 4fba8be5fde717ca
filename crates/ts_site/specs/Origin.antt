-- Where the content of a name comes from.
use Rattle.std.specs.Prelude.{ℕ, ◌≤◌, List, Option, None, Some, slice_range}
use Rattle.std.specs.FinMap.{get}
use Rattle.ts_site.specs.declared.call.Origin.{Origin}
use Rattle.ts_site.specs.declared.call.Origin.TheVariants.{Range, Absent, Before}
use Rattle.ts_site.specs.Folder.{Folder}

-- the content of the name, by the folder before the call
abbrev pub origin_gives : List ℕ → Folder → Origin → Option (List ℕ)
origin_gives store folder (Range start end) = Some (slice_range store start end)
origin_gives store folder Absent = None
origin_gives store folder (Before name) = get folder name.now

-- a range lies in a store of this length
abbrev pub OriginLiesIn : ℕ → Origin → Type 0
OriginLiesIn size (Range start end) = (start ≤ end) × (end ≤ size)
OriginLiesIn size _ = Unit {0}
