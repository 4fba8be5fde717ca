-- Streams that rise. A merge of such streams needs only their heads.
use Rattle.std.specs.Prelude.{◌≡◌, Bool, List, [], IsTrue, IfNone}
use Rattle.std.specs.FinMap.{is_sorted}
use Rattle.ts_plane.specs.declared.triple.IdTriple.{IdTriple}
use Rattle.ts_plane.specs.Triple.{triple_cmp}
use Rattle.ts_chain.specs.declared.stream.PlaneStream.{PlaneStream}
use Rattle.ts_chain.specs.declared.stream.Stream.{Stream, Plane, Both'}
use Rattle.ts_chain.specs.Streams.{left_in, left_in_plane, merged}

-- the triple of each entry is below those after it
unfoldable pub AreRising : List (IdTriple × Bool) → Type 0
AreRising named = IsTrue (is_sorted triple_cmp named)

-- what is left rises; where nothing waits at the head, nothing comes behind it
abbrev pub IsRisingPlane : PlaneStream → Type 0
IsRisingPlane plane = AreRising (left_in_plane plane) × IfNone plane.head (plane.walk ≡ [])

-- the same of a merge and of the streams below it
abbrev pub IsRisingStream : Stream → Type 0
IsRisingStream (Plane plane) = IsRisingPlane plane
IsRisingStream (Both' p head newer older) =
    AreRising (left_in (Both' p head newer older)) × IfNone head (merged (left_in newer) (left_in older) ≡ [])
    × IsRisingStream newer × IsRisingStream older
