-- What is kept of the files whose bytes are unsettled, and where a crash may leave files.
use Rattle.std.specs.Prelude.{◌≡◌, ℕ, ◌≤◌, List, Option, Some, None, slice_range}
use Rattle.std.specs.FinMap.{get}
use Rattle.ts_site.specs.declared.call.Call.{Call}
use Rattle.ts_site.specs.declared.call.Call.TheVariants.{Create, Append, Sync, Rename, Remove, SyncNames, Barrier, Say}
use Rattle.ts_site.specs.declared.crash.OldestOrigin.{OldestOrigin}
use Rattle.ts_site.specs.declared.crash.OldestOrigin.TheVariants.{Range, Before, Settled}
use Rattle.ts_site.specs.declared.crash.Unsettled.{Unsettled}
use Rattle.ts_site.specs.Crash.{CrashState, newest}

-- these are the names and renames of the state
pub record AreUnsettled (state : CrashState) (unsettled : Unsettled) : Type 0 where
  pub loose : unsettled.loose.items ≡ state.loose
  pub ties : unsettled.ties.items ≡ state.ties

-- the name under which a call leaves a file
abbrev pub name_of : Call → Option (List ℕ)
name_of (Create name) = Some name
name_of (Append stored) = Some stored.name
name_of (Rename from to) = Some to
name_of (Sync name) = None
name_of (Remove name) = None
name_of SyncNames = None
name_of Barrier = None
name_of (Say end) = None

-- the content of the name without unsettled renames and removals, by the state before the call
abbrev pub oldest_gives : List ℕ → List ℕ → CrashState → OldestOrigin → Option (List ℕ)
oldest_gives store name state (Range start end) = Some (slice_range store start end)
oldest_gives store name state Before = get state.oldest name
oldest_gives store name state Settled = get (newest state) name

-- a range lies in a store of this length
abbrev pub OldestLiesIn : ℕ → OldestOrigin → Type 0
OldestLiesIn size (Range start end) = (start ≤ end) × (end ≤ size)
OldestLiesIn size _ = Unit {0}
