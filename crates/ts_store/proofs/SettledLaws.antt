-- What a crash leaves of a settled folder that stands for a state.
use Rattle.std.proofs.Common.{◌≡◌, sym, subst}
use Rattle.ts_replace.specs.CrashSafe.{AgreesBut, LeavesFolder}
use Rattle.ts_replace.specs.Replaced.{new_tmp}
use Rattle.ts_site.specs.Crash.{AddsNone, CrashState, EachImage, settled}
use Rattle.ts_site.specs.Folder.{Folder}
use Rattle.ts_site.specs.Outside.{Outside}
use Rattle.ts_store.specs.Safe.{IsSettledAt}
use Rattle.ts_store.specs.Stands.{Stands}
use Rattle.ts_store.specs.State.{State}
use Rattle.ts_store.proofs.SafeLaws.{agrees_stands, settled_only}

-- each folder that a crash leaves stands for the state
pub settled_stands : (a : Outside) (state : State) (crash : CrashState) → IsSettledAt Stands state a → AddsNone crash a.crash → EachImage (λ image. Stands image state) crash
settled_stands a state crash at adds = λ image is. agrees_stands a.folder image state (at.leaves image (adds image is)) at.is

-- a folder that stays, of which a crash leaves nothing else
pub leaves_on : (folder then : Folder) (crash crash_then : CrashState) → then ≡ folder → AddsNone crash_then crash → LeavesFolder folder crash → LeavesFolder then crash_then
leaves_on folder then crash crash_then same adds leaves = λ image is. subst (λ (f : Folder). AgreesBut new_tmp f image) (sym same) (leaves image (adds image is))

-- a folder that was settled, and stays
pub leaves_settled : (folder then : Folder) (crash : CrashState) → then ≡ folder → AddsNone crash (settled folder) → LeavesFolder then crash
leaves_settled folder then crash same adds = subst (λ (f : Folder). LeavesFolder f crash) (sym same) (settled_only folder crash adds)
