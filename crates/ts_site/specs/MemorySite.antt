-- What a site in memory tells, and the faults that are planned for it.
use Rattle.std.specs.Prelude.{◌≡◌, ℕ, ◌-◌, ◌==◌, ◌&&◌, Bool, true, false, List, [], length, reverse, find, Option, None, Some, Result, Err, MatchBool, if◌then◌else◌}
use Rattle.std.specs.FinMap.{insert, remove}
use Rattle.std.specs.Option.{option_map}
use Rattle.ts_site.specs.declared.disk.Failed.{Failed}
use Rattle.ts_site.specs.declared.call.Call.{Call}
use Rattle.ts_site.specs.declared.memory_site.MemorySite.{MemorySite}
use Rattle.ts_site.specs.declared.plan.CallKind.{CallKind}
use Rattle.ts_site.specs.declared.plan.CallKind.TheVariants as kind
use Rattle.ts_site.specs.declared.plan.FaultKind.{FaultKind}
use Rattle.ts_site.specs.declared.plan.FaultKind.TheVariants.{Nothing, Happened, Half}
use Rattle.ts_site.specs.declared.plan.Plan.{Plan}
use Rattle.ts_site.specs.Crash.{CrashState, written, renamed, removed}
use Rattle.ts_site.specs.Folder.{moved}
use Rattle.ts_site.specs.Left.{first_half}
use Rattle.ts_site.specs.Outside.{Outside}
use Rattle.ts_site.specs.Recorder.{MemoryState, memory_state as recorded, memory_calls as calls_of, has_room, changed, said, used, refused, disk_fault, say_fault, calls_with, MakesDiskCall, MakesSayCall}
use Rattle.ts_site.specs.Room.{is_stopped}

-- the folder, what was said, the room, the counts, and what a crash leaves
abbrev pub memory_state : MemorySite → MemoryState
memory_state site = recorded site.recorder

-- what a state in memory tells, once its last call failed or not
abbrev pub seen : Bool → MemoryState → Outside
seen failed state = record {
  is_honest = true;
  folder = state.folder;
  disk_faults = state.disk_faults;
  told = state.told;
  say_faults = state.say_faults;
  failed_last = failed;
  crash = state.crash;
  past = state.past;
}

-- whether its last call failed
abbrev pub has_failed : MemorySite → Bool
has_failed site = site.failed_last

-- a site in memory tells all
abbrev pub outside_of : MemorySite → Outside
outside_of site = seen (has_failed site) (memory_state site)

-- the calls that happened, the first of them first
abbrev pub memory_calls : MemorySite → List Call
memory_calls site = calls_of site.recorder

-- the faults that are planned, the first plan first
abbrev pub plans_of : MemorySite → List Plan
plans_of site = site.plans.items

abbrev pub kind_place : CallKind → ℕ
kind_place kind.List = 0
kind_place kind.Size = 1
kind_place kind.ReadAt = 2
kind_place kind.Create = 3
kind_place kind.Append = 4
kind_place kind.Sync = 5
kind_place kind.Rename = 6
kind_place kind.Remove = 7
kind_place kind.SyncNames = 8
kind_place kind.Barrier = 9
kind_place kind.Say = 10

abbrev pub speaks_of : CallKind → Plan → Bool
speaks_of called plan = kind_place plan.kind == kind_place called

-- a plan after a call: the call that it speaks of is one nearer
abbrev pub nearer : CallKind → Plan → Plan
nearer called plan = if speaks_of called plan then record plan { left = plan.left - 1 } else plan

-- whether a plan makes this call fail
abbrev pub is_due : CallKind → Plan → Bool
is_due called plan = speaks_of called plan && (plan.left == 1)

-- the fault that is planned for a call: that of the last plan that is due
abbrev pub planned : CallKind → List Plan → Option FaultKind
planned called plans = option_map (λ plan. plan.how) (find (is_due called) (reverse plans))

-- the fault of a call that reads: after the planned stop each of them fails
abbrev pub due : CallKind → List Plan → Option ℕ → Option FaultKind
due called plans stop = if is_stopped stop then Some Nothing else planned called plans

-- what a call that failed by plan leaves: of what it would change, nothing, all, or what half of its bytes change
abbrev pub left_by : {A : Type 0} → FaultKind → A → A → A → A
left_by Nothing all half none = none
left_by Happened all half none = all
left_by Half all half none = half

-- a call on the disk that fails by plan, uses its room all the same, and leaves this
abbrev pub FailsByPlan : Result (Unit {0}) Failed → ℕ → MemoryState → MemoryState → MemoryState → Type 0
FailsByPlan result bytes left old new =
    (result ≡ Err (record {}))
    × MatchBool (has_room old bytes) (new ≡ disk_fault (used bytes left)) (new ≡ disk_fault (refused old))

-- a call on the disk that uses these bytes, with the state that it comes to and the one that half of its bytes come to
abbrev pub DoesDiskCall : Option FaultKind → Result (Unit {0}) Failed → ℕ → MemoryState → MemoryState → MemoryState → MemoryState → Type 0
DoesDiskCall None result bytes all half old new = MakesDiskCall result bytes all old new
DoesDiskCall (Some how) result bytes all half old new = FailsByPlan result bytes (left_by how all half old) old new

-- the same of a call that says a piece
abbrev pub DoesSayCall : Option FaultKind → Result (Unit {0}) Failed → List ℕ → MemoryState → MemoryState → Type 0
DoesSayCall None result piece old new = MakesSayCall result (length piece) piece old new
DoesSayCall (Some how) result piece old new =
    (result ≡ Err (record {}))
    × MatchBool (has_room old (length piece))
    (new ≡ say_fault (used (length piece) (said (left_by how piece (first_half piece) []) old)))
    (new ≡ say_fault (refused old))

-- the state that a call comes to which changes files or names
abbrev pub after_create : List ℕ → MemoryState → MemoryState
after_create name old = changed (insert old.folder name []) (written name (Some []) old.crash) old

abbrev pub after_rename : List ℕ → List ℕ → MemoryState → MemoryState
after_rename from to old = changed (moved old.folder from to) (renamed from to old.crash) old

abbrev pub after_remove : List ℕ → MemoryState → MemoryState
after_remove name old = changed (remove old.folder name) (removed name old.crash) old

-- the same of a call that settles, which makes this of what a crash leaves
abbrev pub after_settling : CrashState → MemoryState → MemoryState
after_settling crash old = changed old.folder crash old

-- a call that reads: where it fails, it counts one
abbrev pub state_after_reading : Option FaultKind → MemoryState → MemoryState
state_after_reading None old = old
state_after_reading (Some how) old = disk_fault old

-- whether a call happens whole: where a fault is planned for it, only where the fault leaves all
abbrev pub happens_whole : Option FaultKind → Bool
happens_whole None = true
happens_whole (Some how) = left_by how true false false

-- the calls after one that uses no bytes: that call is recorded where it happens
abbrev pub calls_after : Option FaultKind → MemoryState → Call → List Call → List Call
calls_after plan old call calls = calls_with (has_room old 0 && happens_whole plan) call calls

-- whether an append is recorded: where some of its bytes may be kept
abbrev pub is_kept : Option FaultKind → Bool
is_kept None = true
is_kept (Some how) = left_by how true true false
