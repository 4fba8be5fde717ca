-- What a source in memory tells.
use Rattle.std.specs.Prelude.{◌≡◌, ℕ, ◌-◌, ◌==◌, min, Bool, true, List, drop, length, Result, Err, IsOkAnd, MatchBool}
use Rattle.ts_site.specs.declared.disk.Failed.{Failed}
use Rattle.ts_site.specs.declared.memory_source.MemorySource.{MemorySource}
use Rattle.ts_site.specs.Recorder.{one_more}
use Rattle.ts_site.specs.Source.{Takes}

-- The bytes still to come, how many a take gives at most, the count of faults, and which of the next takes fails: 1 is the
-- next one, and 0 none.
pub record SourceState : Type 0 where
  pub left : List ℕ
  pub most : ℕ
  pub faults : ℕ
  pub failing : ℕ

abbrev pub source_state : MemorySource → SourceState
source_state source = record {
  left = drop source.place source.bytes.items;
  most = source.most;
  faults = source.faults;
  failing = source.failing;
}

-- a source in memory tells what is left
abbrev pub tells_left : MemorySource → Bool
tells_left source = true

-- whether its last take failed
abbrev pub has_failed : MemorySource → Bool
has_failed source = source.failed_last

-- a take that fails by plan: it takes nothing, the buffer stays as it was, and the plan is used up
abbrev pub FailsByPlan : Result ℕ Failed → SourceState → SourceState → List ℕ → List ℕ → Type 0
FailsByPlan result old new before after = (result ≡ Err (record {})) × (new ≡ record old { faults = one_more old.faults; failing = 0 }) × (after ≡ before)

-- as many bytes as are left, fit and are let through move to the front of the buffer
abbrev pub GivesBytes : Result ℕ Failed → SourceState → SourceState → List ℕ → List ℕ → Type 0
GivesBytes result old new before after =
    IsOkAnd result (λ n. (n ≡ min (min (length before) old.most) (length old.left)) × Takes n old.left new.left after)
    × (new ≡ record old { left = new.left; failing = old.failing - 1 })

-- what a take answers and leaves
abbrev pub TakesByPlan : Result ℕ Failed → SourceState → SourceState → List ℕ → List ℕ → Type 0
TakesByPlan result old new before after = MatchBool (old.failing == 1) (FailsByPlan result old new before after) (GivesBytes result old new before after)
