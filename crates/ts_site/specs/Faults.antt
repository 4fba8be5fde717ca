-- Counts of faults. Each is a number of 64 bits, which stands once it has come to its last value.
use Rattle.std.specs.Prelude.{◌≡◌, ℕ, ◌+◌, ◌-◌, ◌^◌, ◌<◌, ◌≤◌, min, Bool, true, false, MatchBool, Result, Ok, Err}
use Rattle.ts_site.specs.declared.disk.ListFail.{ListFail}
use Rattle.ts_site.specs.declared.disk.ListFail.TheVariants as list_fail

-- the count rose in the call, or stands at its last value
abbrev pub Rose : ℕ → ℕ → Type 0
Rose old new = (old ≤ new) × (min (old + 1) (2 ^ 64 - 1) ≤ new)

-- no count rises: it is not greater, and doesn't stand at its last value
abbrev pub IsCalm : ℕ → ℕ → Type 0
IsCalm old new = (new ≡ old) × (new < 2 ^ 64 - 1)

-- a fault is answered exactly where the count rose; `is_fault` is whether it was answered
abbrev pub CountsFault : Bool → ℕ → ℕ → Type 0
CountsFault is_fault old new = MatchBool is_fault (Rose old new) (new ≡ old)

-- of the two failures of a listing, want of memory is no fault
abbrev pub is_list_fault : ListFail → Bool
is_list_fault list_fail.Failed = true
is_list_fault list_fail.Memory = false

-- whether the answer is an error that passes the test
abbrev pub is_err_and : {T E : Type 0} → (E → Bool) → Result T E → Bool
is_err_and test (Ok value) = false
is_err_and test (Err error) = test error
