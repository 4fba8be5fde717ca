-- Why a session stops.
use Rattle.std.specs.Prelude.{Bool, true, false, Option, None, Some, Result, Ok, Err}
use Rattle.ts_store.specs.declared.stop.Stop.{Stop}
use Rattle.ts_store.specs.declared.stop.Stop.TheVariants.{Damaged, DiskFault, OutputFault, Memory}
use Rattle.ts_store.specs.declared.stop.Kind.{Kind}
use Rattle.ts_store.specs.declared.stop.Kind.TheVariants.{Done, Refused}

-- how a step is answered
abbrev pub kind_of : Bool → Kind
kind_of true = Refused
kind_of false = Done

abbrev pub is_disk_fault : Stop → Bool
is_disk_fault DiskFault = true
is_disk_fault _ = false

abbrev pub is_output_fault : Stop → Bool
is_output_fault OutputFault = true
is_output_fault _ = false

-- a fault of the site, on which the last call failed
abbrev pub is_site_fault : Stop → Bool
is_site_fault DiskFault = true
is_site_fault OutputFault = true
is_site_fault _ = false

-- the stops of opening
abbrev pub IsOpeningStop : Stop → Type 0
IsOpeningStop (Damaged name) = Unit {0}
IsOpeningStop DiskFault = Unit {0}
IsOpeningStop Memory = Unit {0}
IsOpeningStop _ = ⊥

-- the stops of a step: no file is read in it yet, so none is found damaged
abbrev pub IsStepStop : Stop → Type 0
IsStepStop DiskFault = Unit {0}
IsStepStop OutputFault = Unit {0}
IsStepStop Memory = Unit {0}
IsStepStop _ = ⊥

-- the session is spent by a stop, and by nothing else
abbrev pub spent_after : Result Kind Stop → Option Stop
spent_after (Ok kind) = None
spent_after (Err stop) = Some stop
