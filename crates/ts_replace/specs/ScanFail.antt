-- Why a folder or a file could not be read.
use Rattle.std.specs.Prelude.{Bool, true, false}
use Rattle.ts_site.specs.declared.disk.ListFail.{ListFail}
use Rattle.ts_site.specs.declared.disk.ListFail.TheVariants as list_fail
use Rattle.ts_replace.specs.declared.scan_fail.ScanFail.{ScanFail}
use Rattle.ts_replace.specs.declared.scan_fail.ScanFail.TheVariants.{Failed, Memory}

-- want of memory is no fault
abbrev pub is_scan_fault : ScanFail → Bool
is_scan_fault Failed = true
is_scan_fault Memory = false

-- a listing fails for the same reasons
abbrev pub scan_fail_of : ListFail → ScanFail
scan_fail_of list_fail.Failed = Failed
scan_fail_of list_fail.Memory = Memory
