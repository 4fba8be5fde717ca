-- Which stops are a fault of the source.
use Rattle.std.specs.Prelude.{Bool, true, false}
use Rattle.ts_script.specs.declared.cutter.InputStop.{InputStop}
use Rattle.ts_script.specs.declared.cutter.InputStop.TheVariants as input_stop
use Rattle.ts_script.specs.declared.stop.ScriptStop.{ScriptStop}
use Rattle.ts_script.specs.declared.stop.ScriptStop.TheVariants as script_stop

abbrev pub is_input_fault : InputStop → Bool
is_input_fault input_stop.Fault = true
is_input_fault input_stop.Limit = false

abbrev pub is_script_fault : ScriptStop → Bool
is_script_fault script_stop.Fault = true
is_script_fault script_stop.Limit = false
is_script_fault script_stop.Memory = false

-- a script stops where its input does
abbrev pub script_stop_of : InputStop → ScriptStop
script_stop_of input_stop.Fault = script_stop.Fault
script_stop_of input_stop.Limit = script_stop.Limit
