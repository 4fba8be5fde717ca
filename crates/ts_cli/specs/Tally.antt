-- What a tally counts.
use Rattle.std.specs.Prelude.{Bool, true, false}
use Rattle.ts_store.specs.declared.stop.Kind.{Kind}
use Rattle.ts_store.specs.declared.stop.Kind.TheVariants.{Done, Refused}

abbrev pub is_refused : Kind → Bool
is_refused Done = false
is_refused Refused = true
