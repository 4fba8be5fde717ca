use Rattle.ts_purge.proofs.FourRows.{are_rows, named, third_stands}
use Rattle.ts_purge.proofs.tests.ancestors_stay.Goals as goal

pub plan-requires-clause-rows : goal.plan-requires-clause-rows
plan-requires-clause-rows g c = are_rows

pub plan-requires-clause-named : goal.plan-requires-clause-named
plan-requires-clause-named g c = named 3 third_stands
