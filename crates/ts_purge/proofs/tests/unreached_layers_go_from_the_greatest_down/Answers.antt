use Rattle.ts_purge.proofs.FourRows.{are_rows, first_stands, named}
use Rattle.ts_purge.proofs.tests.unreached_layers_go_from_the_greatest_down.Goals as goal

pub plan-requires-clause-rows : goal.plan-requires-clause-rows
plan-requires-clause-rows g c = are_rows

pub plan-requires-clause-named : goal.plan-requires-clause-named
plan-requires-clause-named g c = named 1 first_stands
