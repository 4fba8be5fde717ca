use Rattle.std.proofs.Common.{◌≡◌, ◌++◌}
use Rattle.ts_chain.specs.Entries.{ids_of, terms_of_entries}
use Rattle.ts_chain.proofs.spelled.put_in_order.Given as goal

abbrev pub invariant-loop-entry : goal.invariant-loop-entry
invariant-loop-entry l = (l.terms.items ≡ terms_of_entries l.yielded) × (l.ids.items ≡ l.initial.ids.items ++ ids_of l.yielded)
