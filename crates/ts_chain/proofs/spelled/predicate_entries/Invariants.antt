use Rattle.std.proofs.Common.{◌≡◌, take}
use Rattle.ts_model.specs.declared.term.TermKind.TheVariants.{Predicate}
use Rattle.ts_chain.specs.Entries.{AreEntries, ids_of}
use Rattle.ts_chain.specs.Views.{NamesPredicate}
use Rattle.ts_chain.proofs.spelled.predicate_entries.Given as goal

abbrev pub invariant-loop-id : goal.invariant-loop-id
invariant-loop-id l = AreEntries (NamesPredicate l.chain) Predicate l.entries.items × (ids_of l.entries.items ≡ take l.id-index l.ids)
