use Rattle.std.proofs.Common.{rules}
use Rattle.std.proofs.lemmas.List.Sorted.{answers_always}
use Rattle.ts_purge.specs.declared.rows.LayerRow.{LayerRow}
use Rattle.ts_purge.proofs.Search.{found_number, not_missed}
use Rattle.ts_purge.proofs.removals.place_of.Goals as goal

pub unreachable-requires : goal.unreachable-requires
unreachable-requires c =
    not_missed c.args.layers.now c.args.number c.in-Err.field-0 c.requires.rows.rise c.requires.stands
    (c.in-Err.ensures.position (λ (row : LayerRow). row.number) (answers_always _ _ _ (λ f a r f' k. search rules)))

pub returns-clause-is : goal.returns-clause-is
returns-clause-is c =
    found_number c.args.layers.now c.args.number c.in-Ok.place c.in-Ok.ensures.bound
    (c.in-Ok.ensures.position (λ (row : LayerRow). row.number) (answers_always _ _ _ (λ f a r f' k. search rules)))
