use Rattle.std.proofs.Common.{sym}
use Rattle.ts_store.proofs.CursorLaws.{get_entry, get_none}
use Rattle.ts_store.proofs.cursors.CursorTable.get.Goals as goal

pub returns-in-Some : goal.returns-in-Some
returns-in-Some c =
    get_entry c.self.inside.cursors.items c.as_slice.result.now c.args.name.now c.args.self.now c.self.invariant c.self.view_is c.as_slice.ensures.value c.in-Some.place
    c.in-Some.ensures c.index.result.now c.index.ensures

pub returns-in-None : goal.returns-in-None
returns-in-None c =
    sym (get_none c.self.inside.cursors.items c.as_slice.result.now c.args.name.now c.args.self.now c.self.invariant c.self.view_is c.as_slice.ensures.value c.in-None.ensures)
