use Rattle.std.proofs.Common.{length, ap, sym, ◌∙◌}
use Rattle.std.specs.FinMap.{len}
use Rattle.ts_store.specs.Cursors.{Cursors}
use Rattle.ts_store.proofs.CursorLaws.{len_is}
use Rattle.ts_store.proofs.cursors.CursorTable.len.Goals as goal

pub returns : goal.returns
returns c = ap length c.as_slice.ensures.value ∙ sym (len_is c.self.inside.cursors.items c.self.invariant) ∙ ap (λ (m : Cursors). len m) c.self.view_is
