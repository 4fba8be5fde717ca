use Rattle.std.specs.Prelude.{is_ok}
use Rattle.ts_store.proofs.CursorLaws.{opened_apart, opened_is}
use Rattle.ts_store.proofs.cursors.CursorTable.open.Goals as goal
use Rattle.ts_store.proofs.cursors.CursorTable.open.Goals.{in-Err, in-Ok}

pub invariant_of-self : goal.invariant_of-self
invariant_of-self c =
    let made = rw c.new.ensures at c.push.ensures.items in
    opened_apart c.self.inside.cursors.items c.push.new.self.items c.args.name c.args.triples.items c.args.self.now c.self.invariant c.self.view_is c.requires (is_ok c.push.result) made

pub returns-clause-opened : goal.returns-clause-opened
returns-clause-opened c =
    let made = rw c.new.ensures at c.push.ensures.items in
    elim c.match-push.branch [
      | in-Err w ↦ rw w.result-is tt
      | in-Ok w ↦
          rw w.result-is
          (opened_is c.self.inside.cursors.items c.push.new.self.items c.args.name c.args.triples.items c.args.self.now c.self.invariant c.self.view_is c.requires (rw w.in-Ok.is at made))
    ]
