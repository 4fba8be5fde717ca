use Rattle.ts_store.proofs.CursorLaws.{given_apart, given_is, not_none}
use Rattle.ts_store.proofs.cursors.CursorTable.give.Goals as goal

pub invariant_of-self : goal.invariant_of-self
invariant_of-self c =
    given_apart c.self.inside.cursors.items c.as_slice.result.now c.args.name.now c.args.self.now c.self.invariant c.self.view_is c.as_slice.ensures.value c.in-Some.place
    c.in-Some.ensures c.index_mut.result.now c.index_mut.ensures.value c.give.new.self c.args.n c.give.ensures

pub returns-in-Some : goal.returns-in-Some
returns-in-Some c =
    given_is c.self.inside.cursors.items c.as_slice.result.now c.args.name.now c.args.self.now c.self.invariant c.self.view_is c.as_slice.ensures.value c.in-Some.place
    c.in-Some.ensures c.index_mut.result.now c.index_mut.ensures.value c.give.new.self c.args.n c.give.ensures

pub returns-in_default : goal.returns-in_default
returns-in_default c =
    absurd (not_none c.self.inside.cursors.items c.as_slice.result.now c.args.name.now c.args.self.now c.self.invariant c.self.view_is c.as_slice.ensures.value c.in_default.ensures c.requires)
