use Rattle.std.proofs.Common.{ℕ, ◌+◌, ◌∷◌, sym, ap, ◌∙◌, arith, rules}
use Rattle.ts_plane.specs.Read.{parts_in}
use Rattle.ts_plane.specs.Cursors.{IsNextWith, with_object}
use Rattle.ts_plane.proofs.ObjectLemmas.{object_pair_within}
use Rattle.ts_plane.proofs.ObjectWalks.{object_none, object_end, object_next}
use Rattle.ts_plane.proofs.by_object.ByObjectIterator.next.Goals as goal

pub pair-s-requires-clause-within : goal.pair-s-requires-clause-within
pair-s-requires-clause-within c =
    let w = c.self.inside in
    let is : IsNextWith (parts_in w.sections) w.p w.place w.end c.in-Some.place c.in-Some.pair = c.in-Some.ensures.some in
    let within = object_pair_within (parts_in w.sections) c.in-Some.place c.self.invariant.kept (omega (arith, is.high, c.self.invariant.within)) in
    omega (arith, within, is.there)

pub returns-in-Some-clause-steps : goal.returns-in-Some-clause-steps
returns-in-Some-clause-steps c =
    let w = c.self.inside in
    let is : IsNextWith (parts_in w.sections) w.p w.place w.end c.in-Some.place c.in-Some.pair = c.in-Some.ensures.some in
    sym c.self.view_is ∙ object_next (parts_in w.sections) w.o w.p w.place w.end c.in-Some.place c.in-Some.pair is
    ∙ ap (λ (pair : ℕ × ℕ). record { s = pair.0; p = pair.1; o = w.o } ∷ with_object (parts_in w.sections) w.o w.p (c.in-Some.place + 1) w.end) (sym c.pair-s.ensures)

pub returns-in-Some-clause-goes : goal.returns-in-Some-clause-goes
returns-in-Some-clause-goes c =
    let w = c.self.inside in
    let is : IsNextWith (parts_in w.sections) w.p w.place w.end c.in-Some.place c.in-Some.pair = c.in-Some.ensures.some in
    let step = sym c.self.view_is ∙ object_next (parts_in w.sections) w.o w.p w.place w.end c.in-Some.place c.in-Some.pair is in
    rw step (search rules)

pub returns-in-None-clause-steps : goal.returns-in-None-clause-steps
returns-in-None-clause-steps c =
    let w = c.self.inside in
    (sym c.self.view_is ∙ object_none (parts_in w.sections) w.o w.p w.place w.end c.self.invariant.ordered c.in-None.ensures.none, object_end (parts_in w.sections) w.o w.p w.end)
