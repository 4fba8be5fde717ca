use Rattle.std.proofs.Common.{◌≡◌, Bool, false, Some, [], sym, ap, ◌∙◌, arith, rules}
use Rattle.ts_adjacency.proofs.RowLemmas.{row_next}
use Rattle.ts_plane.specs.Read.{parts_in}
use Rattle.ts_plane.proofs.RangeLemmas.{between_none, range_next, range_stays}
use Rattle.ts_plane.proofs.range.RangeIterator.next.Goals as goal
use Rattle.ts_plane.proofs.range.RangeIterator.next.Goals.{else-is_last-via-then-is_last+else-self-2, else-is_last-via-else-is_last}

pub returns-then-self-clause-steps : goal.returns-then-self-clause-steps
returns-then-self-clause-steps c =
    let r = c.self.inside in
    let none : c.args.self.now ≡ [] = sym c.self.view_is ∙ between_none (parts_in r.sections) r.place r.end (omega (arith, c.if-self.true)) in
    (none, none)

pub invariant_of-self-else-is_last : goal.invariant_of-self-else-is_last
invariant_of-self-else-is_last c =
    let r = c.self.inside in
    let next = row_next r.sections.triples.ends r.place false (c.is_last-is_last.ensures ∙ ap (λ (b : Bool). Some b) c.if-is_last.false) in
    range_stays (parts_in r.sections) r.place r.end r.s r.p c.self.invariant (omega (arith, c.if-self.false, c.self.invariant.ordered)) (λ more. omega (arith, next))

pub returns-then-self-2-clause-steps : goal.returns-then-self-2-clause-steps
returns-then-self-2-clause-steps c =
    let r = c.self.inside in
    sym c.self.view_is ∙ range_next (parts_in r.sections) r.place r.end r.s r.p c.right.result c.self.invariant (omega (arith, c.if-self.false, c.self.invariant.ordered)) c.right.ensures

pub returns-then-self-2-clause-goes : goal.returns-then-self-2-clause-goes
returns-then-self-2-clause-goes c =
    let r = c.self.inside in
    let step = sym c.self.view_is ∙ range_next (parts_in r.sections) r.place r.end r.s r.p c.right.result c.self.invariant (omega (arith, c.if-self.false, c.self.invariant.ordered)) c.right.ensures in
    rw step (search rules)

pub returns-else-is_last-clause-steps : goal.returns-else-is_last-clause-steps
returns-else-is_last-clause-steps c =
    let r = c.self.inside in
    let step = sym c.self.view_is ∙ range_next (parts_in r.sections) r.place r.end r.s r.p c.right.result c.self.invariant (omega (arith, c.if-self.false, c.self.invariant.ordered)) c.right.ensures in
    elim c.else-is_last.branch [
      | else-is_last-via-then-is_last+else-self-2 w ↦ rw w.self-is step
      | else-is_last-via-else-is_last w ↦ rw w.self-is step
    ]

pub returns-else-is_last-clause-goes : goal.returns-else-is_last-clause-goes
returns-else-is_last-clause-goes c =
    let r = c.self.inside in
    let step = sym c.self.view_is ∙ range_next (parts_in r.sections) r.place r.end r.s r.p c.right.result c.self.invariant (omega (arith, c.if-self.false, c.self.invariant.ordered)) c.right.ensures in
    elim c.else-is_last.branch [
      | else-is_last-via-then-is_last+else-self-2 w ↦ rw (w.self-is, step) (search rules)
      | else-is_last-via-else-is_last w ↦ rw (w.self-is, step) (search rules)
    ]
