use Rattle.std.proofs.Common.{sym, ◌∙◌, arith, rules}
use Rattle.ts_plane.specs.Read.{parts_in}
use Rattle.ts_plane.proofs.PredicateWalks.{places_first, next_pair, no_pair, same_pair_next}
use Rattle.ts_plane.proofs.by_predicate.ByPredicateIterator.next.Goals as goal

pub returns-then-self-clause-steps : goal.returns-then-self-clause-steps
returns-then-self-clause-steps c =
    let w = c.self.inside in
    sym c.self.view_is ∙ same_pair_next (parts_in w.sections) w.places w.p w.place w.end w.s c.right-o.result c.self.invariant c.if-self.true c.right-o.ensures

pub returns-then-self-clause-goes : goal.returns-then-self-clause-goes
returns-then-self-clause-goes c =
    let w = c.self.inside in
    let step = sym c.self.view_is ∙ same_pair_next (parts_in w.sections) w.places w.p w.place w.end w.s c.right-o.result c.self.invariant c.if-self.true c.right-o.ensures in
    rw step (search rules)

pub returns-in_err-pair-clause-steps : goal.returns-in_err-pair-clause-steps
returns-in_err-pair-clause-steps c =
    let w = c.self.inside in
    let none = no_pair (parts_in w.sections) w.places w.p w.place w.end w.s c.self.invariant c.if-self.false c.in_err-pair.ensures.steps.0 in
    rw c.from_residual.ensures (sym c.self.view_is ∙ none, none)

pub row-first-requires : goal.row-first-requires
row-first-requires c =
    let w = c.self.inside in
    let head = places_first w.sections.predicates w.p c.self.invariant.pair c.in_ok-pair.pair c.next.new.self c.self.invariant.pairs (sym c.self.invariant.later ∙ c.in_ok-pair.ensures.steps) in
    omega (arith, head.within, c.self.invariant.kept.predicates_counted, c.self.invariant.kept.pair_rows)

pub subject-self-inside-requires-clause-within : goal.subject-self-inside-requires-clause-within
subject-self-inside-requires-clause-within c =
    let w = c.self.inside in
    let head = places_first w.sections.predicates w.p c.self.invariant.pair c.in_ok-pair.pair c.next.new.self c.self.invariant.pairs (sym c.self.invariant.later ∙ c.in_ok-pair.ensures.steps) in
    omega (arith, head.within, c.self.invariant.kept.predicates_counted)

pub invariant_of-self-2 : goal.invariant_of-self-2
invariant_of-self-2 c =
    let w = c.self.inside in
    (next_pair (parts_in w.sections) w.places c.next.new.self w.p w.place w.end w.s c.in_ok-pair.pair c.row-first.result.0 c.row-first.result.1 c.subject-self-inside.result
    c.self.invariant c.if-self.false c.in_ok-pair.ensures.steps c.row-first.ensures c.subject-self-inside.ensures).stands

pub returns-clause-steps : goal.returns-clause-steps
returns-clause-steps c =
    let w = c.self.inside in
    let step = (next_pair (parts_in w.sections) w.places c.next.new.self w.p w.place w.end w.s c.in_ok-pair.pair c.row-first.result.0 c.row-first.result.1 c.subject-self-inside.result
    c.self.invariant c.if-self.false c.in_ok-pair.ensures.steps c.row-first.ensures c.subject-self-inside.ensures).step in
    rw c.right-o-2.ensures (sym c.self.view_is ∙ step)

pub returns-clause-goes : goal.returns-clause-goes
returns-clause-goes c =
    let w = c.self.inside in
    let step = sym c.self.view_is ∙ (next_pair (parts_in w.sections) w.places c.next.new.self w.p w.place w.end w.s c.in_ok-pair.pair c.row-first.result.0 c.row-first.result.1 c.subject-self-inside.result
    c.self.invariant c.if-self.false c.in_ok-pair.ensures.steps c.row-first.ensures c.subject-self-inside.ensures).step in
    rw step (search rules)
