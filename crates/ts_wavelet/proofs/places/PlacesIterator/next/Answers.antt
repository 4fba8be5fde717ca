use Rattle.std.proofs.Common.{◌≡◌, [], sym, ap, ◌∙◌, arith, rules}
use Rattle.ts_wavelet.specs.Nodes.{tops_in}
use Rattle.ts_wavelet.specs.Sequence.{occurrences}
use Rattle.ts_wavelet.proofs.Trees.{length-tops}
use Rattle.ts_wavelet.proofs.Walks.{next_is, places_next, places_end}
use Rattle.ts_wavelet.proofs.places.PlacesIterator.next.Goals as goal

pub returns-then-self-clause-steps : goal.returns-then-self-clause-steps
returns-then-self-clause-steps c =
    let w = c.self.inside in
    let xs = tops_in w.levels.len w.levels.bits w.levels.width in
    let long = length-tops w.levels.len w.levels.bits w.levels.width in
    let few = c.self.invariant.count in
    let none : c.args.self.now ≡ [] = sym c.self.view_is ∙ places_end (tops_in w.levels.len w.levels.bits w.levels.width) w.p w.n w.from (omega (arith, c.self.invariant.within, long)) c.self.invariant.passed
    (omega (arith, few, ap (occurrences (tops_in w.levels.len w.levels.bits w.levels.width) w.p) long)) in
    (none, none)

pub overflow_add-self : goal.overflow_add-self
overflow_add-self c =
    let w = c.self.inside in
    let next = next_is (tops_in w.levels.len w.levels.bits w.levels.width) w.p w.n c.climb-place.result c.climb-place.ensures.place in
    omega (arith, next.within, length-tops w.levels.len w.levels.bits w.levels.width, w.levels.len_fits)

pub overflow_add-self-2 : goal.overflow_add-self-2
overflow_add-self-2 c =
    let w = c.self.inside in
    let next = next_is (tops_in w.levels.len w.levels.bits w.levels.width) w.p w.n c.climb-place.result c.climb-place.ensures.place in
    omega (arith, next.within, next.more, next.most, length-tops w.levels.len w.levels.bits w.levels.width, w.levels.len_fits)

pub invariant_of-self : goal.invariant_of-self
invariant_of-self c =
    let w = c.self.inside in
    let next = next_is (tops_in w.levels.len w.levels.bits w.levels.width) w.p w.n c.climb-place.result c.climb-place.ensures.place in
    record {
      within = omega (arith, next.within, length-tops w.levels.len w.levels.bits w.levels.width);
      passed = sym next.more;
      count = c.self.invariant.count;
      path = λ some. rw (c.climb-place.ensures.starts, c.climb-place.ensures.ones) (c.self.invariant.path some);
    }

pub returns-clause-steps : goal.returns-clause-steps
returns-clause-steps c =
    let w = c.self.inside in
    sym c.self.view_is ∙ places_next (tops_in w.levels.len w.levels.bits w.levels.width) w.p w.n w.from c.climb-place.result c.climb-place.ensures.place
    (omega (arith, c.self.invariant.within, length-tops w.levels.len w.levels.bits w.levels.width)) c.self.invariant.passed

pub returns-clause-goes : goal.returns-clause-goes
returns-clause-goes c =
    let w = c.self.inside in
    let step = sym c.self.view_is ∙ places_next (tops_in w.levels.len w.levels.bits w.levels.width) w.p w.n w.from c.climb-place.result c.climb-place.ensures.place
    (omega (arith, c.self.invariant.within, length-tops w.levels.len w.levels.bits w.levels.width)) c.self.invariant.passed in
    rw step (search rules)
