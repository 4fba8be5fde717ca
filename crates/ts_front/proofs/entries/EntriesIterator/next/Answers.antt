use Rattle.std.proofs.Common.{◌≡◌, ◌+◌, ◌<◌, [], ◌∷◌, length, drop, sym, ◌∙◌, ap, arith, rules}
use Rattle.ts_front.specs.Pieces.{pieces_of, suffix_at}
use Rattle.ts_front.proofs.IterLemmas.{pieces_more, pieces_end}
use Rattle.ts_front.proofs.entries.EntriesIterator.next.Goals as goal

step : (c : goal.After-self-2-1) → c.args.self.now ≡ (c.piece-place.result.0.shared, c.piece-place.result.0.suffix.now) ∷ drop (c.self.inside.index + 1) (pieces_of c.self.inside.view)
step c =
    let v = c.self.inside in
    let inside : v.index < length v.view = omega (arith, c.self.invariant.0, c.len.ensures, c.if-self-len.false) in
    sym c.self.view_is ∙ pieces_more v.view v.index inside
    ∙ ap (λ s. (s, suffix_at v.view v.index) ∷ drop (v.index + 1) (pieces_of v.view)) (sym c.piece-place.ensures.shares)
    ∙ ap (λ t. (c.piece-place.result.0.shared, t) ∷ drop (v.index + 1) (pieces_of v.view)) (sym c.piece-place.ensures.adds)

pub returns-clause-steps : goal.returns-clause-steps
returns-clause-steps c = step c

pub returns-clause-goes : goal.returns-clause-goes
returns-clause-goes c = rw (step c) (search rules)

pub returns-then-self-len-clause-steps : goal.returns-then-self-len-clause-steps
returns-then-self-len-clause-steps c =
    let v = c.self.inside in
    let none : c.args.self.now ≡ [] = sym c.self.view_is ∙ pieces_end v.view v.index (omega (arith, c.len.ensures, c.if-self-len.true)) in
    (none, none)
