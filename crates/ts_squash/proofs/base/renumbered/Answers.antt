use Rattle.std.proofs.Common.{◌≡◌, ℕ, ◌+◌, ◌<◌, List, ◌++◌, length, map, set, take, drop, get_or, ap, ◌∙◌, arith}
use Rattle.ts_plane.specs.declared.triple.IdTriple.{IdTriple}
use Rattle.ts_squash.specs.NewNumbers.{new_triple}
use Rattle.ts_squash.proofs.Moved.{map_front, next_one}
use Rattle.ts_squash.proofs.base.renumbered.Goals as goal

pub loop-i-preserved : goal.loop-i-preserved
loop-i-preserved c = λ order others one other.
    let i : ℕ = c.loop-i.i in
    let xs : List IdTriple = c.args.triples.items in
    let f : IdTriple → IdTriple = new_triple order others in
    let here : IdTriple = c.index-t.result.now in
    let so_far : c.loop-i.triples.items ≡ map f (take i xs) ++ drop i xs = c.loop-i.invariant order others one other in
    let below : i < length xs = omega arith in
    let is : here ≡ get_or xs i here = c.index-t.ensures ∙ ap (λ l. get_or l i here) so_far ∙ next_one f xs i here below in
    let made : record { s = c.new_of.result; p = c.new_of-in-loop-i.result; o = c.new_of-in-loop-i-2.result } ≡ f (get_or xs i here) =
    (λ j. record { s = c.new_of.ensures order one j; p = c.new_of-in-loop-i.ensures others other j; o = c.new_of-in-loop-i-2.ensures order one j }) ∙ ap f is in
    (λ j. set (so_far j) i (made j)) ∙ map_front f xs i (i + 1) here (omega arith) below
