use Rattle.std.proofs.Common.{◌≡◌, ◌+◌, ◌<◌, ◌∷◌, length, drop, get_or, arith, ◌∙◌, ap, suc}
use Rattle.std.proofs.lemmas.List.{drop_more, length-drop}
use Rattle.ts_front.specs.Shared.{shared_length}
use Rattle.ts_front.proofs.SharedLemmas.{shared_same, shared_apart, shared_le, shared_le_right}
use Rattle.ts_front.proofs.compare.shared_length.Goals as goal

pub loop-i-preserved : goal.loop-i-preserved
loop-i-preserved c =
    let i = c.loop-i.i in
    let a = c.args.a.now in
    let b = c.args.b.now in
    let same : get_or b i 0 ≡ get_or a i 0 = omega (arith, c.if-a-i.false) in
    let here : i < length a = omega arith in
    let there : i < length b = omega arith in
    let more : shared_length (drop i a) (drop i b) ≡ suc (shared_length (drop (i + 1) a) (drop (i + 1) b)) =
    ap (λ t. shared_length t (drop i b)) (drop_more a i 0 here)
    ∙ ap (shared_length (get_or a i 0 ∷ drop (i + 1) a)) (drop_more b i 0 there ∙ ap (λ x. x ∷ drop (i + 1) b) same)
    ∙ shared_same (get_or a i 0) (drop (i + 1) a) (drop (i + 1) b) in
    omega (arith, more, c.loop-i.invariant)

pub returns-then-a-i : goal.returns-then-a-i
returns-then-a-i c =
    let i = c.loop-i.i in
    let a = c.args.a.now in
    let b = c.args.b.now in
    let here : i < length a = omega arith in
    let there : i < length b = omega arith in
    let none : shared_length (drop i a) (drop i b) ≡ 0 =
    ap (λ t. shared_length t (drop i b)) (drop_more a i 0 here)
    ∙ ap (shared_length (get_or a i 0 ∷ drop (i + 1) a)) (drop_more b i 0 there)
    ∙ shared_apart (get_or a i 0) (get_or b i 0) (drop (i + 1) a) (drop (i + 1) b) c.if-a-i.true in
    omega (arith, none, c.loop-i.invariant)

pub returns : goal.returns
returns c =
    let i = c.loop-i.i in
    let a = c.args.a.now in
    let b = c.args.b.now in
    omega (arith, c.loop-i.invariant, shared_le (drop i a) (drop i b), shared_le_right (drop i a) (drop i b), length-drop i a, length-drop i b)
