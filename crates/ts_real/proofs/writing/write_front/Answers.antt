use Rattle.std.proofs.Common.{◌≡◌, ◌+◌, ◌-◌, ◌≤◌, ℕ, List, ◌++◌, length, take, drop, sym, ap, ◌∙◌, subst, arith, take-append-drop}
use Rattle.std.proofs.Math.Seq.{take-append-add}
use Rattle.std.proofs.lemmas.List.{take_rest, length-take-le}
use Rattle.std.specs.Io.KnownBytes.{Appends}
use Rattle.std.proofs.KnownBytes.{Appends-trans}
use Rattle.ts_real.proofs.writing.write_front.Goals as goal

-- a longer front is a front and a front of the rest
longer_front : (t n : ℕ) (xs : List ℕ) → t ≤ length xs → take t xs ++ take n (drop t xs) ≡ take (t + n) xs
longer_front t n xs within =
    sym (take-append-add (take t xs) (drop t xs) n) ∙ ap (λ (k : ℕ). take (k + n) (take t xs ++ drop t xs)) (length-take-le t xs within)
    ∙ ap (λ (l : List ℕ). take (t + n) l) (take-append-drop t xs)

pub loop-taken-preserved : goal.loop-taken-preserved
loop-taken-preserved g c =
    let t = c.loop-taken.taken in
    let n = c.in-Ok.count in
    let xs = c.args.bytes.now in
    let rest = subst (λ (l : List ℕ). Appends (g.W.Write.contents c.loop-taken.out) (g.W.Write.contents c.write_some.new.out) (take n l)) (take_rest xs t) c.in-Ok.ensures.bytes in
    let fits : n ≤ length (take (length xs - t) (drop t xs)) = c.in-Ok.ensures.within in
    record {
      within = omega (arith, fits);
      written = subst (Appends (g.W.Write.contents c.args.out.now) (g.W.Write.contents c.write_some.new.out)) (longer_front t n xs c.loop-taken.invariant.within)
          (Appends-trans _ _ _ _ _ c.loop-taken.invariant.written rest);
    }
