use Rattle.std.proofs.Common.{◌∷◌, ◌++◌, [], true, false, filter, take, sym, ◌∙◌, append-nil}
use Rattle.ts_model.specs.Fits.{fits}
use Rattle.ts_nt.specs.TripleLine.{triple_line}
use Rattle.ts_store.proofs.PrefixLaws.{filtered, triples_lent, lent_below, lent_is}
use Rattle.ts_store.proofs.open_cursor.copies_that_fit.Goals as goal
use Rattle.ts_store.proofs.open_cursor.copies_that_fit.Goals.{then-fits+in_ok-copy+in_ok-push, else-fits}

pub loop-triple-preserved : goal.loop-triple-preserved
loop-triple-preserved c =
    let p = fits c.args.pattern.now in
    let xs = triples_lent c.args.triples.now in
    let i = c.loop-triple.triple-index in
    let x = c.triple-item.result.now in
    let below = lent_below c.args.triples.now i c.loop-triple-test.true in
    let is = lent_is c.args.triples.now i c.triple-item.result c.loop-triple-test.true c.triple-item.is in
    elim c.if-fits.branch [
      | then-fits+in_ok-copy+in_ok-push w ↦
          let kept = filtered p triple_line xs i x below is true (sym c.fits.ensures ∙ w.if-fits.true) in
          rw w.copies-is (w.in_ok-push.ensures.items ∙ (λ j. c.loop-triple.invariant j ++ w.in_ok-copy.ensures.same j ∷ []) ∙ sym kept)
      | else-fits w ↦ rw w.copies-is (c.loop-triple.invariant ∙ sym (filtered p triple_line xs i x below is false (sym c.fits.ensures ∙ w.if-fits.false) ∙ append-nil (filter p (take i xs))))
    ]
