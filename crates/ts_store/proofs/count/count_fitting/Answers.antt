use Rattle.std.proofs.Common.{◌+◌, ℕ, ap, sym, ◌∙◌, arith}
use Rattle.ts_model.specs.Fits.{fits}
use Rattle.ts_nt.specs.TripleLine.{triple_line}
use Rattle.ts_store.proofs.PrefixLaws.{count_below, count_more, count_same, triples_lent, lent_below, lent_is}
use Rattle.ts_store.proofs.count.count_fitting.Goals as goal
use Rattle.ts_store.proofs.count.count_fitting.Goals.{then-fits, else-fits}

pub overflow_add-count : goal.overflow_add-count
overflow_add-count c =
    omega (
      arith,
      c.loop-triple.invariant,
      count_below (fits c.args.pattern.now) triple_line (triples_lent c.args.triples.now) c.loop-triple.triple-index
          (lent_below c.args.triples.now c.loop-triple.triple-index c.loop-triple-test.true),
    )

pub loop-triple-preserved : goal.loop-triple-preserved
loop-triple-preserved c =
    let p = fits c.args.pattern.now in
    let xs = triples_lent c.args.triples.now in
    let i = c.loop-triple.triple-index in
    let x = c.triple-item.result.now in
    let below = lent_below c.args.triples.now i c.loop-triple-test.true in
    let is = lent_is c.args.triples.now i c.triple-item.result c.loop-triple-test.true c.triple-item.is in
    elim c.if-fits.branch [
      | then-fits w ↦ w.count-is ∙ ap (λ (n : ℕ). n + 1) c.loop-triple.invariant ∙ sym (count_more p triple_line xs i x below is (sym c.fits.ensures ∙ w.if-fits.true))
      | else-fits w ↦ w.count-is ∙ c.loop-triple.invariant ∙ sym (count_same p triple_line xs i x below is (sym c.fits.ensures ∙ w.if-fits.false))
    ]
