use Rattle.std.proofs.Common.{◌+◌, ◌∙◌, false, ap, sym, arith, ℕ}
use Rattle.ts_model.specs.Fits.{fits}
use Rattle.ts_nt.specs.TripleLine.{triple_line}
use Rattle.ts_site.proofs.GoesLemmas.{says_more}
use Rattle.ts_store.proofs.PrefixLaws.{count_below, count_more, count_same, lines_more, lines_ended, text_same, triples_lent, lent_below, lent_is}
use Rattle.ts_store.specs.Stops.{is_output_fault}
use Rattle.ts_store.proofs.listing.lines.Goals as goal
use Rattle.ts_store.proofs.listing.lines.Goals.{then-fits+in-Ok, else-fits}

pub overflow_add-count : goal.overflow_add-count
overflow_add-count g c =
    omega (arith, count_below (fits c.args.pattern.now) triple_line (triples_lent c.args.triples.now) c.loop-triple.triple-index (lent_below c.args.triples.now c.loop-triple.triple-index c.loop-triple-test.true))

pub returns-in-Err-clause-told : goal.returns-in-Err-clause-told
returns-in-Err-clause-told g c =
    let before = c.loop-triple.invariant in
    let xs = triples_lent c.args.triples.now in
    let i = c.loop-triple.triple-index in
    let below = c.loop-triple-test.true in
    let said = c.in-Err.ensures.told in
    lines_ended (fits c.args.pattern.now) triple_line xs i c.triple-item.result.now (lent_below c.args.triples.now i below) (lent_is c.args.triples.now i c.triple-item.result below c.triple-item.is) (sym c.fits.ensures ∙ c.if-fits.true)
    (g.W.Disk.outside c.args.site.now).told (g.W.Disk.outside c.loop-triple.site).told (g.W.Disk.outside c.line.new.site).told c.loop-triple.piece.items said.0 before.told c.in-Err.stop said.1

pub loop-triple-preserved : goal.loop-triple-preserved
loop-triple-preserved g c =
    let p = fits c.args.pattern.now in
    let xs = triples_lent c.args.triples.now in
    let i = c.loop-triple.triple-index in
    let x = c.triple-item.result.now in
    let before = c.loop-triple.invariant in
    let below = lent_below c.args.triples.now i c.loop-triple-test.true in
    let is = lent_is c.args.triples.now i c.triple-item.result c.loop-triple-test.true c.triple-item.is in
    elim c.if-fits.branch [
      | then-fits+in-Ok w ↦
          let e = sym c.fits.ensures ∙ w.if-fits.true in
          let now = w.in-Ok.ensures in
          rw (w.site-is, w.piece-is, w.count-is) (record {
            count = ap (λ (n : ℕ). n + 1) before.count ∙ sym (count_more p triple_line xs i x below is e);
            told = lines_more p triple_line xs i x below is e (g.W.Disk.outside c.args.site.now).told (g.W.Disk.outside c.loop-triple.site).told (g.W.Disk.outside w.line.new.site).told c.loop-triple.piece.items w.line.new.piece.items
                before.told now.told;
            small = now.small;
            says = says_more false (g.W.Disk.outside c.args.site.now) (g.W.Disk.outside c.loop-triple.site) (g.W.Disk.outside w.line.new.site) before.says now.says;
          })
      | else-fits w ↦
          let e = sym c.fits.ensures ∙ w.if-fits.false in
          rw (w.site-is, w.piece-is, w.count-is) (record {
            count = before.count ∙ sym (count_same p triple_line xs i x below is e);
            told = rw (text_same p triple_line xs i x below is e) before.told;
            small = before.small;
            says = before.says;
          })
    ]

pub returns-in-Err-clause-says : goal.returns-in-Err-clause-says
returns-in-Err-clause-says g c =
    says_more (is_output_fault c.in-Err.stop) (g.W.Disk.outside c.args.site.now) (g.W.Disk.outside c.loop-triple.site) (g.W.Disk.outside c.line.new.site) c.loop-triple.invariant.says c.in-Err.ensures.says
