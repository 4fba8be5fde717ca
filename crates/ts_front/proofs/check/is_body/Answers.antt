use Rattle.std.proofs.Common.{◌≡◌, ◌+◌, ◌/◌, nat_eq, [], length, refl, sym, ◌∙◌, ap, arith}
use Rattle.std.proofs.lemmas.Bool.{eqb-true, eqb-false, OnTrue_from, OnFalse_from}
use Rattle.ts_front.specs.Dictionary.{place_of}
use Rattle.ts_front.proofs.RisingLemmas.{length-block_starts}
use Rattle.ts_front.proofs.ReadsLemmas.{reads_none, reads_whole, candidate}
use Rattle.ts_front.proofs.check.is_body.Goals as goal

pub loop-i-init : goal.loop-i-init
loop-i-init c = ([], (refl, reads_none c.args.starts.now c.args.body.now _))

pub returns-then-len-blocks_for-clause-no : goal.returns-then-len-blocks_for-clause-no
returns-then-len-blocks_for-clause-no c = λ us many is.
    c.if-len-blocks_for.true
    (c.len.ensures ∙ ap length is.starts_are ∙ length-block_starts us ∙ ap (λ n. (n + 7) / 8) many ∙ sym c.blocks_for.ensures)

pub returns-clause-yes : goal.returns-clause-yes
returns-clause-yes c =
    OnTrue_from (nat_eq c.loop-i.reached.place (length c.args.body.now)) _ (λ e.
    let texts = c.loop-i.invariant.0 in
    let many : length texts ≡ c.args.count = omega (arith, c.loop-i.invariant.1.0) in
    let blocks : length c.args.starts.now ≡ (length texts + 7) / 8 =
    sym c.len.ensures ∙ c.if-len-blocks_for.false ∙ c.blocks_for.ensures ∙ ap (λ n. (n + 7) / 8) (sym many) in (
      texts,
      (
        many,
        reads_whole c.args.starts.now c.args.body.now c.loop-i.pieces texts c.loop-i.reached.place c.loop-i.reached.last c.loop-i.invariant.1.1 blocks
            (eqb-true c.loop-i.reached.place (length c.args.body.now) e),
      ),
    ))

pub returns-clause-no : goal.returns-clause-no
returns-clause-no c =
    OnFalse_from (nat_eq c.loop-i.reached.place (length c.args.body.now)) _ (λ e us many is.
    let texts = c.loop-i.invariant.0 in
    let known = candidate c.args.starts.now c.args.body.now c.loop-i.pieces texts us c.loop-i.reached.place c.loop-i.reached.last c.loop-i.i
    c.loop-i.invariant.1.1 c.loop-i.invariant.1.0 is (omega arith) in
    let all : c.loop-i.i ≡ length us = omega arith in
    eqb-false c.loop-i.reached.place (length c.args.body.now) e (known.placed ∙ ap (place_of us) all ∙ ap length (sym is.spelled)))
