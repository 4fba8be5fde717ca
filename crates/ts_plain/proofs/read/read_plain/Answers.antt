use Rattle.std.proofs.Common.{◌≡◌, inl, [], ◌==◌, length, refl, sym, ap, ◌∙◌, subst, arith, true≢false}
use Rattle.std.proofs.lemmas.List.{nil_from_length}
use Rattle.std.proofs.lemmas.Result.{err_from_is_err_and}
use Rattle.ts_plain.specs.PlainReading.{AreApart}
use Rattle.ts_plain.proofs.CutLaws.{length_zero}
use Rattle.ts_plain.proofs.PlainLaws.{needs_additions, needs_removals, needs_end, needs_apart, is_layer}
use Rattle.ts_plain.proofs.SectionLaws.{begins_with_either}
use Rattle.ts_plain.proofs.read.read_plain.Goals as goal
use Rattle.ts_plain.proofs.read.read_plain.Goals.{then-not-is_empty-via-then-not-is_empty, then-not-is_empty-via-else-not-is_empty+then-not-fit}

pub returns-in_err-additions-clause-err : goal.returns-in_err-additions-clause-err
returns-in_err-additions-clause-err c =
    let head = c.in-Some.head in
    let named = c.in-Some.ensures.some in
    let p = err_from_is_err_and c.from_residual.result c.from_residual.ensures.1 in
    rw (p.1, p.2) (λ e parent additions removals layer is.
    needs_additions c.args.number c.args.bytes.now parent additions removals layer is (omega arith) head.parent head.rest.now named.1 named.2 (c.in_err-additions.ensures.err e))

pub returns-in_err-removals-clause-err : goal.returns-in_err-removals-clause-err
returns-in_err-removals-clause-err c =
    let head = c.in-Some.head in
    let named = c.in-Some.ensures.some in
    let added = c.in_ok-additions.additions in
    let p = err_from_is_err_and c.from_residual-in_err-removals.result c.from_residual-in_err-removals.ensures.1 in
    rw (p.1, p.2) (λ e parent additions removals layer is.
    needs_removals c.args.number c.args.bytes.now parent additions removals layer is (omega arith) head.parent head.rest.now named.1 named.2
    added.triples.items added.rest.now c.in_ok-additions.ensures.ok (c.in_err-removals.ensures.err e))

pub returns-then-not-is_empty-clause-err : goal.returns-then-not-is_empty-clause-err
returns-then-not-is_empty-clause-err c = λ e parent additions removals layer is.
    let head = c.in-Some.head in
    let named = c.in-Some.ensures.some in
    let added = c.in_ok-additions.additions in
    let removed = c.in_ok-removals.removals in
    elim c.then-not-is_empty.branch [
      | then-not-is_empty-via-then-not-is_empty w ↦
          let over = needs_end c.args.number c.args.bytes.now parent additions removals layer is (omega arith) head.parent head.rest.now named.1 named.2
          added.triples.items added.rest.now c.in_ok-additions.ensures.ok removed.triples.items removed.rest.now c.in_ok-removals.ensures.ok in
          true≢false (sym (c.is_empty.ensures ∙ ap (λ l. length l == 0) over) ∙ w.if-not-is_empty.true)
      | then-not-is_empty-via-else-not-is_empty+then-not-fit w ↦
          let apart = needs_apart c.args.number c.args.bytes.now parent additions removals layer is (omega arith) head.parent head.rest.now named.1 named.2
          added.triples.items added.rest.now c.in_ok-additions.ensures.ok removed.triples.items removed.rest.now c.in_ok-removals.ensures.ok in
          let first : AreApart c.as_slice-triples.result.now removed.triples.items = subst (λ these. AreApart these removed.triples.items) (sym c.as_slice-triples.ensures.value) apart.0 in
          let both : AreApart c.as_slice-triples.result.now w.as_slice.result.now = subst (AreApart c.as_slice-triples.result.now) (sym w.as_slice.ensures.value) first in
          true≢false (sym (w.fit.ensures.1 (both, λ none. w.as_slice.ensures.value ∙ apart.1 none)) ∙ w.if-not-fit.true)
    ]

pub returns-clause-ok : goal.returns-clause-ok
returns-clause-ok c =
    let head = c.in-Some.head in
    let named = c.in-Some.ensures.some in
    let added = c.in_ok-additions.additions in
    let removed = c.in_ok-removals.removals in
    let over : removed.rest.now ≡ [] = nil_from_length removed.rest.now (length_zero _ (sym c.is_empty.ensures ∙ c.if-not-is_empty.false)) in
    let apart = c.fit.ensures.0 c.if-not-fit.false in
    let first : AreApart added.triples.items c.as_slice.result.now = subst (λ these. AreApart these c.as_slice.result.now) c.as_slice-triples.ensures.value apart.0 in
    let both : AreApart added.triples.items removed.triples.items = subst (AreApart added.triples.items) c.as_slice.ensures.value first in
    let layer = is_layer c.args.number c.args.bytes.now head.parent head.rest.now added.triples.items removed.triples.items added.rest.now removed.rest.now
    named.0 named.1 named.2 c.in_ok-additions.ensures.ok c.in_ok-removals.ensures.ok over both (λ none. sym c.as_slice.ensures.value ∙ apart.1 none) in
    (refl, layer.0, layer.1)

pub returns-in_err-additions-clause-memory : goal.returns-in_err-additions-clause-memory
returns-in_err-additions-clause-memory c =
    let head = c.in-Some.head in
    let named = c.in-Some.ensures.some in
    let p = err_from_is_err_and c.from_residual.result c.from_residual.ensures.1 in
    rw (p.1, p.2) (λ e. record { parent = head.parent; body = head.rest.now; numbered = named.0; parented = named.1; head = named.2; line = inl (c.in_err-additions.ensures.memory e) })

pub returns-in_err-removals-clause-memory : goal.returns-in_err-removals-clause-memory
returns-in_err-removals-clause-memory c =
    let head = c.in-Some.head in
    let named = c.in-Some.ensures.some in
    let added = c.in_ok-additions.additions in
    let p = err_from_is_err_and c.from_residual-in_err-removals.result c.from_residual-in_err-removals.ensures.1 in
    rw (p.1, p.2) (λ e. record {
      parent = head.parent;
      body = head.rest.now;
      numbered = named.0;
      parented = named.1;
      head = named.2;
      line = begins_with_either 0x2B 0x2D head.rest.now added.triples.items added.rest.now c.in_ok-additions.ensures.ok.lines (c.in_err-removals.ensures.memory e);
    })
