use Rattle.std.proofs.Common.{◌≡◌, [], ◌∷◌, ◌++◌, sym, ap, ◌∙◌, subst, true≢false}
use Rattle.std.specs.List.Sorted.{IsStrictlySortedBy}
use Rattle.std.proofs.lemmas.List.Elements.{All-nil, All-push, All-same}
use Rattle.std.proofs.lemmas.Result.{err_from_is_err_and}
use Rattle.ts_model.specs.TextTriple.{IsTriple}
use Rattle.ts_model.specs.Order.{triple_cmp}
use Rattle.ts_plain.specs.PlainFile.{change_lines}
use Rattle.ts_plain.proofs.EndLaws.{line_text}
use Rattle.ts_plain.proofs.LineLaws.{line_before}
use Rattle.ts_plain.proofs.SectionLaws.{begins_with_line, lines_more, no_line, no_rise}
use Rattle.ts_plain.proofs.changes.read_changes.Goals as goal

pub loop-behind-init : goal.loop-behind-init
unfolding IsStrictlySortedBy
loop-behind-init c =
    let none = c.new-triples.ensures.items in
    record {
      rise = subst (IsStrictlySortedBy triple_cmp) (sym none) tt;
      triples = All-same IsTriple c.new-triples.result.items [] none (All-nil IsTriple);
      lines = ap (λ triples. change_lines c.args.sign triples ++ c.args.bytes.now) (sym none);
    }

pub returns-in_err-change-clause-err : goal.returns-in_err-change-clause-err
returns-in_err-change-clause-err c =
    let inv = c.loop-behind.invariant in
    let p = err_from_is_err_and c.from_residual.result c.from_residual.ensures.1 in
    rw (p.1, p.2) (λ e.
    no_line c.args.sign c.args.bytes.now c.loop-behind.triples.items c.loop-behind.rest.now c.in-Some.behind.now inv.triples inv.lines c.in-Some.ensures.some (c.in_err-change.ensures.err e))

pub returns-then-not-rises-clause-err : goal.returns-then-not-rises-clause-err
returns-then-not-rises-clause-err c = λ e.
    let inv = c.loop-behind.invariant in
    let read = c.in_ok-change.ensures.ok in
    no_rise c.args.sign c.args.bytes.now c.loop-behind.triples.items c.in_ok-change.change.triple c.loop-behind.rest.now c.in-Some.behind.now c.in_ok-change.change.rest.now
    inv.triples inv.lines c.in-Some.ensures.some read.0 read.1 (λ rise.
    let shown : IsStrictlySortedBy triple_cmp (c.as_slice.result.now ++ c.in_ok-change.change.triple ∷ []) =
    subst (λ triples. IsStrictlySortedBy triple_cmp (triples ++ c.in_ok-change.change.triple ∷ [])) (sym c.as_slice.ensures.value) rise in
    true≢false (sym (c.rises.ensures.1 shown) ∙ c.if-not-rises.true))

pub loop-behind-preserved : goal.loop-behind-preserved
loop-behind-preserved c =
    let inv = c.loop-behind.invariant in
    let read = c.in_ok-change.ensures.ok in
    let pushed = c.in_ok-push.ensures.items in
    let t = c.in_ok-change.change.triple in
    let rise = c.rises.ensures.0 c.if-not-rises.false in
    record {
      rise = subst (IsStrictlySortedBy triple_cmp) (sym pushed) (subst (λ triples. IsStrictlySortedBy triple_cmp (triples ++ t ∷ [])) c.as_slice.ensures.value rise);
      triples = All-same IsTriple c.push.new.self.items (c.loop-behind.triples.items ++ t ∷ []) pushed (All-push IsTriple c.loop-behind.triples.items t inv.triples read.0);
      lines =
          subst (λ triples. c.args.bytes.now ≡ change_lines c.args.sign triples ++ c.in_ok-change.change.rest.now) (sym pushed)
          (lines_more c.args.sign c.args.bytes.now c.loop-behind.triples.items t c.loop-behind.rest.now c.in-Some.behind.now c.in_ok-change.change.rest.now inv.lines c.in-Some.ensures.some read.1);
    }

pub returns-in_err-change-clause-memory : goal.returns-in_err-change-clause-memory
returns-in_err-change-clause-memory c =
    let inv = c.loop-behind.invariant in
    let sign = c.args.sign in
    let p = err_from_is_err_and c.from_residual.result c.from_residual.ensures.1 in
    rw (p.1, p.2) (λ e.
    let line = c.in_err-change.ensures.memory e in
    begins_with_line sign c.args.bytes.now c.loop-behind.triples.items c.loop-behind.rest.now inv.lines
    (line.0, line.1, c.in-Some.ensures.some ∙ ap (λ l. sign ∷ 0x20 ∷ l) line.2))

pub returns-in_err-push-clause-memory : goal.returns-in_err-push-clause-memory
returns-in_err-push-clause-memory c =
    let inv = c.loop-behind.invariant in
    let sign = c.args.sign in
    let change = c.in_ok-change.change in
    let p = err_from_is_err_and c.from_residual-in_err-push.result c.from_residual-in_err-push.ensures.1 in
    rw (p.1) (λ e.
    begins_with_line sign c.args.bytes.now c.loop-behind.triples.items c.loop-behind.rest.now inv.lines (
      line_text change.triple,
      change.rest.now,
      c.in-Some.ensures.some ∙ ap (λ l. sign ∷ 0x20 ∷ l) (c.in_ok-change.ensures.ok.1 ∙ line_before change.triple change.rest.now),
    ))
