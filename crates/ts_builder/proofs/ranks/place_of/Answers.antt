use Rattle.std.proofs.Common.{◌-◌, Bor, slice_get, sym, ap, ◌∙◌}
use Rattle.std.proofs.lemmas.List.{length-map, map-append}
use Rattle.ts_model.specs.TextTerm.{TextTerm}
use Rattle.ts_builder.specs.Ranks.{ends_with}
use Rattle.ts_builder.proofs.RankLemmas.{last_get, now, pushed_get}
use Rattle.ts_builder.proofs.ranks.place_of.Goals as goal

pub returns-then-is_last-clause-place : goal.returns-then-is_last-clause-place
returns-then-is_last-clause-place c =
    let terms = c.args.terms.now in
    let term = c.args.term.now in
    last_get (now terms.items) term _ (ap (λ n. n - 1) (c.len.ensures ∙ terms.ok.0 ∙ sym (length-map terms.items (λ (term : Bor TextTerm). term.now))))
    (ap (λ terms. ends_with (now terms) term) (sym c.deref.ensures.value) ∙ sym c.is_last.ensures ∙ c.if-is_last.true)

pub returns-clause-place : goal.returns-clause-place
returns-clause-place c =
    let terms = c.args.terms.now in
    let place = c.len-place.result in
    ap (λ terms. slice_get (now terms) place) c.in_ok-push.ensures.items
    ∙ ap (λ terms. slice_get terms place) (map-append (λ (term : Bor TextTerm). term.now) terms.items _)
    ∙ pushed_get (now terms.items) c.args.term.now place (c.len-place.ensures ∙ terms.ok.0 ∙ sym (length-map terms.items (λ (term : Bor TextTerm). term.now)))
