use Rattle.std.proofs.Common.{◌≡◌, ◌∙◌, ℕ, List, ◌++◌, Bor, IfSome, map, ap, sym, subst, append_assoc, append-nil}
use Rattle.std.specs.FinMap.{insert}
use Rattle.std.proofs.lemmas.Result.{IfOk-weaker}
use Rattle.ts_model.specs.declared.totals.Totals.{Totals}
use Rattle.ts_model.specs.TextTriple.{TextTriple}
use Rattle.ts_model.specs.ChainTotals.{added_along, terms_at, predicates_at}
use Rattle.ts_model.specs.History.{LayerRecord}
use Rattle.ts_model.specs.Totals.{term_count, predicate_count}
use Rattle.ts_plain.specs.declared.write.PlainLayer.{PlainLayer}
use Rattle.ts_plain.specs.Chain.{StandsIn}
use Rattle.ts_plain.specs.History.{history_of}
use Rattle.ts_plain.specs.NewLayer.{IsNewLayer}
use Rattle.ts_plain.proofs.ChainLaws.{number_of, number-of_parent, parent_stands}
use Rattle.ts_plain.proofs.GrowthLaws.{ParentStands, added_from, added_along-new}
use Rattle.ts_plain.proofs.TotalsLaws.{added_from-layer}
use Rattle.ts_plain.proofs.totals.totals_after.Goals as goal

abbrev values : List (Bor TextTriple) → List TextTriple
values lent = map (λ triple. triple.now) lent

pub loop-next-init : goal.loop-next-init
loop-next-init c =
    let history = history_of c.args.layers.now in
    let additions = c.args.additions.now in
    let parent = c.standing_layer-next.ensures in
    record {
      same =
          ap (λ l. l ++ added_from history (number_of c.standing_layer-next.result)) (c.in_ok-lend.ensures ∙ ap (λ items. values items ++ additions) c.new-triples.ensures.items)
          ∙ ap (λ o. additions ++ added_from history o) (number-of_parent history c.standing_layer-next.result c.args.parent parent.some parent.none);
      next = parent_stands history c.args.parent c.standing_layer-next.result parent.some;
    }

pub loop-next-preserved : goal.loop-next-preserved
loop-next-preserved c =
    let history = history_of c.args.layers.now in
    let layer = c.in-Some.layer.now in
    let parent = c.parent_of-next.ensures in
    let before : List TextTriple = values c.loop-next.triples.items in
    let own = layer.additions.items in
    let stands : StandsIn history layer = subst (λ o. IfSome o (λ (layer : Bor PlainLayer). StandsIn history layer.now)) c.in-Some.is c.loop-next.invariant.next in
    record {
      same =
          ap (λ l. l ++ added_from history (number_of c.parent_of-next.result)) (c.in_ok-lend-2.ensures ∙ ap (λ l. before ++ l) c.as_slice.ensures.value)
          ∙ ap (λ o. (before ++ own) ++ added_from history o) (number-of_parent history c.parent_of-next.result layer.parent parent.some parent.none)
          ∙ append_assoc before own (added_from history layer.parent)
          ∙ ap (λ l. before ++ l) (sym (added_from-layer history c.requires.history.well_kept layer stands))
          ∙ ap (λ o. before ++ added_from history (number_of o)) (sym c.in-Some.is)
          ∙ c.loop-next.invariant.same;
      next = parent_stands history layer.parent c.parent_of-next.result parent.some;
    }

pub returns : goal.returns
returns c =
    let history = history_of c.args.layers.now in
    let kept = c.requires.history.well_kept in
    let parent = c.args.parent in
    let additions = c.args.additions.now in
    let gathered : List TextTriple = values c.loop-next.triples.items in
    let all : values c.as_slice-2.result.now ≡ additions ++ added_from history parent =
    ap values c.as_slice-2.ensures.value
    ∙ sym (append-nil gathered)
    ∙ ap (λ o. gathered ++ added_from history (number_of o)) (sym c.in_default.is)
    ∙ c.loop-next.invariant.same in
    let along : (number : ℕ) (layer : LayerRecord) → IsNewLayer history number layer parent additions → values c.as_slice-2.result.now ≡ added_along (insert history number layer) number = λ number layer new.
    let stands : ParentStands history layer.parent = subst (ParentStands history) (sym new.parent_is) c.requires.stands in
    all
    ∙ (λ i. sym new.additions_are i ++ added_from history (sym new.parent_is i))
    ∙ sym (added_along-new history kept number new.number_is_new layer stands) in
    record {
      terms = IfOk-weaker c.totals_of.result
          (λ (totals : Totals). totals.terms ≡ term_count (values c.as_slice-2.result.now))
          (λ (totals : Totals). (number : ℕ) (layer : LayerRecord) → IsNewLayer history number layer parent additions → totals.terms ≡ terms_at (insert history number layer) number)
          (λ totals is number layer new. is ∙ ap term_count (along number layer new))
          c.totals_of.ensures.terms;
      predicates = IfOk-weaker c.totals_of.result
          (λ (totals : Totals). totals.predicates ≡ predicate_count (values c.as_slice-2.result.now))
          (λ (totals : Totals). (number : ℕ) (layer : LayerRecord) → IsNewLayer history number layer parent additions → totals.predicates ≡ predicates_at (insert history number layer) number)
          (λ totals is number layer new. is ∙ ap predicate_count (along number layer new))
          c.totals_of.ensures.predicates;
    }
