use Rattle.std.proofs.Common.{◌≡◌, ◌∙◌, true, false, IfSome, Bor, ap, sym, subst}
use Rattle.ts_model.specs.History.{content_at, content_at_parent}
use Rattle.ts_model.specs.Order.{triple_cmp}
use Rattle.ts_model.specs.Sets.{contains}
use Rattle.ts_model.proofs.SetAlgebra.{contains-empty}
use Rattle.ts_plain.specs.declared.write.PlainLayer.{PlainLayer}
use Rattle.ts_plain.specs.Chain.{StandsIn}
use Rattle.ts_plain.specs.History.{history_of}
use Rattle.ts_plain.proofs.ChainLaws.{number_of, number-of_parent, parent_stands}
use Rattle.ts_plain.proofs.ContentLaws.{added_here, removed_here, as_below, found_at, IfSome-stands}
use Rattle.ts_plain.proofs.LayerLaws.{is_among}
use Rattle.ts_plain.proofs.lookup.holds.Goals as goal

pub loop-next-init : goal.loop-next-init
loop-next-init c =
    let found = c.layer_at-next.ensures in
    let history = history_of c.args.layers.now in
    record {
      same = found_at history c.args.number c.layer_at-next.result found.some found.none c.args.triple.now;
      next = IfSome-stands history c.args.number c.layer_at-next.result found.some;
    }

pub returns-then-is_among : goal.returns-then-is_among
returns-then-is_among c =
    let history = history_of c.args.layers.now in
    let layer = c.in-Some.layer.now in
    let triple = c.args.triple.now in
    let stands : StandsIn history layer = subst (λ o. IfSome o (λ (layer : Bor PlainLayer). StandsIn history layer.now)) c.in-Some.is c.loop-next.invariant.next in
    let same : contains (content_at history layer.number) triple ≡ contains (content_at history c.args.number) triple =
    ap (λ o. contains (content_at_parent history (number_of o)) triple) (sym c.in-Some.is) ∙ c.loop-next.invariant.same in
    let here : is_among layer.additions.items triple ≡ true = ap (λ items. is_among items triple) (sym c.as_slice.ensures.value) ∙ sym c.is_among.ensures ∙ c.if-is_among.true in
    sym (added_here history c.requires.well_kept layer stands triple here) ∙ same

pub returns-then-is_among-2 : goal.returns-then-is_among-2
returns-then-is_among-2 c =
    let history = history_of c.args.layers.now in
    let layer = c.in-Some.layer.now in
    let triple = c.args.triple.now in
    let stands : StandsIn history layer = subst (λ o. IfSome o (λ (layer : Bor PlainLayer). StandsIn history layer.now)) c.in-Some.is c.loop-next.invariant.next in
    let same : contains (content_at history layer.number) triple ≡ contains (content_at history c.args.number) triple =
    ap (λ o. contains (content_at_parent history (number_of o)) triple) (sym c.in-Some.is) ∙ c.loop-next.invariant.same in
    let out : is_among layer.additions.items triple ≡ false = ap (λ items. is_among items triple) (sym c.as_slice.ensures.value) ∙ sym c.is_among.ensures ∙ c.if-is_among.false in
    let here : is_among layer.removals.items triple ≡ true = ap (λ items. is_among items triple) (sym c.as_slice-in-Some.ensures.value) ∙ sym c.is_among-in-Some.ensures ∙ c.if-is_among-2.true in
    sym (removed_here history c.requires.well_kept layer stands triple out here) ∙ same

pub loop-next-preserved : goal.loop-next-preserved
loop-next-preserved c =
    let history = history_of c.args.layers.now in
    let layer = c.in-Some.layer.now in
    let triple = c.args.triple.now in
    let parent = c.parent_of-next.ensures in
    let stands : StandsIn history layer = subst (λ o. IfSome o (λ (layer : Bor PlainLayer). StandsIn history layer.now)) c.in-Some.is c.loop-next.invariant.next in
    let same : contains (content_at history layer.number) triple ≡ contains (content_at history c.args.number) triple =
    ap (λ o. contains (content_at_parent history (number_of o)) triple) (sym c.in-Some.is) ∙ c.loop-next.invariant.same in
    let out : is_among layer.additions.items triple ≡ false = ap (λ items. is_among items triple) (sym c.as_slice.ensures.value) ∙ sym c.is_among.ensures ∙ c.if-is_among.false in
    let kept : is_among layer.removals.items triple ≡ false = ap (λ items. is_among items triple) (sym c.as_slice-in-Some.ensures.value) ∙ sym c.is_among-in-Some.ensures ∙ c.if-is_among-2.false in
    record {
      same =
          ap (λ o. contains (content_at_parent history o) triple) (number-of_parent history c.parent_of-next.result layer.parent parent.some parent.none)
          ∙ sym (as_below history c.requires.well_kept layer stands triple out kept)
          ∙ same;
      next = parent_stands history layer.parent c.parent_of-next.result parent.some;
    }

pub returns : goal.returns
returns c =
    let history = history_of c.args.layers.now in
    sym (contains-empty triple_cmp c.args.triple.now)
    ∙ ap (λ o. contains (content_at_parent history (number_of o)) c.args.triple.now) (sym c.in_default.is)
    ∙ c.loop-next.invariant.same
