use Rattle.std.proofs.Common.{◌≡◌, ◌∙◌, ◌&&◌, ◌||◌, not, sym, ap, subst, map, take, IfOk, List, arith}
use Rattle.std.specs.List.{list_any}
use Rattle.std.specs.Ordering.{eq_by_cmp}
use Rattle.std.proofs.lemmas.List.{take_all}
use denote.Ref.{Bor}
use Rattle.ts_model.specs.TextTriple.{TextTriple}
use Rattle.ts_model.specs.Order.{triple_cmp}
use Rattle.ts_model.specs.Sets.{contains}
use Rattle.ts_model.proofs.SetAlgebra.{contains-empty}
use Rattle.ts_plain.specs.Chain.{content_over}
use Rattle.ts_plain.proofs.LayerLaws.{seen, is_among, content_over-more, contains-content_above, members-of_held}
use Rattle.ts_plain.proofs.content.content.Goals as goal

pub loop-layer-init : goal.loop-layer-init
loop-layer-init c = λ triple. ap (list_any (λ (held : Bor TextTriple). eq_by_cmp triple_cmp triple held.now)) c.new-standing.ensures.empty ∙ sym (contains-empty triple_cmp triple)

pub loop-layer-preserved : goal.loop-layer-preserved
loop-layer-preserved c = λ triple.
    let layer = c.layer-item.result in
    let below = content_over (seen (take c.loop-layer.layer-index c.args.chain.now)) in
    c.in_ok-apply.ensures triple
    ∙ ap (λ b. (b && not (is_among layer.now.removals.items triple)) || is_among layer.now.additions.items triple) (c.loop-layer.invariant triple)
    ∙ sym (contains-content_above below layer.now triple)
    ∙ ap (λ set. contains set triple) (sym (content_over-more c.args.chain.now c.loop-layer.layer-index layer (omega arith) c.layer-item.is))

pub returns : goal.returns
returns c =
    let chain = c.args.chain.now in
    let all = take_all c.loop-layer.layer-index chain (omega arith) in
    let listed = members-of_held c.loop-layer.standing (content_over (seen chain)) c.rising.ensures.rise
    (λ triple. c.loop-layer.invariant triple ∙ ap (λ layers. contains (content_over (seen layers)) triple) all) in
    subst (λ (these : List TextTriple). IfOk c.rising.result (λ triples. map (λ triple. triple.now) triples.items ≡ these)) listed c.rising.ensures.items
