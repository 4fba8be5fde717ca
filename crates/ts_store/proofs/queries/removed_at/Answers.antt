use Rattle.std.proofs.Common.{◌≡◌, false, List, ap, subst, ◌∙◌, sym}
use Rattle.std.specs.Option.{option_map}
use Rattle.ts_model.specs.History.{History, LayerRecord, removals_at, set_or_none}
use Rattle.ts_model.specs.Listing.{in_birth_order}
use Rattle.ts_model.specs.Order.{triple_cmp}
use Rattle.ts_model.specs.Sets.{SetOf, from_list}
use Rattle.ts_model.specs.TextTriple.{TextTriple}
use Rattle.ts_plain.specs.History.{history_of}
use Rattle.ts_script.specs.declared.reply.Refusal.TheVariants.{NoLayer}
use Rattle.ts_store.specs.Does.{Answers}
use Rattle.ts_store.specs.State.{State}
use Rattle.ts_store.specs.Resolve.{find_layer, found_or}
use Rattle.ts_store.specs.Step.{listing_text}
use Rattle.ts_store.specs.Stepped.{does}
use Rattle.ts_store.proofs.AnswerLaws.{answers_found}
use Rattle.ts_store.proofs.queries.removed_at.Goals as goal

pub returns-in-Some-clause-answers : goal.returns-in-Some-clause-answers
returns-in-Some-clause-answers g c =
    let state = c.args.store.now in
    let layer = c.in-Some.layer.now in
    let k = layer.number in
    let old = g.W.Disk.outside c.args.site.now in
    let new = g.W.Disk.outside c.list_changes.new.site in
    let same = ap history_of c.as_slice.ensures.value ∙ ap (λ (s : State). s.history) c.store.view_is in
    let own : from_list {R = triple_cmp} c.as_slice-in-Some.result.now ≡ removals_at state.history k =
    ap (λ (l : List TextTriple). from_list {R = triple_cmp} l) c.as_slice-in-Some.ensures.value ∙ sym (ap (λ o. set_or_none (option_map (λ (l : LayerRecord). l.removals) o)) c.in-Some.ensures.some.1.recorded) in
    answers_found c.list_changes.result old new state (find_layer state c.args.named) (λ j. does state (listing_text (in_birth_order state.history j (removals_at state.history j)))) k (ap (found_or (NoLayer c.args.named)) c.in-Some.ensures.some.0)
    (subst (λ (set : SetOf triple_cmp). Answers (listing_text (in_birth_order state.history k set)) false c.list_changes.result old new) own
    (subst (λ (h : History). Answers (listing_text (in_birth_order h k (from_list c.as_slice-in-Some.result.now))) false c.list_changes.result old new) same c.list_changes.ensures.answers))
