use Rattle.std.proofs.Common.{false, length, ap, sym, subst, ◌∙◌}
use Rattle.ts_model.specs.History.{History}
use Rattle.ts_model.specs.Listing.{select}
use Rattle.ts_plain.specs.History.{history_of}
use Rattle.ts_script.specs.Replies.{reply_text}
use Rattle.ts_script.specs.declared.reply.Reply.TheVariants.{Count}
use Rattle.ts_store.specs.Does.{Answers}
use Rattle.ts_store.specs.Resolve.{find_ref}
use Rattle.ts_store.specs.State.{State}
use Rattle.ts_store.specs.Stepped.{does}
use Rattle.ts_store.proofs.AnswerLaws.{answers_found}
use Rattle.ts_store.proofs.count.count_at.Goals as goal

pub returns-in-Ok-clause-answers : goal.returns-in-Ok-clause-answers
returns-in-Ok-clause-answers g c =
    let state = c.args.store.now in
    let pattern = c.args.pattern.now in
    let k = c.in-Ok.number in
    let old = g.W.Disk.outside c.args.site.now in
    let new = g.W.Disk.outside c.count_layer.new.site in
    let same = ap history_of c.as_slice.ensures.value ∙ ap (λ (s : State). s.history) c.store.view_is in
    answers_found c.count_layer.result old new state (find_ref state c.args.at.now) (λ j. does state (reply_text (Count (length (select state.history j pattern))))) k
    (sym c.in-Ok.ensures.found)
    (subst (λ (h : History). Answers (reply_text (Count (length (select h k pattern)))) false c.count_layer.result old new) same c.count_layer.ensures.answers)
