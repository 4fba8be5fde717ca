use Rattle.std.proofs.Common.{List, ℕ, false, subst}
use Rattle.ts_script.specs.Replies.{reply_text}
use Rattle.ts_script.specs.declared.reply.Reply.TheVariants.{CursorClosed}
use Rattle.ts_store.specs.Does.{Answers}
use Rattle.ts_store.proofs.AnswerLaws.{output_alone}
use Rattle.ts_store.proofs.FetchLaws.{does_close}
use Rattle.ts_script.specs.Replies.{refusal_text}
use Rattle.ts_script.specs.declared.reply.Refusal.TheVariants.{NoCursor}
use Rattle.std.proofs.Common.{true, ap, sym, ◌∙◌}
use Rattle.std.specs.FinMap.{get}
use Rattle.ts_store.specs.Fetches.{closes}
use Rattle.ts_store.specs.Resolve.{find_cursor, found_or}
use Rattle.ts_store.specs.State.{State}
use Rattle.ts_store.proofs.AnswerLaws.{does_missing, does_refused}
use Rattle.ts_store.proofs.close.close_cursor.Goals as goal

pub returns-in-Some-clause-does : goal.returns-in-Some-clause-does
returns-in-Some-clause-does g c =
    let kept = c.store.inside in
    let old = g.W.Disk.outside c.args.site.now in
    let new = g.W.Disk.outside c.reply.new.site in
    does_close kept.layers.items kept.labels.labels kept.cursors kept.last c.args.store.now c.store.view_is c.args.name.now c.reply.result
    (output_alone c.reply.result c.reply.ensures.why) old new c.in-Some.field-0.now.1 c.in-Some.ensures c.close.new.self c.close.ensures
    (subst (λ (name : List ℕ). Answers (reply_text (CursorClosed name)) false c.reply.result old new) c.copy-in-Some.ensures c.reply.ensures.answers)

pub returns-in-None-clause-does : goal.returns-in-None-clause-does
returns-in-None-clause-does g c =
    let state = c.args.store.now in
    let name = c.args.name.now in
    let old = g.W.Disk.outside c.args.site.now in
    let new = g.W.Disk.outside c.refuse.new.site in
    let none = ap (found_or (NoCursor name)) (sym (c.in-None.ensures ∙ ap (λ (s : State). get s.cursors name) c.store.view_is)) in
    does_missing c.refuse.result old new state (find_cursor state name) (λ _. closes state name) state (NoCursor name) none
    (does_refused state (NoCursor name) c.refuse.result old new c.refuse.ensures.why
    (subst (λ (n : List ℕ). Answers (refusal_text (NoCursor n)) true c.refuse.result old new) c.copy.ensures c.refuse.ensures.answers))
