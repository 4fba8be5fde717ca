use Rattle.std.proofs.Common.{Err, Ok}
use Rattle.ts_store.proofs.FetchLaws.{does_fetch, given}
use Rattle.ts_script.specs.Replies.{refusal_text}
use Rattle.ts_script.specs.declared.reply.Refusal.TheVariants.{NoCursor}
use Rattle.std.proofs.Common.{List, ℕ, true, ap, subst, sym, ◌∙◌}
use Rattle.std.specs.FinMap.{get}
use Rattle.ts_store.specs.Does.{Answers}
use Rattle.ts_store.specs.Fetches.{fetches}
use Rattle.ts_store.specs.Resolve.{find_cursor, found_or}
use Rattle.ts_store.specs.State.{State}
use Rattle.ts_store.proofs.AnswerLaws.{does_missing, does_refused}
use Rattle.ts_store.proofs.fetch.fetch.Goals as goal

pub returns-in-Err-clause-does : goal.returns-in-Err-clause-does
returns-in-Err-clause-does g c =
    let kept = c.store.inside in
    does_fetch kept.layers.items kept.labels.labels kept.cursors kept.last c.args.store.now c.store.view_is c.args.name.now (Err c.in-Err.stop) c.in-Err.ensures.why
    (g.W.Disk.outside c.args.site.now) (g.W.Disk.outside c.say_front.new.site) c.in-Some.cursor.now.1 c.in-Some.ensures c.args.n c.args.store.now tt c.in-Err.ensures.answers

pub returns-in-Ok-clause-does : goal.returns-in-Ok-clause-does
returns-in-Ok-clause-does g c =
    let kept = c.store.inside in
    does_fetch kept.layers.items kept.labels.labels kept.cursors kept.last c.args.store.now c.store.view_is c.args.name.now (Ok c.in-Ok.kind) tt
    (g.W.Disk.outside c.args.site.now) (g.W.Disk.outside c.say_front.new.site) c.in-Some.cursor.now.1 c.in-Some.ensures c.args.n _
    (given kept.layers.items kept.labels.labels kept.cursors kept.last c.args.store.now c.store.view_is c.args.name.now (Ok c.in-Ok.kind) tt
    (g.W.Disk.outside c.args.site.now) (g.W.Disk.outside c.say_front.new.site) c.in-Some.cursor.now.1 c.in-Some.ensures c.args.n c.give.new.self c.give.ensures) c.in-Ok.ensures.answers

pub returns-in-None-clause-does : goal.returns-in-None-clause-does
returns-in-None-clause-does g c =
    let state = c.args.store.now in
    let name = c.args.name.now in
    let old = g.W.Disk.outside c.args.site.now in
    let new = g.W.Disk.outside c.refuse.new.site in
    let none = ap (found_or (NoCursor name)) (sym (c.in-None.ensures ∙ ap (λ (s : State). get s.cursors name) c.store.view_is)) in
    does_missing c.refuse.result old new state (find_cursor state name) (fetches state name c.args.n) state (NoCursor name) none
    (does_refused state (NoCursor name) c.refuse.result old new c.refuse.ensures.why
    (subst (λ (n : List ℕ). Answers (refusal_text (NoCursor n)) true c.refuse.result old new) c.copy.ensures c.refuse.ensures.answers))
