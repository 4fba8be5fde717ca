use Rattle.std.proofs.Common.{true, sym, subst, ◌∙◌}
use Rattle.ts_script.specs.Replies.{refusal_text}
use Rattle.ts_script.specs.declared.reply.Refusal.{Refusal}
use Rattle.ts_store.specs.Does.{Answers}
use Rattle.ts_store.proofs.PutLaws.{does_move, does_not_move, sound_moved}
use Rattle.std.proofs.Common.{Some}
use Rattle.ts_labels.specs.Moves.{moved_label}
use Rattle.ts_store.specs.Puts.{puts}
use Rattle.ts_store.specs.Resolve.{find_label, find_target}
use Rattle.ts_store.specs.Stepped.{at_found}
use Rattle.ts_store.proofs.AnswerLaws.{does_found, does_missing, does_refused}
use Rattle.ts_store.proofs.label_moves.label_set.Goals as goal

pub invariant_of-store : goal.invariant_of-store
invariant_of-store g c =
    let inside = c.store.inside in
    sound_moved inside.layers.items inside.labels.labels inside.cursors inside.last c.args.store.now c.store.view_is c.store.invariant c.args.name.now c.args.version c.args.to
    c.in-Ok.field-0 c.in-Ok-find_target.layer (sym c.find_label.ensures.found ∙ c.in-Ok.is) (sym c.find_target.ensures.found ∙ c.in-Ok-find_target.is)
    c.in-Ok.ensures.is_label c.in-Ok-find_target.ensures.stands c.in-Ok-moved.label (sym c.moved.ensures ∙ c.in-Ok-moved.is) c.put_label.new.labels.labels c.put_label.result c.put_label.ensures.labels

pub returns-in-Err-moved-clause-does : goal.returns-in-Err-moved-clause-does
returns-in-Err-moved-clause-does g c =
    let inside = c.store.inside in
    let old = g.W.Disk.outside c.args.site.now in
    let new = g.W.Disk.outside c.refuse-in-Err-moved.new.site in
    let result = c.refuse-in-Err-moved.result in
    does_not_move inside.layers.items inside.labels.labels inside.cursors inside.last c.args.store.now c.store.view_is c.store.invariant c.args.name.now c.args.version c.args.to
    c.in-Ok.field-0 c.in-Ok-find_target.layer (sym c.find_label.ensures.found ∙ c.in-Ok.is) (sym c.find_target.ensures.found ∙ c.in-Ok-find_target.is)
    c.in-Err-moved.error result old new (sym c.moved.ensures ∙ c.in-Err-moved.is) c.refuse-in-Err-moved.ensures.why
    (subst (λ (given : Refusal). Answers (refusal_text given) true result old new) c.refusal_of.ensures c.refuse-in-Err-moved.ensures.answers)

pub returns-in-Ok-moved-clause-does : goal.returns-in-Ok-moved-clause-does
returns-in-Ok-moved-clause-does g c =
    let inside = c.store.inside in
    let done = c.put_label.ensures in
    does_move inside.layers.items inside.labels.labels inside.cursors inside.last c.args.store.now c.store.view_is c.store.invariant c.args.name.now c.args.version c.args.to
    c.in-Ok.field-0 c.in-Ok-find_target.layer (sym c.find_label.ensures.found ∙ c.in-Ok.is) (sym c.find_target.ensures.found ∙ c.in-Ok-find_target.is)
    c.in-Ok.ensures.is_label c.in-Ok-find_target.ensures.stands c.in-Ok-moved.label (sym c.moved.ensures ∙ c.in-Ok-moved.is) c.put_label.new.labels.labels c.put_label.result done.labels
    (g.W.Disk.outside c.args.site.now) (g.W.Disk.outside c.put_label.new.site) done.told done.folder done.why done.disk done.say done.last done.tells done.crash done.safe

pub returns-in-Err-clause-does : goal.returns-in-Err-clause-does
returns-in-Err-clause-does g c =
    let state = c.args.store.now in
    let name = c.args.name.now in
    let old = g.W.Disk.outside c.args.site.now in
    let new = g.W.Disk.outside c.refuse.new.site in
    does_missing c.refuse.result old new state (find_label state name) (λ label. at_found state (find_target state c.args.to) (λ l. puts state name (moved_label (Some label) c.args.version l))) state c.in-Err.no_label
    (sym c.find_label.ensures.found ∙ c.in-Err.is) (does_refused state c.in-Err.no_label c.refuse.result old new c.refuse.ensures.why c.refuse.ensures.answers)

pub returns-in-Err-find_target-clause-does : goal.returns-in-Err-find_target-clause-does
returns-in-Err-find_target-clause-does g c =
    let state = c.args.store.now in
    let name = c.args.name.now in
    let known = c.in-Ok.field-0 in
    let given = c.in-Err-find_target.no_layer in
    let old = g.W.Disk.outside c.args.site.now in
    let new = g.W.Disk.outside c.refuse-in-Err-find_target.new.site in
    let result = c.refuse-in-Err-find_target.result in
    does_found result old new state (find_label state name) (λ label. at_found state (find_target state c.args.to) (λ l. puts state name (moved_label (Some label) c.args.version l))) state known
    (sym c.find_label.ensures.found ∙ c.in-Ok.is)
    (does_missing result old new state (find_target state c.args.to) (λ l. puts state name (moved_label (Some known) c.args.version l)) state given
    (sym c.find_target.ensures.found ∙ c.in-Err-find_target.is) (does_refused state given result old new c.refuse-in-Err-find_target.ensures.why c.refuse-in-Err-find_target.ensures.answers))
