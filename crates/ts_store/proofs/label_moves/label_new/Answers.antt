use Rattle.std.proofs.Common.{sym, subst, ◌∙◌}
use Rattle.ts_labels.specs.Labels.{Labels}
use Rattle.ts_store.proofs.PutLaws.{PutOrNot, does_made, sound_made}
use Rattle.std.proofs.Common.{true, ap}
use Rattle.std.specs.FinMap.{get}
use Rattle.ts_labels.specs.Moves.{made_label}
use Rattle.ts_script.specs.Replies.{refusal_text}
use Rattle.ts_script.specs.declared.reply.Refusal.{Refusal}
use Rattle.ts_store.specs.Does.{Answers}
use Rattle.ts_store.specs.State.{State}
use Rattle.ts_store.proofs.PutLaws.{does_not_make}
use Rattle.ts_store.proofs.label_moves.label_new.Goals as goal

pub invariant_of-store-in-Ok-reserve : goal.invariant_of-store-in-Ok-reserve
invariant_of-store-in-Ok-reserve g c =
    let inside = c.store.inside in
    let name = c.args.name.now in
    let after = c.put_label.new.labels.labels in
    let result = c.put_label.result in
    sound_made inside.layers.items inside.labels.labels inside.cursors inside.last c.args.store.now c.store.view_is c.store.invariant name c.put_label.ensures.named c.in-Ok.label (sym c.made.ensures ∙ c.in-Ok.is) after result
    (subst (λ (ls : Labels). PutOrNot result name c.in-Ok.label ls after) c.reserve.ensures.labels c.put_label.ensures.labels)

pub returns-in-Ok-reserve-clause-does : goal.returns-in-Ok-reserve-clause-does
returns-in-Ok-reserve-clause-does g c =
    let inside = c.store.inside in
    let name = c.args.name.now in
    let after = c.put_label.new.labels.labels in
    let result = c.put_label.result in
    let done = c.put_label.ensures in
    does_made inside.layers.items inside.labels.labels inside.cursors inside.last c.args.store.now c.store.view_is c.store.invariant name done.named c.in-Ok.label (sym c.made.ensures ∙ c.in-Ok.is) after result
    (subst (λ (ls : Labels). PutOrNot result name c.in-Ok.label ls after) c.reserve.ensures.labels done.labels)
    (g.W.Disk.outside c.args.site.now) (g.W.Disk.outside c.put_label.new.site) done.told done.folder done.why done.disk done.say done.last done.tells done.crash done.safe

pub returns-in-Err-clause-does : goal.returns-in-Err-clause-does
returns-in-Err-clause-does g c =
    let name = c.args.name.now in
    let old = g.W.Disk.outside c.args.site.now in
    let new = g.W.Disk.outside c.refuse.new.site in
    does_not_make c.args.store.now name c.in-Err.error c.refuse.result old new
    (ap (λ (s : State). made_label (get s.labels name)) (sym c.store.view_is) ∙ sym c.made.ensures ∙ c.in-Err.is) c.refuse.ensures.why
    (subst (λ (given : Refusal). Answers (refusal_text given) true c.refuse.result old new) c.refusal_of.ensures c.refuse.ensures.answers)
