use Rattle.std.proofs.Common.{◌≡◌, ◌∷◌, ◌++◌, [], true, List, subst, ◌∙◌}
use Rattle.std.specs.FinMap.{empty}
use Rattle.ts_plain.specs.declared.write.PlainLayer.{PlainLayer}
use Rattle.ts_plain.specs.History.{AreHistory, history_of, record_of}
use Rattle.ts_store.specs.Makes.{is_counted_at, makes, with_layer}
use Rattle.ts_store.specs.Store.{state_of}
use Rattle.ts_store.proofs.PublishLaws.{does_nothing, does_publish, makes_tells, sound_after}
use Rattle.std.proofs.Common.{false}
use Rattle.ts_store.proofs.PublishLaws.{does_full, makes_uncounted}
use Rattle.ts_store.proofs.publish.make.Goals as goal

pub returns-in-Err-clause-does : goal.returns-in-Err-clause-does
returns-in-Err-clause-does g c = λ labels cursors.
    let before = state_of c.args.layers.now.items labels cursors c.args.last.now in
    does_nothing before (makes before (record_of c.args.layer)) before (g.W.Disk.outside c.args.site.now) (makes_tells before (record_of c.args.layer))

pub returns-else-is_err-clause-sound : goal.returns-else-is_err-clause-sound
returns-else-is_err-clause-sound g c = λ labels sound.
    let layers = c.args.layers.now.items in
    let layer = c.args.layer in
    let counted = subst (λ (ls : List PlainLayer). is_counted_at (with_layer (history_of ls) (record_of layer)) layer.number ≡ true) c.as_slice.ensures.value (rw c.in-Ok-Some.field-0-is at c.in-Ok-Some.ensures.full) in
    let made = rw c.in-Ok-Some.field-0-is at c.in-Ok-Some.ensures.file in
    sound_after layers labels empty c.args.last.now c.requires.history layer c.requires.next c.as_slice-in-Ok-Some.result.now counted (c.as_slice-in-Ok-Some.ensures.value ∙ made.0)
    (subst (λ (ls : List PlainLayer). AreHistory (ls ++ layer ∷ [])) c.as_slice.ensures.value made.1)
    c.publish.new.layers.items c.publish.new.last c.publish.result sound (rw c.reserve.ensures.items at c.publish.ensures.layers)

pub returns-else-is_err-clause-does : goal.returns-else-is_err-clause-does
returns-else-is_err-clause-does g c = λ labels cursors.
    let layers = c.args.layers.now.items in
    let layer = c.args.layer in
    let counted = subst (λ (ls : List PlainLayer). is_counted_at (with_layer (history_of ls) (record_of layer)) layer.number ≡ true) c.as_slice.ensures.value (rw c.in-Ok-Some.field-0-is at c.in-Ok-Some.ensures.full) in
    let made = rw c.in-Ok-Some.field-0-is at c.in-Ok-Some.ensures.file in
    let published = c.publish.ensures in
    does_publish layers labels cursors c.args.last.now c.requires.history layer c.requires.next c.as_slice-in-Ok-Some.result.now counted (c.as_slice-in-Ok-Some.ensures.value ∙ made.0)
    (subst (λ (ls : List PlainLayer). AreHistory (ls ++ layer ∷ [])) c.as_slice.ensures.value made.1)
    c.publish.new.layers.items c.publish.new.last c.publish.result (g.W.Disk.outside c.args.site.now) (g.W.Disk.outside c.publish.new.site)
    (rw c.reserve.ensures.items at published.layers) published.told published.folder published.why published.disk published.say published.last published.tells published.crash published.safe

pub returns-in-Ok-None-clause-does : goal.returns-in-Ok-None-clause-does
returns-in-Ok-None-clause-does g c = λ labels cursors.
    let layer = c.args.layer in
    let before = state_of c.args.layers.now.items labels cursors c.args.last.now in
    let counted = subst (λ (ls : List PlainLayer). is_counted_at (with_layer (history_of ls) (record_of layer)) layer.number ≡ false) c.as_slice.ensures.value (rw c.in-Ok-None.field-0-is at c.in-Ok-None.ensures.full) in
    does_full before (makes before (record_of layer)) c.refuse.result (g.W.Disk.outside c.args.site.now) (g.W.Disk.outside c.refuse.new.site)
    (makes_uncounted before (record_of layer) layer.number c.requires.next.number counted) c.refuse.ensures.why c.refuse.ensures.answers
