use Rattle.std.proofs.Common.{refl}
use Rattle.ts_model.specs.History.{additions_at, content_at, removals_at}
use Rattle.ts_model.specs.Listing.{in_birth_order, select}
use Rattle.ts_model.specs.Sets.{contains}
use Rattle.std.proofs.Common.{length}
use Rattle.ts_script.specs.Replies.{reply_text}
use Rattle.ts_script.specs.declared.command.Command.TheVariants as command
use Rattle.ts_script.specs.declared.reply.Refusal.TheVariants as refusal
use Rattle.ts_script.specs.declared.reply.Reply.TheVariants as reply
use Rattle.ts_store.specs.Puts.{label_line}
use Rattle.ts_store.specs.Resolve.{find_label, find_layer, find_ref}
use Rattle.ts_store.specs.Step.{has_text, listing_text, step_of}
use Rattle.ts_store.proofs.AnswerLaws.{asks_still, does_refused, does_still, output_alone}
use Rattle.ts_store.proofs.dispatch.dispatch.Goals as goal

pub returns-in-BadCommand-clause-does : goal.returns-in-BadCommand-clause-does
returns-in-BadCommand-clause-does g c =
    rw c.in-BadCommand.is (does_refused c.args.store.now (refusal.BadCommand c.in-BadCommand.line) c.refuse.result (g.W.Disk.outside c.args.site.now) (g.W.Disk.outside c.refuse.new.site) c.refuse.ensures.why c.refuse.ensures.answers)

pub returns-in-BadTriple-clause-does : goal.returns-in-BadTriple-clause-does
returns-in-BadTriple-clause-does g c =
    rw c.in-BadTriple.is (does_refused c.args.store.now (refusal.BadTriple c.in-BadTriple.line) c.refuse-in-BadTriple.result (g.W.Disk.outside c.args.site.now) (g.W.Disk.outside c.refuse-in-BadTriple.new.site) c.refuse-in-BadTriple.ensures.why c.refuse-in-BadTriple.ensures.answers)

pub returns-in-TooLong-clause-does : goal.returns-in-TooLong-clause-does
returns-in-TooLong-clause-does g c =
    rw c.in-TooLong.is (does_refused c.args.store.now (refusal.TooLong c.in-TooLong.line) c.refuse-in-TooLong.result (g.W.Disk.outside c.args.site.now) (g.W.Disk.outside c.refuse-in-TooLong.new.site) c.refuse-in-TooLong.ensures.why c.refuse-in-TooLong.ensures.answers)

pub returns-in-Unfinished-clause-does : goal.returns-in-Unfinished-clause-does
returns-in-Unfinished-clause-does g c =
    rw c.in-Unfinished.is (does_refused c.args.store.now (refusal.Unfinished c.in-Unfinished.line) c.refuse-in-Unfinished.result (g.W.Disk.outside c.args.site.now) (g.W.Disk.outside c.refuse-in-Unfinished.new.site) c.refuse-in-Unfinished.ensures.why c.refuse-in-Unfinished.ensures.answers)

pub returns-in-Listing-clause-does : goal.returns-in-Listing-clause-does
returns-in-Listing-clause-does g c =
    let state = c.args.store.now in
    rw c.in-Listing.is (does_still state (step_of state (command.Listing c.in-Listing.at c.in-Listing.pattern)) c.list_at.result (g.W.Disk.outside c.args.site.now) (g.W.Disk.outside c.list_at.new.site)
    (asks_still state (find_ref state c.in-Listing.at) (λ k. listing_text (select state.history k c.in-Listing.pattern))) c.list_at.ensures.why c.list_at.ensures.answers)

pub returns-in-Has-clause-does : goal.returns-in-Has-clause-does
returns-in-Has-clause-does g c =
    let state = c.args.store.now in
    rw c.in-Has.is (does_still state (step_of state (command.Has c.in-Has.at c.in-Has.triple)) c.has_at.result (g.W.Disk.outside c.args.site.now) (g.W.Disk.outside c.has_at.new.site)
    (asks_still state (find_ref state c.in-Has.at) (λ k. has_text (contains (content_at state.history k) c.in-Has.triple))) (output_alone c.has_at.result c.has_at.ensures.why) c.has_at.ensures.answers)

pub returns-in-Count-clause-does : goal.returns-in-Count-clause-does
returns-in-Count-clause-does g c =
    let state = c.args.store.now in
    rw c.in-Count.is (does_still state (step_of state (command.Count c.in-Count.at c.in-Count.pattern)) c.count_at.result (g.W.Disk.outside c.args.site.now) (g.W.Disk.outside c.count_at.new.site)
    (asks_still state (find_ref state c.in-Count.at) (λ k. reply_text (reply.Count (length (select state.history k c.in-Count.pattern))))) c.count_at.ensures.why c.count_at.ensures.answers)

pub returns-in-Added-clause-does : goal.returns-in-Added-clause-does
returns-in-Added-clause-does g c =
    let state = c.args.store.now in
    rw c.in-Added.is (does_still state (step_of state (command.Added c.in-Added.layer)) c.added_at.result (g.W.Disk.outside c.args.site.now) (g.W.Disk.outside c.added_at.new.site)
    (asks_still state (find_layer state c.in-Added.layer) (λ k. listing_text (in_birth_order state.history k (additions_at state.history k)))) c.added_at.ensures.why c.added_at.ensures.answers)

pub returns-in-Removed-clause-does : goal.returns-in-Removed-clause-does
returns-in-Removed-clause-does g c =
    let state = c.args.store.now in
    rw c.in-Removed.is (does_still state (step_of state (command.Removed c.in-Removed.layer)) c.removed_at.result (g.W.Disk.outside c.args.site.now) (g.W.Disk.outside c.removed_at.new.site)
    (asks_still state (find_layer state c.in-Removed.layer) (λ k. listing_text (in_birth_order state.history k (removals_at state.history k)))) c.removed_at.ensures.why c.removed_at.ensures.answers)

pub returns-in-Layers-clause-does : goal.returns-in-Layers-clause-does
returns-in-Layers-clause-does g c =
    let state = c.args.store.now in
    rw c.in-Layers.is (does_still state (step_of state (command.Layers)) c.layers.result (g.W.Disk.outside c.args.site.now) (g.W.Disk.outside c.layers.new.site)
    (refl) (output_alone c.layers.result c.layers.ensures.why) c.layers.ensures.answers)

pub returns-in-Labels-clause-does : goal.returns-in-Labels-clause-does
returns-in-Labels-clause-does g c =
    let state = c.args.store.now in
    rw c.in-Labels.is (does_still state (step_of state (command.Labels)) c.labels.result (g.W.Disk.outside c.args.site.now) (g.W.Disk.outside c.labels.new.site)
    (refl) (output_alone c.labels.result c.labels.ensures.why) c.labels.ensures.answers)

pub returns-in-LabelGet-clause-does : goal.returns-in-LabelGet-clause-does
returns-in-LabelGet-clause-does g c =
    let state = c.args.store.now in
    rw c.in-LabelGet.is (does_still state (step_of state (command.LabelGet c.in-LabelGet.name)) c.label_get.result (g.W.Disk.outside c.args.site.now) (g.W.Disk.outside c.label_get.new.site)
    (asks_still state (find_label state c.in-LabelGet.name) (λ label. label_line c.in-LabelGet.name label)) (output_alone c.label_get.result c.label_get.ensures.why) c.label_get.ensures.answers)
