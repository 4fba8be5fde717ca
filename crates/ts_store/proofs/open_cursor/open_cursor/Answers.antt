use Rattle.std.proofs.Common.{◌∙◌, ap, sym}
use Rattle.ts_model.specs.Listing.{select}
use Rattle.ts_store.specs.Fetches.{opening, opens}
use Rattle.ts_store.specs.Resolve.{find_ref}
use Rattle.ts_store.specs.State.{State}
use Rattle.ts_store.specs.Stepped.{at_found}
use Rattle.ts_store.proofs.AnswerLaws.{does_found, does_missing, does_refused}
use Rattle.ts_store.proofs.open_cursor.open_cursor.Goals as goal

pub returns-in-Err-clause-does : goal.returns-in-Err-clause-does
returns-in-Err-clause-does g c =
    let state = c.args.store.now in
    let name = c.args.name.now in
    let old = g.W.Disk.outside c.args.site.now in
    let new = g.W.Disk.outside c.refuse.new.site in
    does_missing c.refuse.result old new state (find_ref state c.args.at.now) (λ k. at_found state (opening state.cursors name) (λ _. opens state name (select state.history k c.args.pattern.now))) state c.in-Err.refusal
    (sym c.find_ref.ensures.found ∙ c.in-Err.is) (does_refused state c.in-Err.refusal c.refuse.result old new c.refuse.ensures.why c.refuse.ensures.answers)

pub returns-in-Err-opening-clause-does : goal.returns-in-Err-opening-clause-does
returns-in-Err-opening-clause-does g c =
    let state = c.args.store.now in
    let name = c.args.name.now in
    let given = c.in-Err-opening.refusal in
    let k = c.in-Ok.number in
    let old = g.W.Disk.outside c.args.site.now in
    let new = g.W.Disk.outside c.refuse-in-Err-opening.new.site in
    let result = c.refuse-in-Err-opening.result in
    does_found result old new state (find_ref state c.args.at.now) (λ k. at_found state (opening state.cursors name) (λ _. opens state name (select state.history k c.args.pattern.now))) state k
    (sym c.find_ref.ensures.found ∙ c.in-Ok.is)
    (does_missing result old new state (opening state.cursors name) (λ _. opens state name (select state.history k c.args.pattern.now)) state given
    (ap (λ (s : State). opening s.cursors name) (sym c.store.view_is) ∙ sym c.opening.ensures ∙ c.in-Err-opening.is)
    (does_refused state given result old new c.refuse-in-Err-opening.ensures.why c.refuse-in-Err-opening.ensures.answers))
