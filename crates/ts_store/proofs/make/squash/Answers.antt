use Rattle.std.proofs.Common.{◌∙◌, sym}
use Rattle.ts_store.specs.Makes.{squashed_layer, makes}
use Rattle.ts_store.specs.Resolve.{find_ref}
use Rattle.ts_store.proofs.AnswerLaws.{does_missing, does_refused}
use Rattle.ts_store.proofs.make.squash.Goals as goal

pub returns-in-Err-clause-does : goal.returns-in-Err-clause-does
returns-in-Err-clause-does g c =
    let state = c.args.store.now in
    let old = g.W.Disk.outside c.args.site.now in
    let new = g.W.Disk.outside c.refuse.new.site in
    does_missing c.refuse.result old new state (find_ref state c.args.at.now) (λ k. makes state (squashed_layer state.history k)) state c.in-Err.refusal
    (sym c.find_ref.ensures.found ∙ c.in-Err.is) (does_refused state c.in-Err.refusal c.refuse.result old new c.refuse.ensures.why c.refuse.ensures.answers)
