use Rattle.std.proofs.Common.{◌≤◌, ◌^◌, ap, subst, ◌∙◌}
use Rattle.ts_model.specs.History.{History}
use Rattle.ts_plain.specs.History.{history_of}
use Rattle.ts_store.specs.Makes.{makes, next_number, squashed_layer}
use Rattle.ts_store.specs.State.{State}
use Rattle.ts_store.proofs.PublishLaws.{does_full, does_nothing, makes_full, makes_tells}
use Rattle.ts_store.proofs.make.make_squashed.Goals as goal

pub returns-in-None-clause-does : goal.returns-in-None-clause-does
returns-in-None-clause-does g c =
    let state = c.args.store.now in
    let layer = squashed_layer state.history c.args.from in
    let over = subst (λ (h : History). 2 ^ 32 ≤ next_number h) (ap history_of c.as_slice.ensures.value ∙ ap (λ (s : State). s.history) c.store.view_is) c.in-None.ensures in
    does_full state (makes state layer) c.refuse.result (g.W.Disk.outside c.args.site.now) (g.W.Disk.outside c.refuse.new.site) (makes_full state layer over)
    c.refuse.ensures.why c.refuse.ensures.answers

pub returns-in-Err-clause-does : goal.returns-in-Err-clause-does
returns-in-Err-clause-does g c =
    let state = c.args.store.now in
    let layer = squashed_layer state.history c.args.from in
    does_nothing state (makes state layer) state (g.W.Disk.outside c.args.site.now) (makes_tells state layer)

pub invariant_of-store : goal.invariant_of-store
invariant_of-store g c = c.make.ensures.sound c.store.inside.labels.labels c.store.invariant
