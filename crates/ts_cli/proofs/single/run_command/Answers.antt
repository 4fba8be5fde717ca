use Rattle.std.proofs.Common.{◌≡◌, map, string_bytes, refl, subst}
use Rattle.ts_cli.specs.Asked.{asking}
use Rattle.ts_cli.specs.Change.{change_of}
use Rattle.ts_cli.specs.Outcomes.{ended_outcome}
use Rattle.ts_cli.proofs.SingleLaws.{awaits_none, cause_answered, cause_first, cause_stopped, ends_answered, ends_first, ends_stopped, read_no_stop, same_stop}
use Rattle.ts_cli.proofs.StepsLemmas.{no_change}
use Rattle.ts_cli.proofs.single.run_command.Goals as goal

pub returns-in-Err-clause-ends : goal.returns-in-Err-clause-ends
returns-in-Err-clause-ends g c = λ told.
    let a = asking (map string_bytes c.args.words.now) (g.S.Source.tells c.read_command.new.input) (g.S.Source.left c.args.input.now) in
    let o = g.W.Disk.outside c.args.site.now in
    ends_first (change_of o o) a (g.S.Source.left c.read_command.new.input) c.stopped.result c.in-Err.stop c.stopped.ensures c.requires c.in-Err.ensures.why (no_change o) refl

pub returns-in-Err-clause-causes : goal.returns-in-Err-clause-causes
returns-in-Err-clause-causes g c =
    let a = asking (map string_bytes c.args.words.now) (g.S.Source.tells c.read_command.new.input) (g.S.Source.left c.args.input.now) in
    cause_first a c.requires c.in-Err.stop c.in-Err.ensures.why (g.W.Disk.outside c.args.site.now) c.stopped.result c.stopped.ensures _ _ _
    c.in-Err.ensures.usage (λ none. same_stop c.in-Err.stop (c.in-Err.ensures.no_command none)) c.in-Err.ensures.reads c.in-Err.ensures.limit c.in-Err.ensures.counts

pub returns-in-Err-clause-untouched : goal.returns-in-Err-clause-untouched
returns-in-Err-clause-untouched g c = λ none. (refl, c.in-Err.ensures.untouched (awaits_none (map string_bytes c.args.words.now) none))

pub returns-in-Err-step-clause-ends : goal.returns-in-Err-step-clause-ends
returns-in-Err-step-clause-ends g c = λ told.
    let a = asking (map string_bytes c.args.words.now) (g.S.Source.tells c.read_command.new.input) (g.S.Source.left c.args.input.now) in
    let s = change_of (g.W.Disk.outside c.args.site.now) (g.W.Disk.outside c.step.new.site) in
    ends_stopped s a (g.S.Source.left c.read_command.new.input) c.in-Ok.command c.in-Ok.ensures.asks c.stopped-in-Err-step.result c.in-Err-step.stop c.stopped-in-Err-step.ensures told (c.in-Err-step.ensures.ends told)

pub returns-in-Err-step-clause-causes : goal.returns-in-Err-step-clause-causes
returns-in-Err-step-clause-causes g c =
    let a = asking (map string_bytes c.args.words.now) (g.S.Source.tells c.read_command.new.input) (g.S.Source.left c.args.input.now) in
    let s = change_of (g.W.Disk.outside c.args.site.now) (g.W.Disk.outside c.step.new.site) in
    cause_stopped s a c.requires (λ none. read_no_stop c.in-Ok.command (c.in-Ok.ensures.no_command none)) _ _ _ c.in-Ok.ensures.counts c.in-Ok.ensures.short
    c.stopped-in-Err-step.result c.in-Err-step.stop c.stopped-in-Err-step.ensures c.in-Err-step.ensures.why
    c.in-Err-step.ensures.disk c.in-Err-step.ensures.output
    (λ told. ends_stopped s a (g.S.Source.left c.read_command.new.input) c.in-Ok.command c.in-Ok.ensures.asks c.stopped-in-Err-step.result c.in-Err-step.stop c.stopped-in-Err-step.ensures told (c.in-Err-step.ensures.ends told))
    (λ told. c.in-Err-step.ensures.damaged told)

pub returns-clause-ends : goal.returns-clause-ends
returns-clause-ends g c = λ told.
    let a = asking (map string_bytes c.args.words.now) (g.S.Source.tells c.read_command.new.input) (g.S.Source.left c.args.input.now) in
    let s = change_of (g.W.Disk.outside c.args.site.now) (g.W.Disk.outside c.step.new.site) in
    ends_answered s a (g.S.Source.left c.read_command.new.input) c.in-Ok.command c.in-Ok.ensures.asks c.ended.result c.in-Ok-step.kind (subst (λ b. c.ended.result ≡ ended_outcome 1 b) c.is_refused.ensures c.ended.ensures) (c.in-Ok-step.ensures.ends told)

pub returns-clause-causes : goal.returns-clause-causes
returns-clause-causes g c =
    let a = asking (map string_bytes c.args.words.now) (g.S.Source.tells c.read_command.new.input) (g.S.Source.left c.args.input.now) in
    let s = change_of (g.W.Disk.outside c.args.site.now) (g.W.Disk.outside c.step.new.site) in
    cause_answered s a c.requires (λ none. read_no_stop c.in-Ok.command (c.in-Ok.ensures.no_command none)) _ _ _ c.in-Ok.ensures.counts c.in-Ok.ensures.short
    c.ended.result c.is_refused.result c.ended.ensures
    c.in-Ok-step.ensures.disk c.in-Ok-step.ensures.output
    (λ told. ends_answered s a (g.S.Source.left c.read_command.new.input) c.in-Ok.command c.in-Ok.ensures.asks c.ended.result c.in-Ok-step.kind (subst (λ b. c.ended.result ≡ ended_outcome 1 b) c.is_refused.ensures c.ended.ensures) (c.in-Ok-step.ensures.ends told))
