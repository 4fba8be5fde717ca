use Rattle.std.proofs.Common.{◌++◌, ◌∙◌, ap, append_assoc}
use Rattle.std.proofs.lemmas.Result.{on_ok_weaker}
use Rattle.ts_log.specs.LogArray.{log_array_of}
use Rattle.ts_idmap.specs.IdMap.{map_of}
use Rattle.ts_idmap.proofs.write.write_idmap.Goals as goal

pub returns-clause-written : goal.returns-clause-written
unfolding map_of
returns-clause-written c =
    let old = c.args.into.now.items in
    let first = log_array_of c.args.outer.now in
    on_ok_weaker c.write_log_array-2.result (λ e.
    e
    ∙ ap (λ l. l ++ log_array_of c.deref.result.now) c.in_ok-write_log_array.ensures.written
    ∙ ap (λ l. (old ++ first) ++ log_array_of l) (c.deref.ensures.value ∙ c.in_ok-inverse.ensures)
    ∙ append_assoc old first _)
    c.write_log_array-2.ensures.written
