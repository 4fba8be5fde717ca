use Rattle.std.proofs.Common.{◌≡◌, rules, sym, subst}
use Rattle.ts_chain.specs.declared.stream.Merge.{Merge}
use Rattle.ts_chain.proofs.StreamLemmas.{IsRisingMerge, moved-merge}
use Rattle.ts_chain.proofs.stream.Stream.of_both.Goals as goal

pub returns-clause-rises : goal.returns-clause-rises
returns-clause-rises c =
    let e = c.advance-merge.ensures in
    let merge : Merge = record { head = c.advance-merge.result; newer = c.advance-merge.new.self.newer; older = c.advance-merge.new.self.older } in
    let is : c.in_ok-new.field-0.value ≡ merge = search rules in
    subst IsRisingMerge (sym is) (moved-merge c.args.newer c.args.older merge e.left e.none e.newer e.older)
