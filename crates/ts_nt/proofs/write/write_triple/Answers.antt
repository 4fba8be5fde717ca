use Rattle.std.proofs.Common.{◌≡◌, ◌++◌, OnOk, arith}
use Rattle.std.proofs.lemmas.Grind.{common_steps}
use Rattle.std.proofs.lemmas.Result.{on_ok_weaker}
use Rattle.ts_nt.specs.TripleLine.{triple_line}
use Rattle.ts_nt.proofs.PrintLaws.{term_of_bytes, reads_back}
use Rattle.ts_nt.proofs.write.write_triple.Goals as goal

pub returns-clause-ok : goal.returns-clause-ok
returns-clause-ok c = grind (arith, common_steps)

pub returns-clause-reads : goal.returns-clause-reads
returns-clause-reads c =
    let written : OnOk c.extend_from_slice-4.result (c.extend_from_slice-4.new.self.items ≡ c.args.into.now.items ++ triple_line c.args.triple.now) = returns-clause-ok c in
    let first = term_of_bytes _ _ _ c.subject.ensures.subject c.spelling.ensures.spelling c.spelling.ensures.canonical c.spelling.ensures.within in
    let second = term_of_bytes _ _ _ c.predicate.ensures.predicate c.spelling-2.ensures.spelling c.spelling-2.ensures.canonical c.spelling-2.ensures.within in
    let third = term_of_bytes _ _ _ c.object.ensures.object c.spelling-3.ensures.spelling c.spelling-3.ensures.canonical c.spelling-3.ensures.within in
    on_ok_weaker c.extend_from_slice-4.result (reads_back c.args.triple.now c.args.into.now.items c.extend_from_slice-4.new.self.items c.subject.ensures.is_triple.0 first second third) written
