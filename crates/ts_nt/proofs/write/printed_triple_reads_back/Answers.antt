use Rattle.ts_nt.proofs.PrintLaws.{printed_line, printed_ends, printed_reads_as}
use Rattle.ts_nt.proofs.write.printed_triple_reads_back.Goals as goal

pub returns : goal.returns
returns c = λ triple is_triple.
    let first = is_triple.1 in
    let second = is_triple.2 in
    let third = is_triple.3 in (
      printed_line triple,
      printed_ends triple,
      printed_reads_as triple is_triple.0 (first.0, second.0, third.0) (first.1, second.1, third.1),
    )
