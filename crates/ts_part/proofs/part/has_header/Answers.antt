use Rattle.std.proofs.Common.{arith}
use Rattle.ts_plane.proofs.RowSteps.{refuted}
use Rattle.ts_part.proofs.BeginLemmas.{begun_long}
use Rattle.ts_part.proofs.part.has_header.Goals as goal
use Rattle.ts_part.proofs.part.has_header.Goals.{then-file-lt-HEADER-via-then-file-lt-HEADER, then-file-lt-HEADER-via-else-file-lt-HEADER+then-header-file}

pub returns-then-file-lt-HEADER : goal.returns-then-file-lt-HEADER
returns-then-file-lt-HEADER c = refuted (λ headed. elim c.then-file-lt-HEADER.branch [
  | then-file-lt-HEADER-via-then-file-lt-HEADER w ↦ omega (arith, begun_long c.args.file.now c.args.header.now headed)
  | then-file-lt-HEADER-via-else-file-lt-HEADER+then-header-file w ↦ omega (arith, headed.long)
])
