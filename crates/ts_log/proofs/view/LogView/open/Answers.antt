use Rattle.std.proofs.Common.{length, sym, arith}
use Rattle.ts_log.proofs.SaysLemmas.{one_prefix_says, says_as_prefix}
use Rattle.ts_log.proofs.view.LogView.open.Goals as goal

pub returns-in_err-view-clause-none : goal.returns-in_err-view-clause-none
returns-in_err-view-clause-none c = rw c.from_residual.ensures (λ numbers says.
    c.in_err-view.ensures.none (length c.args.bytes.now) numbers (says_as_prefix c.args.bytes.now numbers says))

pub returns-else-size-bytes-clause-none : goal.returns-else-size-bytes-clause-none
returns-else-size-bytes-clause-none c = λ numbers says.
    let found = c.in_ok-view.ensures.some in
    c.if-size-bytes.false
    (one_prefix_says c.in_ok-view.size (length c.args.bytes.now) c.args.bytes.now c.in_ok-view.view numbers found.0 (omega arith) found.1 (says_as_prefix c.args.bytes.now numbers says)).0

pub returns-then-size-bytes-clause-only : goal.returns-then-size-bytes-clause-only
returns-then-size-bytes-clause-only c = λ others says.
    let found = c.in_ok-view.ensures.some in
    sym (one_prefix_says c.in_ok-view.size (length c.args.bytes.now) c.args.bytes.now c.in_ok-view.view others found.0 (omega arith) found.1 (says_as_prefix c.args.bytes.now others says)).1
