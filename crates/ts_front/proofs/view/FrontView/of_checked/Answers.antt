use Rattle.std.proofs.Common.{length, ap, arith}
use Rattle.ts_front.specs.Dictionary.{block_starts}
use Rattle.ts_front.proofs.SaysLemmas.{starts_said, bytes_long, Held, body_of_says, held, one_list_read}
use Rattle.ts_front.proofs.view.FrontView.of_checked.Goals as goal

pub of_checked-starts-requires : goal.of_checked-starts-requires
of_checked-starts-requires c = (block_starts c.requires.0, starts_said c.args.starts.now c.args.bytes.now c.requires.0 c.requires.1)

pub invariant_of-result : goal.invariant_of-result
invariant_of-result c =
    let texts = c.requires.0 in
    let says = c.requires.1 in
    let starts = c.args.starts.now in
    let bytes = c.args.bytes.now in
    let body = c.in-Some.body.now in
    let count = c.in-Some.count in
    let numbers = c.of_checked-starts.result in
    let found = body_of_says starts bytes numbers body count texts says c.of_checked-starts.ensures.says c.in-Some.ensures.fits c.in-Some.ensures.some in
    let h : Held starts bytes numbers body count = held starts bytes numbers body count texts says found.0 found.1 in
    (h.counted, h.is)

pub returns-clause-says : goal.returns-clause-says
returns-clause-says c =
    let texts = c.requires.0 in
    let says = c.requires.1 in
    let starts = c.args.starts.now in
    let bytes = c.args.bytes.now in
    let body = c.in-Some.body.now in
    let count = c.in-Some.count in
    let numbers = c.of_checked-starts.result in
    let found = body_of_says starts bytes numbers body count texts says c.of_checked-starts.ensures.says c.in-Some.ensures.fits c.in-Some.ensures.some in
    let h : Held starts bytes numbers body count = held starts bytes numbers body count texts says found.0 found.1 in
    h.says

pub returns-clause-only : goal.returns-clause-only
returns-clause-only c = λ others says.
    one_list_read c.args.starts.now c.args.bytes.now c.in-Some.body.now c.in-Some.count others says c.in-Some.ensures.fits c.in-Some.ensures.some

pub unreachable-requires : goal.unreachable-requires
unreachable-requires c = omega (arith, c.in-None.ensures.none, ap length c.requires.1.bytes_spelled, bytes_long c.requires.0)
