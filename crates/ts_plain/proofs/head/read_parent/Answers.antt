use Rattle.std.proofs.Common.{◌≡◌, ◌≤◌, ◌⊎◌, inl, inr, arith}
use Rattle.ts_plain.proofs.HeadLaws.{no_parent}
use Rattle.ts_plain.proofs.head.read_parent.Goals as goal
use Rattle.ts_plain.proofs.head.read_parent.Goals.{then-named-eq0-via-then-named-eq0, then-named-eq0-via-else-named-eq0+then-named-number}

pub returns-then-named-eq0-clause-none : goal.returns-then-named-eq0-clause-none
returns-then-named-eq0-clause-none c =
    let named = c.in_ok-named.named in
    let some = c.in_ok-named.ensures.some in
    let other : (named.layer ≡ 0) ⊎ (c.args.number ≤ named.layer) = elim c.then-named-eq0.branch [
      | then-named-eq0-via-then-named-eq0 w ↦ inl (omega arith)
      | then-named-eq0-via-else-named-eq0+then-named-number w ↦ inr (omega arith)
    ] in
    no_parent c.args.number named.layer named.rest.now c.args.bytes.now (omega arith) some.0 some.1 c.in_default.ensures.none other
