use Rattle.std.proofs.Common.{sym, ◌∙◌, arith}
use Rattle.ts_plain.proofs.HeadLaws.{layer_front, layer_is_long}
use Rattle.ts_plain.proofs.head.read_layer.Goals as goal

pub returns-then-bytes-lt8-clause-none : goal.returns-then-bytes-lt8-clause-none
returns-then-bytes-lt8-clause-none c = λ layer rest small e. omega (arith, layer_is_long layer rest c.args.bytes.now e)

pub returns-in_err-layer-clause-none : goal.returns-in_err-layer-clause-none
returns-in_err-layer-clause-none c =
    rw c.from_residual.ensures (λ layer rest small e.
    c.in_err-layer.ensures.none layer small (sym (layer_front layer rest c.args.bytes.now e).0 ∙ sym c.split_at.ensures.front))

pub returns-in_err-rest-clause-none : goal.returns-in_err-rest-clause-none
returns-in_err-rest-clause-none c =
    rw c.from_residual-in_err-rest.ensures (λ layer rest small e.
    c.in_err-rest.ensures.none rest (c.split_at.ensures.back ∙ (layer_front layer rest c.args.bytes.now e).1))
