use Rattle.std.proofs.Common.{[], ◌∷◌, ◌∙◌}
use Rattle.ts_plain.proofs.CutLaws.{if_none_weaker}
use Rattle.ts_plain.proofs.HeadLaws.{behind_number, behind_front}
use Rattle.ts_plain.proofs.head.read_head.Goals as goal

pub returns-in_err-parented-clause-none : goal.returns-in_err-parented-clause-none
returns-in_err-parented-clause-none c =
    rw c.from_residual-in_err-parented.ensures (λ parent rest numbered is e.
    c.in_err-parented.ensures.none _
    (behind_number c.args.number parent rest c.args.bytes.now c.in_ok-named.named.now c.in_ok-spaced.spaced.now c.as_slice.result.now (c.as_slice.ensures ∙ c.layer_text.ensures) c.in_ok-named.ensures.some c.in_ok-spaced.ensures.some e))

pub returns-clause-none : goal.returns-clause-none
returns-clause-none c =
    if_none_weaker _ _ (λ none parent rest numbered is e.
    none parent rest is
    (behind_front (0x20 ∷ []) _ _ c.in_ok-spaced.spaced.now c.in_ok-parented.ensures.some
    (behind_number c.args.number parent rest c.args.bytes.now c.in_ok-named.named.now c.in_ok-spaced.spaced.now c.as_slice.result.now (c.as_slice.ensures ∙ c.layer_text.ensures) c.in_ok-named.ensures.some c.in_ok-spaced.ensures.some e)))
    c.read_parent.result c.read_parent.ensures.none
