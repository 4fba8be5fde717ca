use Rattle.std.proofs.Common.{◌≡◌, [], None, is_some, sym, ap, ◌∙◌, true≢false}
use Rattle.std.proofs.lemmas.List.{nil_from_length}
use Rattle.ts_plain.proofs.CutLaws.{length_zero}
use Rattle.ts_plain.proofs.read.fit.Goals as goal
use Rattle.ts_plain.proofs.read.fit.Goals.{then-is_some, else-is_some}

pub returns-then-is_empty : goal.returns-then-is_empty
returns-then-is_empty c =
    let base : c.args.parent ≡ None → c.args.removals.now ≡ [] = elim c.if-is_some.branch [
      | then-is_some w ↦ λ none. absurd (true≢false (sym (sym c.is_some.ensures ∙ sym w.value-is ∙ c.if-is_empty.true) ∙ ap is_some none))
      | else-is_some w ↦ λ none. nil_from_length c.args.removals.now (length_zero _ (sym w.is_empty.ensures ∙ sym w.value-is ∙ c.if-is_empty.true))
    ] in
    (λ h. (c.are_apart.ensures.0 h, base), λ h. c.are_apart.ensures.1 h.0)
