use Rattle.std.specs.Prelude.{◌≡◌, [], chars}
use Rattle.std.proofs.Common.{sym, ap, ◌∙◌}
use Rattle.std.proofs.lemmas.Str.{chars-nil}
use Rattle.ts_model.proofs.LabelFronts.{label_longest, no_label, no_label_empty}
use Rattle.ts_model.proofs.label.after_label.Goals as goal

pub returns-in_err-first : goal.returns-in_err-first
returns-in_err-first c =
    let empty : chars c.args.text.now ≡ [] = ap chars c.in_err-first.ensures.none ∙ chars-nil in
    rw c.from_residual.ensures (λ label rest is same. no_label_empty label rest is (sym empty ∙ same))

pub returns-then-starts_label : goal.returns-then-starts_label
returns-then-starts_label c =
    label_longest _ _ _ _ (sym c.starts_label.ensures ∙ c.if-starts_label.true) c.in_ok-first.ensures.some c.after_label_rest.ensures

pub returns-else-starts_label : goal.returns-else-starts_label
returns-else-starts_label c = λ label rest is same.
    no_label _ _ label rest (sym c.starts_label.ensures ∙ c.if-starts_label.false) is (sym c.in_ok-first.ensures.some ∙ same)
