use Rattle.std.proofs.Common.{◌≡◌, ◌++◌, List, ℕ, Option, Some, None, sym, ◌∙◌, ap, subst}
use Rattle.std.specs.Prelude.{MatchOption, SomeIff}
use Rattle.std.proofs.lemmas.List.{append_cancel_right}
use Rattle.ts_model.specs.Names.{IsLabelName}
use Rattle.ts_replace.proofs.folder.label_before.Goals as goal

by_front : (r : Option (List ℕ)) (name front ending : List ℕ) → name ≡ front ++ ending → SomeIff r (IsLabelName front) front
    → MatchOption r ((label : List ℕ) → IsLabelName label → name ≡ label ++ ending → ⊥) (λ label. IsLabelName label × (name ≡ label ++ ending))
by_front None name front ending is not_name = λ label is_name same.
    not_name (subst IsLabelName (append_cancel_right label front ending (sym same ∙ is)) is_name)
by_front (Some label) name front ending is (is_name, same) =
    (subst IsLabelName (sym same) is_name, is ∙ ap (λ f. f ++ ending) (sym same))

pub returns : goal.returns
returns c = by_front c.of.result _ _ _ c.in_ok-name_before.ensures c.of.ensures
