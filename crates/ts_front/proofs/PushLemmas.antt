use Rattle.std.proofs.Common.{◌≡◌, ℕ, ◌+◌, ◌-◌, ◌<◌, List, [], ◌∷◌, ◌++◌, length, sym, ◌∙◌, ap, subst, arith}
use Rattle.std.specs.Prelude.{Option, Some, None, IfSome, IsSomeAnd}
use Rattle.std.specs.Cmp.Lexicographic.{slice_cmp}
use Rattle.std.specs.Ordering.{nat_cmp}
use Rattle.std.specs.declared.cmp.Ordering.TheVariants.{Less}
use Rattle.std.proofs.lemmas.List.{length_push}
use Rattle.std.proofs.lemmas.Option.{IfSome_then}
use Rattle.ts_front.specs.Shared.{text_at}
use Rattle.ts_front.specs.Dictionary.{IsAfterLast}
use Rattle.ts_front.proofs.EntriesLemmas.{text_last}

-- a list that is empty or has this text at its end
pub record EndsWith (last : List ℕ) (texts : List (List ℕ)) : Type 0 where
  pub last_is : 0 < length texts → text_at texts (length texts - 1) ≡ last

pub ends_none : (last : List ℕ) → EndsWith last []
ends_none last = record { last_is = (λ some. absurd (omega arith)) }

-- a greater text may be pushed
pub may_push : (builder : Option (List (List ℕ))) (last text : List ℕ) → IfSome builder (EndsWith last) → slice_cmp nat_cmp last text ≡ Less
    → IfSome builder (λ texts. IsAfterLast texts text)
may_push builder last text h less =
    IfSome_then builder h (λ texts e. λ some. ap (λ t. slice_cmp nat_cmp t text) (e.last_is some) ∙ less)

-- and then stands at the end
pub after_push : (old new : Option (List (List ℕ))) (last text : List ℕ) → IfSome old (EndsWith last) → slice_cmp nat_cmp last text ≡ Less
    → IsSomeAnd old (λ texts. new ≡ Some (texts ++ text ∷ [])) → IfSome new (EndsWith text)
after_push None new last text h less p = absurd p
after_push (Some texts) new last text h less p =
    let many : length (texts ++ text ∷ []) ≡ length texts + 1 = length_push texts text in
    subst (λ o. IfSome o (EndsWith text)) (sym p) (record {
      last_is = (λ _. text_last texts text (length (texts ++ text ∷ []) - 1) (omega arith));
    })
