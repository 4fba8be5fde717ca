-- The bits of a level, pushed one after another.
use Rattle.std.proofs.Common.{◌≡◌, ℕ, ◌+◌, ◌/◌, ◌^◌, ◌<◌, Bool, eqb, bit_and, Option, Some, List, [], ◌∷◌, ◌++◌, length, map, take, get_or, sym, ap, subst, ◌∙◌}
use Rattle.std.proofs.lemmas.Nat.Bits.{shr_and_one}
use Rattle.std.proofs.lemmas.List.{take_more, append_assoc, map-append}
use Rattle.std.specs.Int.{bit_at}
use Rattle.std.specs.Option.{IsSomeAnd}

-- one bit more
pub pushed : (xs : List ℕ) (i shift : ℕ) (old : List Bool) (before after : Option (List Bool)) → i < length xs
    → before ≡ Some (old ++ map (λ x. eqb (bit_at x shift) 1) (take i xs))
    → IsSomeAnd before (λ bits. after ≡ Some (bits ++ eqb (bit_and (get_or xs i 0 / 2 ^ shift) 1) 1 ∷ []))
    → after ≡ Some (old ++ map (λ x. eqb (bit_at x shift) 1) (take (i + 1) xs))
pushed xs i shift old before after within is step =
    let f : ℕ → Bool = λ x. eqb (bit_at x shift) 1 in
    let here : after ≡ Some ((old ++ map (λ x. eqb (bit_at x shift) 1) (take i xs)) ++ eqb (bit_and (get_or xs i 0 / 2 ^ shift) 1) 1 ∷ []) =
    subst (λ o. IsSomeAnd o (λ bits. after ≡ Some (bits ++ eqb (bit_and (get_or xs i 0 / 2 ^ shift) 1) 1 ∷ []))) is step in
    let bit : eqb (bit_and (get_or xs i 0 / 2 ^ shift) 1) 1 ≡ eqb (bit_at (get_or xs i 0) shift) 1 = ap (λ (n : ℕ). eqb n 1) (shr_and_one (get_or xs i 0) shift) in
    here ∙ ap (λ b. Some ((old ++ map (λ x. eqb (bit_at x shift) 1) (take i xs)) ++ b ∷ [])) bit
    ∙ ap (λ ys. Some ys) (append_assoc old (map (λ x. eqb (bit_at x shift) 1) (take i xs)) (eqb (bit_at (get_or xs i 0) shift) 1 ∷ [])
    ∙ ap (λ ys. old ++ ys) (sym (ap (map (λ x. eqb (bit_at x shift) 1)) (take_more xs i 0 within) ∙ map-append (λ x. eqb (bit_at x shift) 1) (take i xs) (get_or xs i 0 ∷ []))))
