-- As many numbers, with each of some different ones among them, are those in another order.
use Rattle.std.proofs.Common.{◌≡◌, inl, inr, ℕ, false, List, [], ◌∷◌, length, Contains, refl, sym, ◌∙◌, subst, true≢false, arith}
use Rattle.std.specs.List.{IsDistinct, remove}
use Rattle.std.specs.List.Sorted.{IsPermutation, IsStrictlySortedBy}
use Rattle.std.specs.Ordering.{nat_cmp}
use Rattle.std.proofs.lemmas.List.Edits.{length-remove}
use Rattle.std.proofs.lemmas.List.Sorted.{Contains-permutation, IsPermutation-cons, IsPermutation-refl, IsPermutation-remove, IsPermutation-sym, IsPermutation-trans}
use Rattle.std.proofs.lemmas.Map.Keys.{IsDistinct-from_sorted, IsDistinct-head, IsDistinct-tail}
use Rattle.ts_part.proofs.Ranks.{each_at}
use Rattle.ts_chain.proofs.Elements.{contains_first, contains_rest}
use Rattle.ts_squash.specs.NewNumbers.{AreSameNumbers}
use Rattle.ts_squash.proofs.TermLists.{at_place, same, same_itself}

-- a number behind the first differs from it
other : (x : ℕ) (xs : List ℕ) → IsDistinct same (x ∷ xs) → Contains xs x → ⊥
other x xs apart there =
    let differ : same x x ≡ false = each_at (λ y. same x y ≡ false) xs there.0 x (IsDistinct-head same x xs apart) (at_place xs x there) in
    true≢false (sym (same_itself x) ∙ differ)

moved : (xs ys : List ℕ) → IsDistinct same xs → ((id : ℕ) → Contains xs id → Contains ys id) → length ys ≡ length xs → IsPermutation xs ys
moved [] [] apart has counted = IsPermutation-refl []
moved [] (y ∷ ys) apart has counted = absurd (omega arith)
moved (x ∷ xs) ys apart has counted =
    let place : Contains ys x = has x (0, omega arith, refl) in
    let rest : List ℕ = remove ys place.0 in
    let out : IsPermutation ys (x ∷ rest) = IsPermutation-remove ys place.0 x place.1 (sym place.2) in
    let fewer = length-remove ys place.0 place.1 in
    let others : IsPermutation xs rest = moved xs rest (IsDistinct-tail same x xs apart) (λ id there.
    elim (contains_first x rest id (Contains-permutation ys (x ∷ rest) id out (has id (contains_rest x xs id there)))) as (λ _. Contains rest id) [
      | inl here ↦ absurd (other x xs apart (subst (Contains xs) (sym here) there))
      | inr later ↦ later
    ]) (omega arith) in
    IsPermutation-trans (x ∷ xs) (x ∷ rest) ys (IsPermutation-cons x xs rest others) (IsPermutation-sym ys (x ∷ rest) out)

pub moved_same : (xs ys : List ℕ) → IsStrictlySortedBy nat_cmp xs → AreSameNumbers xs ys → IsPermutation xs ys
moved_same xs ys rise are = moved xs ys (IsDistinct-from_sorted nat_cmp xs rise) are.has are.counted
