-- Numbers that are seen one after another, each marked once.
use Rattle.std.proofs.Common.{◌≡◌, ◌≢◌, ℕ, ◌+◌, ◌<◌, ◌≤◌, Bool, true, false, List, length, get_or, set, replicate, sym, ◌∙◌, ap, subst, arith, inl, inr}
use Rattle.std.proofs.lemmas.Bool.{cases_eq, cases_lt, false≢true}
use Rattle.std.proofs.lemmas.List.{get_or_default, get_or-replicate, get_or-set_other, get_or-set_same, length-replicate, length-set}
use Rattle.ts_idmap.specs.Permutation.{Permutes}

-- the first n numbers are below their count and differ, and just they are marked
pub record HasSeen (numbers : List ℕ) (seen : List Bool) (n : ℕ) : Type 0 where
  pub long : length seen ≡ length numbers
  pub within : (k : ℕ) → k < n → get_or numbers k 0 < length numbers
  pub apart : (i j : ℕ) → i < j → j < n → get_or numbers i 0 ≢ get_or numbers j 0
  pub marked : (k : ℕ) → k < n → get_or seen (get_or numbers k 0) false ≡ true
  pub only : (x : ℕ) → x < length numbers → get_or seen x false ≡ true → (k : ℕ) × (k < n) × (get_or numbers k 0 ≡ x)

pub seen_none : (numbers : List ℕ) → HasSeen numbers (replicate (length numbers) false) 0
seen_none numbers = record {
  long = length-replicate (length numbers) false;
  within = λ k h. absurd (omega arith);
  apart = λ i j h k. absurd (omega arith);
  marked = λ k h. absurd (omega arith);
  only = λ x h e. absurd (false≢true (sym (get_or-replicate (length numbers) x false false h) ∙ e));
}

seen_other : (seen : List Bool) (x y : ℕ) → y ≢ x → get_or (set seen x true) y false ≡ get_or seen y false
seen_other seen x y other = get_or-set_other seen x y true false other

pub seen_more : (numbers : List ℕ) (seen : List Bool) (n : ℕ) → HasSeen numbers seen n → n < length numbers → get_or numbers n 0 < length numbers
    → get_or seen (get_or numbers n 0) false ≡ false → HasSeen numbers (set seen (get_or numbers n 0) true) (n + 1)
seen_more numbers seen n has low below new =
    let x : ℕ = get_or numbers n 0 in
    let here : get_or (set seen x true) x false ≡ true = get_or-set_same seen x true false (omega (arith, has.long)) in
    let differs : (k : ℕ) → k < n → get_or numbers k 0 ≢ x = λ k h e. false≢true (sym new ∙ ap (λ y. get_or seen y false) (sym e) ∙ has.marked k h) in
    record {
      long = length-set seen x true ∙ has.long;
      within = (λ k h. elim (cases_lt k n) [
        | inl before ↦ has.within k before
        | inr last ↦ (let at : n ≡ k = omega arith in subst (λ m. get_or numbers m 0 < length numbers) at below)
      ]);
      apart = (λ i j h k. elim (cases_lt j n) [
        | inl before ↦ has.apart i j h before
        | inr last ↦ (let at : n ≡ j = omega arith in subst (λ m. get_or numbers i 0 ≢ get_or numbers m 0) at (differs i (omega arith)))
      ]);
      marked = (λ k h. elim (cases_lt k n) [
        | inl before ↦ seen_other seen x (get_or numbers k 0) (differs k before) ∙ has.marked k before
        | inr last ↦ (let at : n ≡ k = omega arith in subst (λ m. get_or (set seen x true) (get_or numbers m 0) false ≡ true) at here)
      ]);
      only = (λ y h e. elim (cases_eq y x) [
        | inl same ↦ (n, omega arith, sym same)
        | inr other ↦ (let found = has.only y h (sym (seen_other seen x y other) ∙ e) in (found.0, omega (arith, found.1), found.2))
      ]);
    }

pub seen_all : (numbers : List ℕ) (seen : List Bool) (n : ℕ) → HasSeen numbers seen n → length numbers ≤ n → Permutes numbers
seen_all numbers seen n has all = record {
  within = (λ k d h. subst (λ m. m < length numbers) (get_or_default numbers k 0 d h) (has.within k (omega arith)));
  distinct = (λ i j d h k same.
      let first : i < length numbers = omega arith in
      has.apart i j h (omega arith) (get_or_default numbers i 0 d first ∙ same ∙ get_or_default numbers j d 0 k));
}

-- a number that is seen again, or is too great, is in no permutation
pub seen_twice : (numbers : List ℕ) (seen : List Bool) (n : ℕ) → HasSeen numbers seen n → n < length numbers → get_or numbers n 0 < length numbers
    → get_or seen (get_or numbers n 0) false ≡ true → ¬ Permutes numbers
seen_twice numbers seen n has low below again permutes =
    let found = has.only (get_or numbers n 0) below again in
    permutes.distinct found.0 n 0 found.1 low found.2

pub too_great : (numbers : List ℕ) (n : ℕ) → n < length numbers → length numbers ≤ get_or numbers n 0 → ¬ Permutes numbers
too_great numbers n low great permutes = omega (arith, permutes.within n 0 low)
