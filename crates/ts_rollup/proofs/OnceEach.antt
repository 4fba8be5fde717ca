-- Lists that have each number once are no longer than lists that have all of their numbers.
use Rattle.std.proofs.Common.{◌≡◌, ◌≢◌, ℕ, zero, suc, ◌+◌, ◌<◌, ◌≤◌, ◌⊎◌, inl, inr, Bool, true, false, List, [], ◌∷◌, ◌++◌, Contains, length, refl, sym, ap, ◌∙◌, subst, arith}
use Rattle.std.specs.Bool.{⊤}
use Rattle.std.specs.Cmp.{nat_cmp_total}
use Rattle.std.specs.FinMap.{nat_cmp-IsAntisymmetric}
use Rattle.std.specs.List.{AllByRecursion, IsDistinct}
use Rattle.std.specs.Ordering.{eq_by_cmp, nat_cmp}
use Rattle.std.proofs.lemmas.Bool.{cases_eq}
use Rattle.std.proofs.lemmas.Cmp.{eq_by_cmp_equiv}
use Rattle.std.proofs.lemmas.List.Elements.{Contains-append_cases}
use Rattle.std.proofs.lemmas.Map.Made.{length-le_from_is_member}
use Rattle.std.proofs.lemmas.Map.Views.{Contains-from_any, list_any-from_Contains, tells_apart}
use Rattle.ts_chain.proofs.Elements.{contains_first, contains_head, contains_rest}

abbrev pub OnceEach : List ℕ → Type 0
OnceEach [] = ⊤
OnceEach (x ∷ xs) = ((y : ℕ) → Contains xs y → x ≢ y) × OnceEach xs

differ : (x y : ℕ) → x ≢ y → eq_by_cmp nat_cmp x y ≡ false
differ x y other = by (eq_by_cmp nat_cmp x y) refl
  where
    by : (same : Bool) → eq_by_cmp nat_cmp x y ≡ same → same ≡ false
    by false e = refl
    by true e = absurd (other (tells_apart nat_cmp-IsAntisymmetric x y e))

all_differ : (x : ℕ) (ys : List ℕ) → ((y : ℕ) → Contains ys y → x ≢ y) → AllByRecursion (λ y. eq_by_cmp nat_cmp x y ≡ false) ys
all_differ x [] apart = tt
all_differ x (y ∷ ys) apart = (differ x y (apart y (contains_head y ys)), all_differ x ys (λ z among. apart z (contains_rest y ys z among)))

distinct : (xs : List ℕ) → OnceEach xs → IsDistinct (eq_by_cmp nat_cmp) xs
unfolding IsDistinct
distinct [] once = tt
distinct (x ∷ xs) once = (all_differ x xs once.0, distinct xs once.1)

pub no_longer : (xs ys : List ℕ) → OnceEach xs → ((q : ℕ) → Contains xs q → Contains ys q) → length xs ≤ length ys
no_longer xs ys once within =
    length-le_from_is_member (eq_by_cmp_equiv nat_cmp_total) xs ys (distinct xs once) (λ q there.
    list_any-from_Contains (eq_by_cmp_equiv nat_cmp_total) q ys (within q (Contains-from_any (tells_apart nat_cmp-IsAntisymmetric) q xs there)))

pub once_append : (xs ys : List ℕ) → OnceEach xs → OnceEach ys → ((x y : ℕ) → Contains xs x → Contains ys y → x ≢ y) → OnceEach (xs ++ ys)
once_append [] ys one two apart = two
once_append (x ∷ xs) ys one two apart = (
  λ y among. elim (Contains-append_cases xs ys y among) as (λ _. x ≢ y) [
    | inl here ↦ one.0 y here
    | inr there ↦ apart x y (contains_head x xs) there
  ],
  once_append xs ys one.1 two (λ a b in_a in_b. apart a b (contains_rest x xs a in_a) in_b),
)

-- the values of as many numbers, from one on
abbrev pub values_from : (ℕ → ℕ) → ℕ → ℕ → List ℕ
values_from f first zero = []
values_from f first (suc count) = f first ∷ values_from f (suc first) count

pub length-values_from : (f : ℕ → ℕ) (first count : ℕ) → length (values_from f first count) ≡ count
length-values_from f first zero = refl
length-values_from f first (suc count) = ap suc (length-values_from f (suc first) count)

pub record IsValueFrom (f : ℕ → ℕ) (first count value : ℕ) : Type 0 where
  pub at : ℕ
  pub least : first ≤ at
  pub most : at < first + count
  pub is : value ≡ f at

pub value_from : (f : ℕ → ℕ) (first count value : ℕ) → Contains (values_from f first count) value → IsValueFrom f first count value
value_from f first zero value among = absurd (omega (arith, among.1))
value_from f first (suc count) value among = elim (contains_first (f first) (values_from f (suc first) count) value among) as (λ _. IsValueFrom f first (suc count) value) [
  | inl here ↦ record { at = first; least = omega arith; most = omega arith; is = sym here }
  | inr later ↦ (let found = value_from f (suc first) count value later in
      record { at = found.at; least = omega (arith, found.least); most = omega (arith, found.most); is = found.is })
]

pub among_values : (f : ℕ → ℕ) (first count at : ℕ) → first ≤ at → at < first + count → Contains (values_from f first count) (f at)
among_values f first zero at least most = absurd (omega (arith, least, most))
among_values f first (suc count) at least most = elim (cases_eq first at) as (λ _. Contains (values_from f first (suc count)) (f at)) [
  | inl same ↦ subst (λ n. Contains (values_from f first (suc count)) (f n)) same (contains_head (f first) (values_from f (suc first) count))
  | inr other ↦ contains_rest (f first) (values_from f (suc first) count) (f at) (among_values f (suc first) count at (omega (arith, least, other)) (omega (arith, most)))
]

pub once_values : (f : ℕ → ℕ) (first count bound : ℕ) → first + count ≤ bound → ((a b : ℕ) → a < bound → b < bound → f a ≡ f b → a ≡ b) → OnceEach (values_from f first count)
once_values f first zero bound low one = tt
once_values f first (suc count) bound low one = (
  λ y among same.
      let found = value_from f (suc first) count y among in
      let is = one first found.at (omega (arith, low)) (omega (arith, low, found.most)) (same ∙ found.is) in
      omega (arith, is, found.least),
  once_values f (suc first) count bound (omega (arith, low)) one,
)
