-- Two rising lists that have nothing in common, as a merge walks over them.
use Rattle.std.proofs.Common.{◌≡◌, ◌≢◌, ◌↔◌, ◌⊎◌, zero, suc, List, ◌∷◌, length, Contains, refl, sym, ap, ◌∙◌, subst, inl, inr, arith}
use Rattle.std.specs.declared.cmp.Ordering.TheVariants.{Less, Equal, Greater}
use Rattle.std.specs.Ordering.{ordering_reverse}
use Rattle.std.specs.List.Sorted.{IsStrictlySortedBy}
use Rattle.std.proofs.lemmas.List.Elements.{All-contains}
use Rattle.std.proofs.lemmas.Map.Keys.{sorted_tail}
use Rattle.std.proofs.lemmas.Map.Views.{All-after_first}
use Rattle.ts_model.specs.TextTriple.{TextTriple}
use Rattle.ts_model.specs.Order.{triple_cmp, triple_cmp_total, triple_cmp-IsAntisymmetric}
use Rattle.ts_plain.specs.PlainReading.{AreApart}

abbrev Rises : List TextTriple → Type 0
Rises = IsStrictlySortedBy triple_cmp

contains_cases : (x y : TextTriple) (ys : List TextTriple) → Contains (y ∷ ys) x → (y ≡ x) ⊎ Contains ys x
contains_cases x y ys (zero, small, e) = inl e
contains_cases x y ys (suc k, small, e) = inr (k, omega arith, e)

contains_later : (x y : TextTriple) (ys : List TextTriple) → Contains ys x → Contains (y ∷ ys) x
contains_later x y ys (k, small, e) = (suc k, omega arith, e)

contains_first : (y : TextTriple) (ys : List TextTriple) → Contains (y ∷ ys) y
contains_first y ys = (zero, omega arith, refl)

not_below_itself : (x : TextTriple) → triple_cmp x x ≢ Less
not_below_itself x h = let e : Less ≡ Greater = sym h ∙ triple_cmp_total.antisymm x x ∙ ap ordering_reverse h in cc

-- what is below the first stands nowhere
below_first : (a b : TextTriple) (bs : List TextTriple) → Rises (b ∷ bs) → triple_cmp a b ≡ Less → Contains (b ∷ bs) a → ⊥
below_first a b bs rise less found = elim (contains_cases a b bs found) [
  | inl same ↦ not_below_itself a (subst (λ x. triple_cmp a x ≡ Less) same less)
  | inr later ↦ not_below_itself a (triple_cmp_total.trans a b a less (All-contains (λ q. triple_cmp b q ≡ Less) bs a (All-after_first triple_cmp b bs rise) later))
]

tail_of : (xs : List TextTriple) (x : TextTriple) (later : List TextTriple) → xs ≡ x ∷ later → Rises xs → Rises later
tail_of xs x later is rise = sorted_tail triple_cmp x later (subst Rises is rise)

without_first : (a : TextTriple) (later right : List TextTriple) → (Contains right a → ⊥) → AreApart later right ↔ AreApart (a ∷ later) right
without_first a later right none = (
  λ apart triple one other. elim (contains_cases triple a later one) [
    | inl same ↦ none (subst (Contains right) (sym same) other)
    | inr behind ↦ apart triple behind other
  ],
  λ apart triple one other. apart triple (contains_later triple a later one) other,
)

turned : (left right : List TextTriple) → AreApart left right → AreApart right left
turned left right apart triple one other = apart triple other one

-- the lesser of the first two may be left out
pub skip_left : (left right : List TextTriple) (a b : TextTriple) (later others : List TextTriple) → left ≡ a ∷ later → right ≡ b ∷ others → triple_cmp a b ≡ Less
    → Rises left → Rises right → Rises later × (AreApart later right ↔ AreApart left right)
skip_left left right a b later others is that less rise up =
    let none : Contains right a → ⊥ = λ found. below_first a b others (subst Rises that up) less (subst (λ l. Contains l a) that found) in
    (tail_of left a later is rise, subst (λ l. AreApart later right ↔ AreApart l right) (sym is) (without_first a later right none))

pub skip_right : (left right : List TextTriple) (a b : TextTriple) (later others : List TextTriple) → left ≡ a ∷ later → right ≡ b ∷ others → triple_cmp a b ≡ Greater
    → Rises left → Rises right → Rises others × (AreApart left others ↔ AreApart left right)
skip_right left right a b later others is that greater rise up =
    let less : triple_cmp b a ≡ Less = triple_cmp_total.antisymm b a ∙ ap ordering_reverse greater in
    let skipped = skip_left right left b a others later that is less up rise in
    (skipped.0, (λ apart. turned right left (skipped.1.0 (turned left others apart)), λ apart. turned others left (skipped.1.1 (turned left right apart))))

-- a triple that is the first of both stands in both
pub first_of_both : (left right : List TextTriple) (a b : TextTriple) (later others : List TextTriple) → left ≡ a ∷ later → right ≡ b ∷ others → triple_cmp a b ≡ Equal
    → AreApart left right → ⊥
first_of_both left right a b later others is that equal apart =
    let same : a ≡ b = triple_cmp-IsAntisymmetric a b equal in
    apart a (subst (λ l. Contains l a) (sym is) (contains_first a later))
    (subst (λ l. Contains l a) (sym that) (subst (Contains (b ∷ others)) (sym same) (contains_first b others)))

pub nothing_left : (left right : List TextTriple) → length left ≡ 0 → AreApart left right
nothing_left left right none triple (k, small, e) other = omega arith

pub nothing_right : (left right : List TextTriple) → length right ≡ 0 → AreApart left right
nothing_right left right none triple one (k, small, e) = omega arith

pub both_ways : {A B C : Type 0} → A ↔ B → B ↔ C → A ↔ C
both_ways f g = (λ a. g.0 (f.0 a), λ c. f.1 (g.1 c))
