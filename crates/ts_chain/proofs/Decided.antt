-- What the entries of a list decide, and when the first of them comes first.
use Rattle.std.proofs.Common.{◌≡◌, Bool, true, false, true≢false, cond, ◌&&◌, T, List, [], ◌∷◌, ◌++◌, Option, Some, None, refl, sym, ap, ◌∙◌, subst}
use Rattle.std.specs.declared.cmp.Ordering.{Ordering}
use Rattle.std.specs.declared.cmp.Ordering.TheVariants.{Less, Equal, Greater}
use Rattle.std.specs.Ordering.{eq_by_cmp, is_eq, is_lt, nat_cmp, ordering_then}
use Rattle.std.specs.Cmp.{IsTotalOrder, nat_cmp_total, on_total, then_total}
use Rattle.std.specs.FinMap.{IsAntisymmetric, nat_cmp-IsAntisymmetric, entries, entries_sorted, entries-insert, from_entries, find, get-entries, get-from_entries, is_sorted, put, same_map}
use Rattle.std.specs.FinMap.Entries.{below_all, by_order, same_entries}
use Rattle.ts_plane.specs.declared.triple.IdTriple.{IdTriple}
use Rattle.ts_plane.specs.Triple.{triple_cmp}
use Rattle.ts_chain.specs.Streams.{decided}

-- ---- the order of triples

pub triple_cmp_total : IsTotalOrder triple_cmp
triple_cmp_total = then_total (on_total (λ (t : IdTriple). t.s) nat_cmp_total) (then_total (on_total (λ (t : IdTriple). t.p) nat_cmp_total) (on_total (λ (t : IdTriple). t.o) nat_cmp_total))

first_equal : (a b : Ordering) → ordering_then a b ≡ Equal → a ≡ Equal
first_equal Less b e = absurd (true≢false (sym (ap is_eq e)))
first_equal Equal b e = refl
first_equal Greater b e = absurd (true≢false (sym (ap is_eq e)))

second_equal : (a b : Ordering) → ordering_then a b ≡ Equal → b ≡ Equal
second_equal Less b e = absurd (true≢false (sym (ap is_eq e)))
second_equal Equal b e = e
second_equal Greater b e = absurd (true≢false (sym (ap is_eq e)))

pub triple_cmp-IsAntisymmetric : IsAntisymmetric triple_cmp
triple_cmp-IsAntisymmetric x y e =
    let others = second_equal (nat_cmp x.s y.s) _ e in
    let subjects : x.s ≡ y.s = nat_cmp-IsAntisymmetric _ _ (first_equal _ _ e) in
    let predicates : x.p ≡ y.p = nat_cmp-IsAntisymmetric _ _ (first_equal _ _ others) in
    let objects : x.o ≡ y.o = nat_cmp-IsAntisymmetric _ _ (second_equal (nat_cmp x.p y.p) _ others) in
    λ i. record { s = subjects i; p = predicates i; o = objects i }

-- ---- tests

pub passes : (b : Bool) → b ≡ true → T b
passes b e = subst T (sym e) tt

pub passed : (b : Bool) → T b → b ≡ true
passed true h = refl
passed false h = absurd h

pub both : (a b : Bool) → T a → T b → T (a && b)
both true b p q = q
both false b p q = p

pub first : (a b : Bool) → T (a && b) → T a
first true b p = tt
first false b p = p

pub second : (a b : Bool) → T (a && b) → T b
second true b p = p
second false b p = absurd p

pub less_is : (r : Ordering) → T (is_lt r) → r ≡ Less
less_is Less h = refl
less_is Equal h = absurd h
less_is Greater h = absurd h

pub is_less : (r : Ordering) → r ≡ Less → T (is_lt r)
is_less r e = subst (λ o. T (is_lt o)) (sym e) tt

pub equal_is : (r : Ordering) → is_eq r ≡ true → r ≡ Equal
equal_is Less e = absurd (true≢false (sym e))
equal_is Equal e = refl
equal_is Greater e = absurd (true≢false (sym e))

-- ---- lists of entries

abbrev pub Said : Type 0
Said = IdTriple × Bool

abbrev pub Above : IdTriple → List Said → Type 0
Above t named = T (below_all triple_cmp t named)

abbrev pub found : IdTriple → List Said → Option Bool
found t named = find triple_cmp t named

pub above-append : (t : IdTriple) (xs ys : List Said) → Above t xs → Above t ys → Above t (xs ++ ys)
above-append t [] ys h g = g
above-append t (x ∷ xs) ys h g = both _ _ (first (is_lt (triple_cmp t x.0)) _ h) (above-append t xs ys (second (is_lt (triple_cmp t x.0)) _ h) g)

-- what is above the greater of two is above the lesser
pub above-less : (a b : IdTriple) (xs : List Said) → triple_cmp a b ≡ Less → Above b xs → Above a xs
above-less a b [] e h = tt
above-less a b (x ∷ xs) e h =
    both _ _ (is_less _ (triple_cmp_total.trans a b x.0 e (less_is _ (first (is_lt (triple_cmp b x.0)) _ h)))) (above-less a b xs e (second (is_lt (triple_cmp b x.0)) _ h))

above-put : (t k : IdTriple) (v : Bool) (xs : List Said) → triple_cmp t k ≡ Less → Above t xs → Above t (put triple_cmp k v xs)
above-put t k v [] e h = both _ _ (is_less _ e) tt
above-put t k v (x ∷ xs) e h = elim (triple_cmp k x.0) as (λ o. Above t (by_order o ((k, v) ∷ x ∷ xs) ((x.0, v) ∷ xs) (x ∷ put triple_cmp k v xs))) [
  | Less ↦ both _ _ (is_less _ e) h
  | Equal ↦ h
  | Greater ↦ both _ _ (first (is_lt (triple_cmp t x.0)) _ h) (above-put t k v xs e (second (is_lt (triple_cmp t x.0)) _ h))
]

put-first : (t : IdTriple) (v : Bool) (xs : List Said) → Above t xs → put triple_cmp t v xs ≡ (t, v) ∷ xs
put-first t v [] h = refl
put-first t v (x ∷ xs) h = ap (λ o. by_order o ((t, v) ∷ x ∷ xs) ((x.0, v) ∷ xs) (x ∷ put triple_cmp t v xs)) (less_is _ (first (is_lt (triple_cmp t x.0)) _ h))

-- ---- what a list decides

pub decided-rises : (xs : List Said) → T (is_sorted triple_cmp (decided xs))
unfolding decided
decided-rises xs = entries_sorted (from_entries {R = triple_cmp} xs)

pub found-decided : (t : IdTriple) (xs : List Said) → found t (decided xs) ≡ found t xs
unfolding decided
found-decided t xs = sym (get-entries (from_entries {R = triple_cmp} xs) t) ∙ get-from_entries triple_cmp_total xs t

-- lists that answer alike decide alike
pub decided-same : (xs ys : List Said) → ((t : IdTriple) → found t xs ≡ found t ys) → decided xs ≡ decided ys
unfolding decided
decided-same xs ys alike =
    ap entries (same_map triple_cmp_total triple_cmp-IsAntisymmetric (from_entries xs) (from_entries ys) (λ t.
    get-from_entries triple_cmp_total xs t ∙ alike t ∙ sym (get-from_entries triple_cmp_total ys t)))

-- a rising list decides itself
pub decided-rising : (xs : List Said) → T (is_sorted triple_cmp xs) → decided xs ≡ xs
decided-rising xs rising = same_entries triple_cmp triple_cmp_total triple_cmp-IsAntisymmetric (decided xs) xs (decided-rises xs) rising (λ t. found-decided t xs)

decided-put : (x : Said) (xs : List Said) → decided (x ∷ xs) ≡ put triple_cmp x.0 x.1 (decided xs)
unfolding decided
decided-put x xs = entries-insert triple_cmp_total (from_entries xs) x.0 x.1

pub above-decided : (t : IdTriple) (xs : List Said) → Above t xs → Above t (decided xs)
above-decided t [] h = subst (Above t) (sym (decided-rising [] tt)) tt
above-decided t (x ∷ xs) h = subst (Above t) (sym (decided-put x xs))
    (above-put t x.0 x.1 (decided xs) (less_is _ (first (is_lt (triple_cmp t x.0)) _ h)) (above-decided t xs (second (is_lt (triple_cmp t x.0)) _ h)))

-- an entry below all others comes first
pub decided-first : (x : Said) (xs : List Said) → Above x.0 xs → decided (x ∷ xs) ≡ x ∷ decided xs
decided-first x xs h = decided-put x xs ∙ put-first x.0 x.1 (decided xs) (above-decided x.0 xs h)

-- ---- what a list answers

-- the first list answers, or else the second
abbrev pub or_else : Option Bool → Option Bool → Option Bool
or_else None other = other
or_else (Some said) other = Some said

pub found-append : (t : IdTriple) (xs ys : List Said) → found t (xs ++ ys) ≡ or_else (found t xs) (found t ys)
found-append t [] ys = refl
found-append t (x ∷ xs) ys = elim (eq_by_cmp triple_cmp t x.0) as (λ b. cond b (Some x.1) (found t (xs ++ ys)) ≡ or_else (cond b (Some x.1) (found t xs)) (found t ys)) [
  | true ↦ refl
  | false ↦ found-append t xs ys
]

pub found-above : (t : IdTriple) (xs : List Said) → Above t xs → found t xs ≡ None
found-above t [] h = refl
found-above t (x ∷ xs) h = ap (λ o. cond (is_eq o) (Some x.1) (found t xs)) (less_is _ (first (is_lt (triple_cmp t x.0)) _ h)) ∙ found-above t xs (second (is_lt (triple_cmp t x.0)) _ h)

-- ---- merges

-- what stands in front or behind may be decided before
pub decided-behind : (xs ys zs : List Said) → decided ys ≡ decided zs → decided (xs ++ ys) ≡ decided (xs ++ zs)
decided-behind xs ys zs e = decided-same (xs ++ ys) (xs ++ zs) (λ t.
    found-append t xs ys
    ∙ ap (or_else (found t xs)) (sym (found-decided t ys) ∙ ap (found t) e ∙ found-decided t zs)
    ∙ sym (found-append t xs zs))

pub decided-before : (xs ys zs : List Said) → decided xs ≡ decided ys → decided (xs ++ zs) ≡ decided (ys ++ zs)
decided-before xs ys zs e = decided-same (xs ++ zs) (ys ++ zs) (λ t.
    found-append t xs zs
    ∙ ap (λ said. or_else said (found t zs)) (sym (found-decided t xs) ∙ ap (found t) e ∙ found-decided t ys)
    ∙ sym (found-append t ys zs))

pub decided-twice : (xs : List Said) → decided (decided xs) ≡ decided xs
decided-twice xs = decided-rising (decided xs) (decided-rises xs)
