-- The numbers of the layers, and one layer more.
use Rattle.std.proofs.Common.{◌≡◌, ℕ, zero, suc, ◌-◌, ◌+◌, ◌<◌, ◌&&◌, ◌||◌, Bool, true, false, T, List, [], ◌∷◌, ◌++◌, map, length, get_or, Some, None, IsTrue, true≢false, refl, sym, ap, ◌∙◌, subst, arith}
use Rattle.std.specs.declared.cmp.Ordering.{Ordering}
use Rattle.std.specs.declared.cmp.Ordering.TheVariants.{Less}
use Rattle.std.specs.Ordering.{nat_cmp, is_lt, eq_by_cmp}
use Rattle.std.specs.Cmp.{nat_cmp_total, nat_cmp_is, Equal-is}
use Rattle.std.specs.List.{AllByRecursion, list_any}
use Rattle.std.specs.List.Sorted.{IsStrictlySortedBy}
use Rattle.std.specs.FinMap.{is_sorted, keys, from_entries, from_sorted, entries-from_sorted, get-from_entries, get-from_sorted, same_map, nat_cmp-IsAntisymmetric, contains_key, contains_key-keys}
use Rattle.std.specs.FinMap.Entries.{below_all}
use Rattle.std.proofs.lemmas.Map.Keys.{below_from_sorted, sorted_tail}
use Rattle.std.proofs.lemmas.List.{length-map}
use Rattle.std.proofs.lemmas.Option.{slice_get-get_or}
use Rattle.std.specs.List.{slice_get}
use Rattle.ts_plain.specs.declared.write.PlainLayer.{PlainLayer}
use Rattle.ts_plain.specs.History.{AreHistory, entry_of, history_of}
use Rattle.ts_plain.specs.NewLayer.{IsNewNumber}
use Rattle.ts_plain.proofs.PlaceLaws.{IsAbove, numbers}
use Rattle.ts_model.specs.History.{History}
use Rattle.ts_store.specs.Makes.{greatest_of, next_number}

both : (a b : Bool) → T a → T b → T (a && b)
both true b p q = q
both false b p q = p

is_less : (r : Ordering) → r ≡ Less → T (is_lt r)
is_less r e = subst (λ o. T (is_lt o)) (sym e) tt

module _ {X : Type 0} where
  abbrev keys_in : List (ℕ × X) → List ℕ
  keys_in es = map (λ e. e.0) es

  below-entries : (n : ℕ) (es : List (ℕ × X)) → AllByRecursion (λ m. nat_cmp n m ≡ Less) (keys_in es) → T (below_all nat_cmp n es)
  below-entries n [] h = tt
  below-entries n (e ∷ es) h = both _ _ (is_less _ h.0) (below-entries n es h.1)

  sorted-entries : (es : List (ℕ × X)) → IsStrictlySortedBy nat_cmp (keys_in es) → T (is_sorted nat_cmp es)
  unfolding IsStrictlySortedBy
  sorted-entries [] h = tt
  sorted-entries (e ∷ es) h = both _ _ (below-entries e.0 es h.0) (sorted-entries es h.1)

  -- entries in rising number are those of the map that they make
  keys-from_entries : (es : List (ℕ × X)) → IsStrictlySortedBy nat_cmp (keys_in es) → keys (from_entries {R = nat_cmp} es) ≡ keys_in es
  keys-from_entries es rise =
      let sorted : T (is_sorted nat_cmp es) = sorted-entries es rise in
      let same : from_entries {R = nat_cmp} es ≡ from_sorted es = same_map nat_cmp_total nat_cmp-IsAntisymmetric _ _ (λ q. get-from_entries nat_cmp_total es q ∙ sym (get-from_sorted nat_cmp es q sorted)) in
      ap keys same ∙ ap keys_in (entries-from_sorted nat_cmp es sorted)

keys_are : (layers : List PlainLayer) → keys_in (map entry_of layers) ≡ numbers layers
keys_are [] = refl
keys_are (l ∷ layers) = ap (λ ns. l.number ∷ ns) (keys_are layers)

pub keys-kept : (layers : List PlainLayer) → AreHistory layers → keys (history_of layers) ≡ numbers layers
keys-kept layers history = keys-from_entries (map entry_of layers) (subst (IsStrictlySortedBy nat_cmp) (sym (keys_are layers)) history.numbers_rise) ∙ keys_are layers

-- the greatest of rising numbers is the last
greatest-last : (xs : List ℕ) → IsStrictlySortedBy nat_cmp xs → greatest_of xs ≡ get_or xs (length xs - 1) 0
greatest-last [] rise = refl
greatest-last (x ∷ []) rise = omega arith
greatest-last (x ∷ y ∷ ys) rise =
    let later : greatest_of (y ∷ ys) ≡ get_or (y ∷ ys) (length (y ∷ ys) - 1) 0 = greatest-last (y ∷ ys) (sorted_tail nat_cmp x (y ∷ ys) rise) in
    let above : x < get_or (x ∷ y ∷ ys) (length (x ∷ y ∷ ys) - 1) 0 = below_from_sorted (x ∷ y ∷ ys) 0 (length (x ∷ y ∷ ys) - 1) 0 rise (omega arith) (omega arith) in
    let place : get_or (x ∷ y ∷ ys) (length (x ∷ y ∷ ys) - 1) 0 ≡ get_or (y ∷ ys) (length (y ∷ ys) - 1) 0 = ap (λ n. get_or (x ∷ y ∷ ys) n 0) (let e : length (x ∷ y ∷ ys) - 1 ≡ suc (length (y ∷ ys) - 1) = omega arith in e) in
    omega arith

pub greatest-kept : (layers : List PlainLayer) → AreHistory layers → greatest_of (keys (history_of layers)) ≡ get_or (numbers layers) (length layers - 1) 0
greatest-kept layers history =
    ap greatest_of (keys-kept layers history) ∙ greatest-last (numbers layers) history.numbers_rise
    ∙ ap (λ n. get_or (numbers layers) (n - 1) 0) (length-map layers (λ (l : PlainLayer). l.number))

number-at : (layers : List PlainLayer) (i : ℕ) (l : PlainLayer) → slice_get layers i ≡ Some l → get_or (numbers layers) i 0 ≡ l.number
number-at [] i l e = let none : ⊥ = cc in absurd none
number-at (x ∷ xs) zero l e = let same : x ≡ l = cc in ap (λ (k : PlainLayer). k.number) same
number-at (x ∷ xs) (suc i) l e = number-at xs i l e

pub greatest-some : (layers : List PlainLayer) (l : PlainLayer) → AreHistory layers → Some l ≡ slice_get layers (length layers - 1) → l.number ≡ greatest_of (keys (history_of layers))
greatest-some layers l history e = sym (greatest-kept layers history ∙ number-at layers (length layers - 1) l (sym e))

pub greatest-none : (layers : List PlainLayer) → AreHistory layers → None ≡ slice_get layers (length layers - 1) → 0 ≡ greatest_of (keys (history_of layers))
greatest-none [] history e = sym (greatest-kept [] history)
greatest-none (x ∷ xs) history e =
    let some = slice_get-get_or (x ∷ xs) (length (x ∷ xs) - 1) x (omega arith) in
    let none : ⊥ = cc in absurd none

-- ---- one layer more

greatest-above : (xs : List ℕ) (n : ℕ) → greatest_of xs < n → AllByRecursion (λ x. x < n) xs
greatest-above [] n above = tt
greatest-above (x ∷ xs) n above = (omega arith, greatest-above xs n (omega arith))

all-push : {A : Type 0} (P : A → Type 0) (xs : List A) (x : A) → AllByRecursion P xs → P x → AllByRecursion P (xs ++ x ∷ [])
all-push P [] x a p = (p, tt)
all-push P (y ∷ ys) x a p = (a.0, all-push P ys x a.1 p)

rise-push : (xs : List ℕ) (n : ℕ) → IsStrictlySortedBy nat_cmp xs → AllByRecursion (λ x. x < n) xs → IsStrictlySortedBy nat_cmp (xs ++ n ∷ [])
unfolding IsStrictlySortedBy
rise-push [] n rise above = (tt, tt)
rise-push (x ∷ xs) n rise above = (all-push (λ y. nat_cmp x y ≡ Less) xs n rise.0 (sym (nat_cmp_is x n Less above.0)), rise-push xs n rise.1 above.1)

-- the number of the next layer is above those of all that stand
pub next_above : (history : History) (k : ℕ) → IsTrue (contains_key history k) → k < next_number history
next_above history k stands = under (keys history) (sym (contains_key-keys history k) ∙ stands)
  where
    under : (xs : List ℕ) → list_any (eq_by_cmp nat_cmp k) xs ≡ true → k < greatest_of xs + 1
    under [] is = absurd (true≢false (sym is))
    under (x ∷ xs) is =
        elim (eq_by_cmp nat_cmp k x) as (λ b. eq_by_cmp nat_cmp k x ≡ b → (b || list_any (eq_by_cmp nat_cmp k) xs) ≡ true → k < greatest_of (x ∷ xs) + 1) [
          | true ↦ λ e _. let same : k ≡ x = nat_cmp-IsAntisymmetric k x ((Equal-is (nat_cmp k x)).0 e) in omega arith
          | false ↦ λ e later. let below : k < greatest_of xs + 1 = under xs later in omega arith
        ] refl is

-- so it is a new one
pub next_is_new : (history : History) → IsNewNumber history (next_number history)
next_is_new history = record { positive = omega arith; above = next_above history }

-- and rises behind those of the layers
pub next_rises : (layers : List PlainLayer) → AreHistory layers → IsAbove layers (next_number (history_of layers))
next_rises layers history =
    let next : next_number (history_of layers) ≡ greatest_of (numbers layers) + 1 = ap (λ ns. greatest_of ns + 1) (keys-kept layers history) in
    subst (IsAbove layers) (sym next) (rise-push (numbers layers) (greatest_of (numbers layers) + 1) history.numbers_rise (greatest-above (numbers layers) (greatest_of (numbers layers) + 1) (omega arith)))
