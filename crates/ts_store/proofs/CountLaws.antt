-- As many triples of a listing fit as of the triples of its layer in any other order.
use Rattle.std.proofs.Common.{◌≡◌, ℕ, ◌+◌, Bool, true, false, cond, List, [], ◌∷◌, filter, length, map, Some, None, true≢false, refl, sym, ap, ◌∙◌, arith}
use Rattle.std.specs.declared.cmp.Ordering.{Ordering}
use Rattle.std.specs.declared.cmp.Ordering.TheVariants.{Less, Equal, Greater}
use Rattle.std.specs.Option.{is_some}
use Rattle.std.specs.Ordering.{eq_by_cmp, is_eq}
use Rattle.std.specs.Cmp.{Equal-is, IsTotalOrder, tied_itself}
use Rattle.std.specs.FinMap.{IsAntisymmetric, empty, entries, entries-insert, find, get-entries, get-from_entries, len-empty, len-entries, put}
use Rattle.std.specs.FinMap.Entries.{by_order}
use Rattle.std.specs.List.{AllByRecursion, IsDistinct}
use Rattle.std.proofs.lemmas.Map.Keys.{IsDistinct-from_sorted, IsDistinct-head, IsDistinct-tail}
use Rattle.ts_model.specs.Fits.{fits}
use Rattle.ts_model.specs.History.{History, content_at}
use Rattle.ts_model.specs.Listing.{birth_cmp, select}
use Rattle.ts_model.specs.Order.{triple_cmp, triple_cmp_total}
use Rattle.ts_model.specs.Sets.{from_list, members, unit_entries}
use Rattle.ts_model.specs.declared.pattern.Pattern.{Pattern}
use Rattle.ts_model.proofs.BirthOrder.{birth_cmp_total, birth_cmp-IsAntisymmetric}
use Rattle.ts_model.proofs.SetLaws.{IsStrictlySortedBy-members}

entries-empty : {K X : Type 0} (R : K → K → Ordering) → entries (empty {K = K} {X = X} {R = R}) ≡ []
entries-empty R = no_entries (entries empty) (sym (len-entries empty) ∙ len-empty R _)
  where
    no_entries : {A : Type 0} (xs : List A) → length xs ≡ 0 → xs ≡ []
    no_entries [] e = refl
    no_entries (x ∷ xs) e = absurd (omega arith)

module _ {K : Type 0} (test : K → Bool) where
  abbrev count : List K → ℕ
  count xs = length (filter test xs)

  abbrev one : K → ℕ
  one x = cond (test x) 1 0

  count_first : (x : K) (xs : List K) → count (x ∷ xs) ≡ one x + count xs
  count_first x xs = by_test (test x)
    where
      by_test : (b : Bool) → length (cond b (x ∷ filter test xs) (filter test xs)) ≡ cond b 1 0 + count xs
      by_test true = omega arith
      by_test false = omega arith

  abbrev keys_of : List (K × Unit {0}) → List K
  keys_of es = map (λ e. e.0) es

  module _ (S : K → K → Ordering) where
    -- a new element is put at some place
    count_put : (x : K) (es : List (K × Unit {0})) → find S x es ≡ None → count (keys_of (put S x tt es)) ≡ one x + count (keys_of es)
    count_put x [] none = count_first x []
    count_put x (e ∷ es) none = by_place (count_put x es) (S x e.0) refl
      where
        by_place : (find S x es ≡ None → count (keys_of (put S x tt es)) ≡ one x + count (keys_of es)) → (r : Ordering) → S x e.0 ≡ r
            → count (keys_of (by_order r ((x, tt) ∷ e ∷ es) ((e.0, tt) ∷ es) (e ∷ put S x tt es))) ≡ one x + count (keys_of (e ∷ es))
        by_place later_put Less is = count_first x (keys_of (e ∷ es))
        by_place later_put Equal is = let found : Some e.1 ≡ None = sym (ap (λ r. cond (is_eq r) (Some e.1) (find S x es)) is) ∙ none in absurd (true≢false (ap is_some found))
        by_place later_put Greater is =
            let later : find S x es ≡ None = sym (ap (λ r. cond (is_eq r) (Some e.1) (find S x es)) is) ∙ none in
            let more = later_put later in
            let first = count_first e.0 (keys_of (put S x tt es)) in
            let second = count_first e.0 (keys_of es) in
            omega (arith, more, first, second)

    module _ (R : K → K → Ordering) (total : IsTotalOrder R) (o : IsTotalOrder S) (same : IsAntisymmetric S) where
      -- what differs from all in one order does so in the other
      none_found : (x : K) (xs : List K) → AllByRecursion (λ y. eq_by_cmp R x y ≡ false) xs → find S x (unit_entries xs) ≡ None
      none_found x [] apart = refl
      none_found x (y ∷ ys) apart = by_test (none_found x ys apart.1) (eq_by_cmp S x y) refl
        where
          by_test : find S x (unit_entries ys) ≡ None → (b : Bool) → eq_by_cmp S x y ≡ b → cond b (Some tt) (find S x (unit_entries ys)) ≡ None
          by_test later true e =
              let one_key : x ≡ y = same x y ((Equal-is (S x y)).0 e) in
              absurd (true≢false (sym (ap is_eq (tied_itself total x)) ∙ ap (eq_by_cmp R x) one_key ∙ apart.0))
          by_test later false e = later

      pub count_same : (xs : List K) → IsDistinct (eq_by_cmp R) xs → count (members (from_list {R = S} xs)) ≡ count xs
      count_same [] distinct = ap (λ es. count (keys_of es)) (entries-empty S)
      count_same (x ∷ xs) distinct =
          let apart = IsDistinct-head (eq_by_cmp R) x xs distinct in
          let none : find S x (entries (from_list {R = S} xs)) ≡ None = sym (get-entries (from_list {R = S} xs) x) ∙ get-from_entries o (unit_entries xs) x ∙ none_found x xs apart in
          ap (λ es. count (keys_of es)) (entries-insert o (from_list {R = S} xs) x tt)
          ∙ count_put x (entries (from_list {R = S} xs)) none
          ∙ ap (λ n. one x + n) (count_same xs (IsDistinct-tail (eq_by_cmp R) x xs distinct))
          ∙ sym (count_first x xs)

-- as many triples of a layer fit in birth order as while they rise
pub count_select : (history : History) (k : ℕ) (pattern : Pattern) → length (filter (fits pattern) (members (content_at history k))) ≡ length (select history k pattern)
count_select history k pattern =
    let content = members (content_at history k) in
    sym (count_same (fits pattern) (birth_cmp history k) triple_cmp triple_cmp_total (birth_cmp_total history k) (birth_cmp-IsAntisymmetric history k) content
    (IsDistinct-from_sorted triple_cmp content (IsStrictlySortedBy-members triple_cmp (content_at history k))))
