-- What sets contain, and that a set's members are the one rising list of them.
use Rattle.std.proofs.Common.{◌≡◌, Bool, true, false, ◌&&◌, ◌||◌, T, cond, List, [], ◌∷◌, map, length, Option, Some, None, refl, sym, ap, ◌∙◌, subst}
use Rattle.std.specs.Option.{is_some}
use Rattle.std.specs.declared.cmp.Ordering.{Ordering}
use Rattle.std.specs.declared.cmp.Ordering.TheVariants.{Less, Equal, Greater}
use Rattle.std.specs.Ordering.{eq_by_cmp, is_lt, on}
use Rattle.std.specs.Cmp.{IsTotalOrder, Equal-is, on_total}
use Rattle.std.specs.List.{list_any, AllByRecursion, dedup}
use Rattle.std.specs.List.Sorted.{IsStrictlySortedBy, IsPermutation, IsSorted}
use Rattle.std.proofs.lemmas.List.{length-map}
use Rattle.std.proofs.lemmas.List.Kept.{IsStrictlySortedBy-dedup}
use Rattle.std.proofs.lemmas.List.Sorted.{list_any-IsPermutation}
use Rattle.std.specs.FinMap as finmap
use Rattle.std.specs.FinMap.{IsAntisymmetric}
use Rattle.std.specs.FinMap.Entries.{below_all, is_sorted}
use Rattle.ts_model.specs.Sets.{SetOf, unit_entries, contains, members, size, from_list, retain}
use Rattle.ts_model.proofs.ListLaws.{list_any-map, list_any-dedup, IsStrictlySortedBy-map}

keys-unit_entries : {K : Type 0} (keys : List K) → map (λ (e : K × Unit {0}). e.0) (unit_entries keys) ≡ keys
keys-unit_entries [] = refl
keys-unit_entries (k ∷ ks) = ap (λ l. k ∷ l) (keys-unit_entries ks)

unit_entries-keys : {K : Type 0} (entries : List (K × Unit {0})) → unit_entries (map (λ (e : K × Unit {0}). e.0) entries) ≡ entries
unit_entries-keys [] = refl
unit_entries-keys (e ∷ es) = ap (λ l. e ∷ l) (unit_entries-keys es)

is_less : (r : Ordering) → r ≡ Less → T (is_lt r)
is_less r e = subst (λ o. T (is_lt o)) (sym e) tt

less_is : (r : Ordering) → T (is_lt r) → r ≡ Less
less_is Less h = refl
less_is Equal h = absurd h
less_is Greater h = absurd h

both : (a b : Bool) → T a → T b → T (a && b)
both true b p q = q
both false b p q = p

first : (a b : Bool) → T (a && b) → T a
first true b p = tt
first false b p = p

second : (a b : Bool) → T (a && b) → T b
second true b p = p
second false b p = absurd p

abbrev mark : Bool → Option (Unit {0})
mark b = cond b (Some tt) None

marks : (x : Option (Unit {0})) → x ≡ mark (is_some x)
marks None = refl
marks (Some u) = refl

kept : (b : Bool) (x : Option (Unit {0})) → is_some (cond b x None) ≡ (is_some x && b)
kept true None = refl
kept true (Some u) = refl
kept false None = refl
kept false (Some u) = refl

module _ {K : Type 0} (R : K → K → Ordering) where
  is_some-find : (q : K) (keys : List K) → is_some (finmap.find R q (unit_entries keys)) ≡ list_any (eq_by_cmp R q) keys
  is_some-find q [] = refl
  is_some-find q (k ∷ ks) = elim (eq_by_cmp R q k) as (λ b. is_some (cond b (Some tt) (finmap.find R q (unit_entries ks))) ≡ (b || list_any (eq_by_cmp R q) ks)) [ true ↦ refl | false ↦ is_some-find q ks ]

  below-unit_entries : (x : K) (keys : List K) → AllByRecursion (λ y. R x y ≡ Less) keys → T (below_all R x (unit_entries keys))
  below-unit_entries x [] h = tt
  below-unit_entries x (k ∷ ks) h = both _ _ (is_less _ h.0) (below-unit_entries x ks h.1)

  all-below : (x : K) (keys : List K) → T (below_all R x (unit_entries keys)) → AllByRecursion (λ y. R x y ≡ Less) keys
  all-below x [] h = tt
  all-below x (k ∷ ks) h = (less_is _ (first _ _ h), all-below x ks (second (is_lt (R x k)) _ h))

  sorted-unit_entries : (keys : List K) → IsStrictlySortedBy R keys → T (is_sorted R (unit_entries keys))
  unfolding IsStrictlySortedBy
  sorted-unit_entries [] h = tt
  sorted-unit_entries (k ∷ ks) h = both _ _ (below-unit_entries k ks h.0) (sorted-unit_entries ks h.1)

  rising-unit_entries : (keys : List K) → T (is_sorted R (unit_entries keys)) → IsStrictlySortedBy R keys
  unfolding IsStrictlySortedBy
  rising-unit_entries [] h = tt
  rising-unit_entries (k ∷ ks) h = (all-below k ks (first _ _ h), rising-unit_entries ks (second (below_all R k (unit_entries ks)) _ h))

  -- the members rise
  pub IsStrictlySortedBy-members : (set : SetOf R) → IsStrictlySortedBy R (members set)
  IsStrictlySortedBy-members set = rising-unit_entries (members set) (subst (λ es. T (is_sorted R es)) (sym (unit_entries-keys (finmap.entries set))) (finmap.entries_sorted set))

  pub contains-members : (set : SetOf R) (q : K) → contains set q ≡ list_any (eq_by_cmp R q) (members set)
  contains-members set q = finmap.contains_key-keys set q

  pub contains-retain : (set : SetOf R) (test : K → Bool) (q : K) → ((x : K) → R q x ≡ Equal → test x ≡ test q) → contains (retain set test) q ≡ (contains set q && test q)
  contains-retain set test q alike = ap is_some (finmap.get-retain_keys set test q alike) ∙ kept (test q) (finmap.get set q)

  module _ (o : IsTotalOrder R) where
    pub contains-from_list : (keys : List K) (q : K) → contains (from_list {R = R} keys) q ≡ list_any (eq_by_cmp R q) keys
    contains-from_list keys q = ap is_some (finmap.get-from_entries o (unit_entries keys) q) ∙ is_some-find q keys

    module _ (same : IsAntisymmetric R) where
      -- two sets that contain the same are one
      pub same_set : (set other : SetOf R) → ((q : K) → contains set q ≡ contains other q) → set ≡ other
      same_set set other is = finmap.same_map o same set other (λ q. marks _ ∙ ap mark (is q) ∙ sym (marks _))

      -- the rising list of what a set contains is its list of members
      pub members_are : (set : SetOf R) (keys : List K) → IsStrictlySortedBy R keys → ((q : K) → list_any (eq_by_cmp R q) keys ≡ contains set q) → keys ≡ members set
      members_are set keys rising is =
          let made : SetOf R = finmap.from_sorted (unit_entries keys) in
          let entries_are : finmap.entries made ≡ unit_entries keys = finmap.entries-from_sorted R (unit_entries keys) (sorted-unit_entries keys rising) in
          let keys_are : members made ≡ keys = ap (map (λ (e : K × Unit {0}). e.0)) entries_are ∙ keys-unit_entries keys in
          let sets : made ≡ set = same_set made set (λ q. contains-members made q ∙ ap (list_any (eq_by_cmp R q)) keys_are ∙ is q) in
          sym keys_are ∙ ap members sets

-- the number of elements that a sort by a key and a `dedup` leave is the number of keys
pub length-distinct : {X K : Type 0} {R : K → K → Ordering} (o : IsTotalOrder R) (same : IsAntisymmetric R) (key : X → K) (xs sorted : List X)
    → IsPermutation xs sorted → IsSorted (on key R) sorted → length (dedup (eq_by_cmp (on key R)) sorted) ≡ size (from_list {R = R} (map key xs))
length-distinct {X} {K} {R} o same key xs sorted moved up =
    let kept : List X = dedup (eq_by_cmp (on key R)) sorted in
    let rising : IsStrictlySortedBy R (map key kept) = IsStrictlySortedBy-map R key kept (IsStrictlySortedBy-dedup (on_total key o) (λ x y. refl) sorted up) in
    let among : (q : K) → list_any (eq_by_cmp R q) (map key kept) ≡ contains (from_list {R = R} (map key xs)) q = λ q.
    list_any-map (eq_by_cmp R q) key kept
    ∙ list_any-dedup (eq_by_cmp (on key R)) (λ x. eq_by_cmp R q (key x)) (λ x k e. ap (λ t. eq_by_cmp R q t) (same (key x) (key k) ((Equal-is (R (key x) (key k))).0 e))) sorted
    ∙ sym (list_any-IsPermutation (λ x. eq_by_cmp R q (key x)) xs sorted moved)
    ∙ sym (list_any-map (eq_by_cmp R q) key xs)
    ∙ sym (contains-from_list R o (map key xs) q) in
    sym (length-map kept key) ∙ ap length (members_are R o same (from_list (map key xs)) (map key kept) rising among)
