-- A search by halves in a rising list of triples, and what a filter leaves of such a list.
use Rattle.std.proofs.Common.{◌≡◌, ℕ, zero, suc, ◌+◌, ◌<◌, Bool, true, false, ◌&&◌, ◌||◌, cond, List, [], ◌∷◌, map, filter, length, get_or, All, refl, sym, ap, ◌∙◌, subst, true≢false, arith}
use Rattle.std.specs.declared.cmp.Ordering.TheVariants.{Less, Equal, Greater}
use Rattle.std.specs.Ordering.{eq_by_cmp, is_eq, is_lt, ordering_reverse}
use Rattle.std.specs.Cmp.{Equal-is, eq_by_cmp_equiv, tied_itself}
use Rattle.std.specs.List.Sorted.{IsStrictlySortedBy, IsSortedBy, IsPartitionPoint}
use Rattle.std.proofs.lemmas.Bool.{cases_lt}
use Rattle.std.proofs.lemmas.List.Elements.{All-nil, All-cons, All-head, All-tail}
use Rattle.std.proofs.lemmas.Map.Keys.{Less-from_sorted}
use Rattle.std.proofs.Math.Logic.{⊎_elim}
use Rattle.ts_model.specs.TextTriple.{TextTriple}
use Rattle.ts_model.specs.Order.{triple_cmp, triple_cmp_total, triple_cmp-IsAntisymmetric}
use Rattle.ts_plain.proofs.LayerLaws.{is_among}

flips : (x q : TextTriple) → eq_by_cmp triple_cmp q x ≡ eq_by_cmp triple_cmp x q
flips x q = (eq_by_cmp_equiv triple_cmp_total).symm q x

or_true : (b : Bool) → (b || true) ≡ true
or_true true = refl
or_true false = refl

-- ---- what a search finds

pub among_at : (triples : List TextTriple) (q : TextTriple) (i : ℕ) → i < length triples → ((d : TextTriple) → triple_cmp (get_or triples i d) q ≡ Equal) → is_among triples q ≡ true
among_at [] q i below tied = absurd (omega arith)
among_at (x ∷ xs) q zero below tied = ap (λ b. b || is_among xs q) (flips x q ∙ ap is_eq (tied x))
among_at (x ∷ xs) q (suc i) below tied = ap (λ b. eq_by_cmp triple_cmp q x || b) (among_at xs q i (omega arith) tied) ∙ or_true (eq_by_cmp triple_cmp q x)

none_of : (triples : List TextTriple) (q : TextTriple) → All (λ x. eq_by_cmp triple_cmp q x ≡ false) triples → is_among triples q ≡ false
none_of [] q apart = refl
none_of (x ∷ xs) q apart =
    ap (λ b. b || is_among xs q) (All-head (λ x. eq_by_cmp triple_cmp q x ≡ false) x xs apart)
    ∙ none_of xs q (All-tail (λ x. eq_by_cmp triple_cmp q x ≡ false) x xs apart)

pub among_none : (triples : List TextTriple) (q : TextTriple) (i : ℕ)
    → IsPartitionPoint (λ x. triple_cmp x q ≡ Less) (λ x. triple_cmp x q ≡ Greater) triples i → is_among triples q ≡ false
among_none triples q i parts = none_of triples q (λ k d below.
    flips (get_or triples k d) q
    ∙ ⊎_elim (λ before. ap is_eq (parts.0 k d (omega arith) before)) (λ after. ap is_eq (parts.1 k d after below)) (cases_lt k i))

pub sorted_triples : (triples : List TextTriple) → IsStrictlySortedBy triple_cmp triples → IsSortedBy (λ a b. is_lt (triple_cmp a b)) triples
sorted_triples triples rise = λ k d _ below.
    ap is_lt (triple_cmp_total.antisymm (get_or triples (k + 1) d) (get_or triples k d))
    ∙ ap (λ r. is_lt (ordering_reverse r)) (Less-from_sorted triple_cmp triples k (k + 1) d rise (omega arith) below)

-- ---- what is said of each triple of a list

-- a triple among these that all have P
pub among_has : (P : TextTriple → Type 0) (triples : List TextTriple) (q : TextTriple) → All P triples → is_among triples q ≡ true → P q
among_has P [] q all is = absurd (true≢false (sym is))
among_has P (x ∷ xs) q all is =
    elim (eq_by_cmp triple_cmp q x) as (λ b. eq_by_cmp triple_cmp q x ≡ b → (b || is_among xs q) ≡ true → P q) [
      | true ↦ λ here _. subst P (sym (triple_cmp-IsAntisymmetric q x ((Equal-is (triple_cmp q x)).0 here))) (All-head P x xs all)
      | false ↦ λ there later. among_has P xs q (All-tail P x xs all) later
    ] refl is

-- all have P where those among them do
pub all_among : (P : TextTriple → Type 0) (triples : List TextTriple) → ((q : TextTriple) → is_among triples q ≡ true → P q) → All P triples
all_among P [] each = All-nil P
all_among P (x ∷ xs) each =
    All-cons P x xs (each x (ap (λ b. b || is_among xs x) (ap is_eq (tied_itself triple_cmp_total x))))
    (all_among P xs (λ q is. each q (ap (λ b. eq_by_cmp triple_cmp q x || b) is ∙ or_true (eq_by_cmp triple_cmp q x))))

-- ---- what a filter leaves

-- a triple is left where it stands in the list and passes the test
pub among_filter : (p : TextTriple → Bool) (triples : List TextTriple) (q : TextTriple) → is_among (filter p triples) q ≡ (is_among triples q && p q)
among_filter p [] q = refl
among_filter p (x ∷ xs) q =
    let later : is_among (filter p xs) q ≡ (is_among xs q && p q) = among_filter p xs q in
    elim (eq_by_cmp triple_cmp q x) as (λ b. eq_by_cmp triple_cmp q x ≡ b → is_among (cond (p x) (x ∷ filter p xs) (filter p xs)) q ≡ ((b || is_among xs q) && p q)) [
      | true ↦ λ e.
          let same : q ≡ x = triple_cmp-IsAntisymmetric q x ((Equal-is (triple_cmp q x)).0 e) in
          here (p x) e (ap p (sym same)) later
      | false ↦ λ e. there (p x) e ∙ later
    ] refl
  where
    and_itself : (a b : Bool) → b ≡ false → (a && b) ≡ b
    and_itself true b e = refl
    and_itself false b e = sym e

    here : (b : Bool) → eq_by_cmp triple_cmp q x ≡ true → b ≡ p q → is_among (filter p xs) q ≡ (is_among xs q && p q) → is_among (cond b (x ∷ filter p xs) (filter p xs)) q ≡ p q
    here true e is later = ap (λ c. c || is_among (filter p xs) q) e ∙ is
    here false e is later = later ∙ and_itself (is_among xs q) (p q) (sym is)

    there : (b : Bool) → eq_by_cmp triple_cmp q x ≡ false → is_among (cond b (x ∷ filter p xs) (filter p xs)) q ≡ is_among (filter p xs) q
    there true e = ap (λ c. c || is_among (filter p xs) q) e
    there false e = refl

-- elements that pass a test of their triples
pub filter-by : {X : Type 0} (triple : X → TextTriple) (test : X → Bool) (p : TextTriple → Bool) (xs : List X) → All (λ x. test x ≡ p (triple x)) xs
    → map triple (filter test xs) ≡ filter p (map triple xs)
filter-by triple test p [] h = refl
filter-by {X} triple test p (x ∷ xs) h =
    let later : map triple (filter test xs) ≡ filter p (map triple xs) = filter-by triple test p xs (All-tail (λ x. test x ≡ p (triple x)) x xs h) in
    left (test x)
    ∙ (λ i. cond (All-head (λ x. test x ≡ p (triple x)) x xs h i) (triple x ∷ later i) (later i))
  where
    left : (b : Bool) → map triple (cond b (x ∷ filter test xs) (filter test xs)) ≡ cond b (triple x ∷ map triple (filter test xs)) (map triple (filter test xs))
    left true = refl
    left false = refl
