-- Different terms by one pass over sorted ones, and the places of all.
use Rattle.std.proofs.Common.{◌≡◌, ℕ, zero, suc, ◌+◌, ◌-◌, ◌<◌, inl, inr, Bool, true, false, cond, List, [], ◌∷◌, ◌++◌, map, length, get_or, drop, take, set, slice_get, slice_index, All, Contains, Bor, Some, refl, sym, ap, ◌∙◌, subst, true≢false, arith}
use Rattle.std.specs.List.{AllZip, dedup, dedup_from}
use Rattle.std.specs.List.Sorted.{IsPermutation, IsSorted, IsSortedBy}
use Rattle.std.specs.Ordering.{is_lt}
use Rattle.std.proofs.lemmas.Bool.{cases_eq, cases_lt}
use Rattle.std.proofs.lemmas.Option.{get_or_from_slice_get, slice_get_within}
use Rattle.std.proofs.lemmas.List.{drop_more, get_or_default, get_or-map, get_or-set_other, get_or-set_same, length-map, map-append, map-id, take_more}
use Rattle.std.proofs.lemmas.List.Elements.{All-head, All-map, All-more, All-tail, All-take}
use Rattle.std.proofs.lemmas.List.Sorted.{All-permutation, Contains-permutation, IsPermutation-map}
use Rattle.ts_plane.proofs.ObjectLemmas.{map-map}
use Rattle.ts_model.specs.TextTerm.{TextTerm}
use Rattle.ts_model.specs.Birth.{is_term}
use Rattle.ts_model.specs.Order.{term_cmp, term_cmp_total, term_cmp-IsAntisymmetric}
use Rattle.ts_model.specs.Sets.{from_list, members}
use Rattle.ts_part.proofs.Mentioned.{same_term}
use Rattle.ts_builder.specs.Ranks.{ends_with, placed, with_term}
use Rattle.ts_builder.proofs.HeadLemmas.{Occurrence, bare}
use Rattle.ts_builder.proofs.TermLemmas.{distinct_are}
use Rattle.ts_builder.proofs.ZipLemmas.{zip_by_index}

abbrev pub now : List (Bor TextTerm) → List TextTerm
now terms = map (λ (term : Bor TextTerm). term.now) terms

abbrev pub paired_terms : List Occurrence → List TextTerm
paired_terms pairs = map (λ (pair : Occurrence). pair.0.now) pairs

abbrev pub paired_places : List Occurrence → List ℕ
paired_places pairs = map (λ (pair : Occurrence). pair.1) pairs

-- ---- the last of the terms

pub ends_by_last : (terms : List (Bor TextTerm)) (term : TextTerm) (last : Bor TextTerm) (n : ℕ) → n ≡ length terms - 1 → slice_get terms n ≡ Some last → is_term term last.now ≡ ends_with (now terms) term
ends_by_last [] term last n at e = let none : ⊥ = cc in absurd none
ends_by_last (x ∷ []) term last zero at e = let same : x ≡ last = cc in ap (λ (t : Bor TextTerm). is_term term t.now) (sym same)
ends_by_last (x ∷ []) term last (suc n) at e = absurd (omega arith)
ends_by_last (x ∷ y ∷ ys) term last zero at e = absurd (omega arith)
ends_by_last (x ∷ y ∷ ys) term last (suc n) at e = ends_by_last (y ∷ ys) term last n (omega arith) e

pub last_get : (terms : List TextTerm) (term : TextTerm) (n : ℕ) → n ≡ length terms - 1 → ends_with terms term ≡ true → slice_get terms n ≡ Some term
last_get [] term n at e = absurd (true≢false (sym e))
last_get (x ∷ []) term zero at e = ap (λ t. Some t) (sym (same_term term x e))
last_get (x ∷ []) term (suc n) at e = absurd (omega arith)
last_get (x ∷ y ∷ ys) term zero at e = absurd (omega arith)
last_get (x ∷ y ∷ ys) term (suc n) at e = last_get (y ∷ ys) term n (omega arith) e

pub pushed_get : {X : Type 0} (terms : List X) (term : X) (n : ℕ) → n ≡ length terms → slice_get (terms ++ term ∷ []) n ≡ Some term
pushed_get [] term n at = ap (slice_get (term ∷ [])) at
pushed_get (x ∷ xs) term zero at = absurd (omega arith)
pushed_get (x ∷ xs) term (suc n) at = pushed_get xs term n (omega arith)

pub still_there : {X : Type 0} (terms more : List X) (n : ℕ) (term : X) → slice_get terms n ≡ Some term → slice_get (terms ++ more) n ≡ Some term
still_there [] more n term e = let none : ⊥ = cc in absurd none
still_there (x ∷ xs) more zero term e = e
still_there (x ∷ xs) more (suc n) term e = still_there xs more n term e

kept_with : (terms : List TextTerm) (term : TextTerm) (n : ℕ) (other : TextTerm) → slice_get terms n ≡ Some other → slice_get (with_term terms term) n ≡ Some other
kept_with terms term n other e =
    elim (ends_with terms term) as (λ b. slice_get (cond b terms (terms ++ term ∷ [])) n ≡ Some other) [
      | true ↦ e
      | false ↦ still_there terms (term ∷ []) n other e
    ]

-- ---- the terms so far, and those that are still to come

abbrev pub resumed : List TextTerm → List TextTerm → List TextTerm
resumed [] rest = dedup is_term rest
resumed (x ∷ []) rest = dedup_from is_term x rest
resumed (x ∷ y ∷ ys) rest = x ∷ resumed (y ∷ ys) rest

stays : (terms rest : List TextTerm) (term : TextTerm) → ends_with terms term ≡ true → resumed terms (term ∷ rest) ≡ resumed terms rest
stays [] rest term e = absurd (true≢false (sym e))
stays (x ∷ []) rest term e = ap (λ b. cond b (dedup_from is_term x rest) (x ∷ dedup_from is_term term rest)) e
stays (x ∷ y ∷ ys) rest term e = ap (λ terms. x ∷ terms) (stays (y ∷ ys) rest term e)

grows : (terms rest : List TextTerm) (term : TextTerm) → ends_with terms term ≡ false → resumed terms (term ∷ rest) ≡ resumed (terms ++ term ∷ []) rest
grows [] rest term e = refl
grows (x ∷ []) rest term e = ap (λ b. cond b (dedup_from is_term x rest) (x ∷ dedup_from is_term term rest)) e
grows (x ∷ y ∷ ys) rest term e = ap (λ terms. x ∷ terms) (grows (y ∷ ys) rest term e)

pub goes_on : (terms rest : List TextTerm) (term : TextTerm) → resumed terms (term ∷ rest) ≡ resumed (with_term terms term) rest
goes_on terms rest term = by (ends_with terms term) refl
  where
    by : (last : Bool) → ends_with terms term ≡ last → resumed terms (term ∷ rest) ≡ resumed (cond last terms (terms ++ term ∷ [])) rest
    by true e = stays terms rest term e
    by false e = grows terms rest term e

pub no_more : (terms : List TextTerm) → resumed terms [] ≡ terms
no_more [] = refl
no_more (x ∷ []) = refl
no_more (x ∷ y ∷ ys) = ap (λ terms. x ∷ terms) (no_more (y ∷ ys))

pub distinct_terms : (given sorted : List TextTerm) → IsPermutation given sorted → IsSorted term_cmp sorted → dedup is_term sorted ≡ members (from_list {R = term_cmp} given)
distinct_terms given sorted moved up =
    sym (map-id (dedup is_term sorted)) ∙ distinct_are term_cmp_total term_cmp-IsAntisymmetric (λ (term : TextTerm). term) given sorted moved up
    ∙ ap (λ terms. members (from_list {R = term_cmp} terms)) (map-id given)

-- ---- pairs of a term and its place

terms_of_placed : (pairs : List Occurrence) → map (λ (p : TextTerm × ℕ). p.0) (placed pairs) ≡ paired_terms pairs
terms_of_placed pairs = map-map bare (λ (p : TextTerm × ℕ). p.0) pairs

places_of_placed : (pairs : List Occurrence) → map (λ (p : TextTerm × ℕ). p.1) (placed pairs) ≡ paired_places pairs
places_of_placed pairs = map-map bare (λ (p : TextTerm × ℕ). p.1) pairs

pub terms_moved : (pairs sorted : List Occurrence) → IsPermutation (placed pairs) (placed sorted) → IsPermutation (paired_terms pairs) (paired_terms sorted)
terms_moved pairs sorted moved =
    subst (λ terms. IsPermutation terms (paired_terms sorted)) (terms_of_placed pairs)
    (subst (IsPermutation (map (λ (p : TextTerm × ℕ). p.0) (placed pairs))) (terms_of_placed sorted)
    (IsPermutation-map (λ (p : TextTerm × ℕ). p.0) (placed pairs) (placed sorted) moved))

places_moved : (pairs sorted : List Occurrence) → IsPermutation (placed pairs) (placed sorted) → IsPermutation (paired_places pairs) (paired_places sorted)
places_moved pairs sorted moved =
    subst (λ places. IsPermutation places (paired_places sorted)) (places_of_placed pairs)
    (subst (IsPermutation (map (λ (p : TextTerm × ℕ). p.1) (placed pairs))) (places_of_placed sorted)
    (IsPermutation-map (λ (p : TextTerm × ℕ). p.1) (placed pairs) (placed sorted) moved))

abbrev pub Stands : List TextTerm → Occurrence → Type 0
Stands given pair = slice_get given pair.1 ≡ Some pair.0.now

abbrev pub IsPlaced : List TextTerm → List ℕ → Occurrence → Type 0
IsPlaced terms places pair = slice_get terms (slice_index places pair.1) ≡ Some pair.0.now

get_map : {X Y : Type 0} (f : X → Y) (xs : List X) (k : ℕ) (d : X) → k < length xs → slice_get (map f xs) k ≡ Some (f (get_or xs k d))
get_map f [] k d below = absurd (omega arith)
get_map f (x ∷ xs) zero d below = refl
get_map f (x ∷ xs) (suc k) d below = get_map f xs k d (omega arith)

pub terms_more : (given : List (Bor TextTerm)) (pairs : List Occurrence) (i : ℕ) (term : Bor TextTerm) → paired_terms pairs ≡ now (take i given) → i < length given → term ≡ get_or given i term
    → paired_terms (pairs ++ (term, i, 0) ∷ []) ≡ now (take (i + 1) given)
terms_more given pairs i term terms below is =
    map-append (λ (pair : Occurrence). pair.0.now) pairs ((term, i, 0) ∷ []) ∙ ap (λ xs. xs ++ term.now ∷ []) terms ∙ sym (map-append (λ (t : Bor TextTerm). t.now) (take i given) (term ∷ []))
    ∙ ap now (ap (λ t. take i given ++ t ∷ []) is ∙ sym (take_more given i term below))

pub places_more : (pairs : List Occurrence) (i : ℕ) (term : Bor TextTerm) → length pairs ≡ i → ((k : ℕ) → k < i → slice_get (paired_places pairs) k ≡ Some k)
    → (k : ℕ) → k < i + 1 → slice_get (paired_places (pairs ++ (term, i, 0) ∷ [])) k ≡ Some k
places_more pairs i term many places k below =
    ap (λ xs. slice_get xs k) (map-append (λ (pair : Occurrence). pair.1) pairs ((term, i, 0) ∷ []))
    ∙ (elim (cases_lt k i) as (λ _. slice_get (paired_places pairs ++ i ∷ []) k ≡ Some k) [
      | inl before ↦ still_there (paired_places pairs) (i ∷ []) k k (places k before)
      | inr after ↦ (
          let at : i ≡ k = omega arith in
          pushed_get (paired_places pairs) i k (sym at ∙ sym many ∙ sym (length-map pairs (λ (pair : Occurrence). pair.1))) ∙ ap (λ n. Some n) at)
    ])

pub stand_first : (given : List TextTerm) (pairs : List Occurrence) → paired_terms pairs ≡ given → ((place : ℕ) → place < length given → slice_get (paired_places pairs) place ≡ Some place) → All (Stands given) pairs
stand_first given pairs terms places = λ k d below.
    let many : length given ≡ length pairs = sym (ap length terms) ∙ length-map pairs (λ (pair : Occurrence). pair.0.now) in
    let own : Some k ≡ Some (get_or pairs k d).1 = sym (places k (omega arith)) ∙ get_map (λ (pair : Occurrence). pair.1) pairs k d below in
    let place : k ≡ (get_or pairs k d).1 = cc in
    ap (slice_get given) (sym place) ∙ ap (λ xs. slice_get xs k) (sym terms) ∙ get_map (λ (pair : Occurrence). pair.0.now) pairs k d below

abbrev StandsAt : List TextTerm → TextTerm × ℕ → Type 0
StandsAt given p = slice_get given p.1 ≡ Some p.0

pub stand_moved : (given : List TextTerm) (pairs sorted : List Occurrence) → IsPermutation (placed pairs) (placed sorted) → All (Stands given) pairs → All (Stands given) sorted
stand_moved given pairs sorted moved stand = λ k d below.
    subst (StandsAt given) (get_or-map bare sorted k d (bare d) below)
    (All-permutation (StandsAt given) (placed pairs) (placed sorted) moved (All-map (StandsAt given) bare pairs stand) k (bare d) (subst (λ n. k < n) (sym (length-map sorted bare)) below))

pub each_place : (given : List TextTerm) (pairs sorted : List Occurrence) → IsPermutation (placed pairs) (placed sorted) → ((place : ℕ) → place < length given → slice_get (paired_places pairs) place ≡ Some place)
    → (place : ℕ) → place < length given → Contains (paired_places sorted) place
each_place given pairs sorted moved places place below =
    Contains-permutation (paired_places pairs) (paired_places sorted) place (places_moved pairs sorted moved)
    (place, slice_get_within (paired_places pairs) place place (places place below), get_or_from_slice_get (paired_places pairs) place place place (places place below))

pub rising_terms : (pairs : List Occurrence) → IsSortedBy (λ (x y : Occurrence). is_lt (term_cmp x.0.now y.0.now)) pairs → IsSorted term_cmp (paired_terms pairs)
rising_terms [] h k d low high = absurd (omega arith)
rising_terms (x ∷ xs) h k d low high =
    let within : k + 1 < length (x ∷ xs) = omega (arith, length-map (x ∷ xs) (λ (pair : Occurrence). pair.0.now)) in
    let here = get_or-map (λ (pair : Occurrence). pair.0.now) (x ∷ xs) k x d (omega arith) in
    let next = get_or-map (λ (pair : Occurrence). pair.0.now) (x ∷ xs) (k + 1) x d within in
    (λ i. is_lt (term_cmp (next i) (here i))) ∙ h k x low within

-- ---- one pair more

pub terms_from : (pairs : List Occurrence) (i : ℕ) (pair : Occurrence) → i < length pairs → pair ≡ get_or pairs i pair → paired_terms (drop i pairs) ≡ pair.0.now ∷ paired_terms (drop (i + 1) pairs)
terms_from pairs i pair below is = ap paired_terms (drop_more pairs i pair below) ∙ ap (λ (p : Occurrence). p.0.now ∷ paired_terms (drop (i + 1) pairs)) (sym is)

pub placed_more : (given terms grown : List TextTerm) (pairs : List Occurrence) (i : ℕ) (pair : Occurrence) (places : List ℕ) (place : ℕ) → All (Stands given) pairs → All (IsPlaced terms places) (take i pairs)
    → i < length pairs → pair ≡ get_or pairs i pair → grown ≡ with_term terms pair.0.now → slice_get grown place ≡ Some pair.0.now → length given ≡ length places
    → All (IsPlaced grown (set places pair.1 place)) (take (i + 1) pairs)
placed_more given terms grown pairs i pair places place stand placed below is more there many =
    All-more (IsPlaced grown (set places pair.1 place)) pairs i pair below
    (λ k d within. by (get_or (take i pairs) k d) (placed k d within) (All-take (Stands given) i pairs stand k d within))
    (subst (IsPlaced grown (set places pair.1 place)) is here)
  where
    own : Stands given pair
    own = subst (Stands given) (sym is) (stand i pair below)

    inside : pair.1 < length places
    inside = subst (λ n. pair.1 < n) many (slice_get_within given pair.1 pair.0.now own)

    here : IsPlaced grown (set places pair.1 place) pair
    here = ap (slice_get grown) (get_or-set_same places pair.1 place 0 inside) ∙ there

    by : (other : Occurrence) → IsPlaced terms places other → Stands given other → IsPlaced grown (set places pair.1 place) other
    by other at stands = elim (cases_eq other.1 pair.1) as (λ _. IsPlaced grown (set places pair.1 place) other) [
      | inl same ↦ ap (λ n. slice_get grown (slice_index (set places pair.1 place) n)) same ∙ here ∙ sym own ∙ ap (slice_get given) (sym same) ∙ stands
      | inr differ ↦ ap (slice_get grown) (get_or-set_other places pair.1 other.1 place 0 differ)
          ∙ ap (λ terms. slice_get terms (slice_index places other.1)) more ∙ kept_with terms pair.0.now (slice_index places other.1) other.0.now at
    ]

-- ---- all of them

with_place : (P : Occurrence → Type 0) (pairs : List Occurrence) (place k : ℕ) → All P pairs → k < length (paired_places pairs) → get_or (paired_places pairs) k place ≡ place → (pair : Occurrence) × P pair × (pair.1 ≡ place)
with_place P [] place k all below is = absurd (omega arith)
with_place P (x ∷ xs) place zero all below is = (x, All-head P x xs all, is)
with_place P (x ∷ xs) place (suc k) all below is = with_place P xs place k (All-tail P x xs all) (omega arith) is

pub places_are : (given terms : List TextTerm) (pairs : List Occurrence) (places : List ℕ) → length given ≡ length places → All (Stands given) pairs → All (IsPlaced terms places) pairs
    → ((place : ℕ) → place < length given → Contains (paired_places pairs) place) → AllZip (λ (term : TextTerm) (place : ℕ). slice_get terms place ≡ Some term) given places
places_are given terms pairs places many stand placed each = zip_by_index (λ (term : TextTerm) (place : ℕ). slice_get terms place ≡ Some term) given places many (λ i d e below.
    let at = each i below in
    let found = with_place (λ pair. Stands given pair × IsPlaced terms places pair) pairs i at.0 (λ k d within. (stand k d within, placed k d within)) at.1 at.2 in
    let pair = found.0 in
    let same : pair.0.now ≡ get_or given i d = sym (get_or_from_slice_get given i pair.0.now d (ap (slice_get given) (sym found.2) ∙ found.1.0)) in
    ap (slice_get terms) (get_or_default places i e 0 (subst (λ n. i < n) many below) ∙ ap (slice_index places) (sym found.2)) ∙ found.1.1 ∙ ap (λ t. Some t) same)
