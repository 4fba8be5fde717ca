-- A rising list of names with their labels as a map: what stands at a place, and what a change there makes of it.
use Rattle.std.proofs.Common.{◌≡◌, ℕ, zero, suc, ◌+◌, ◌<◌, ◌&&◌, Bool, true, false, T, cond, List, [], ◌∷◌, length, get_or, Some, None, Result, Ok, Err, IsTrue, true≢false, refl, sym, ap, ◌∙◌, subst, arith}
use Rattle.std.specs.Prelude.{slice_get, is_some}
use Rattle.std.specs.List.{insert as insert_at, slice_set}
use Rattle.std.specs.declared.cmp.Ordering.{Ordering}
use Rattle.std.specs.declared.cmp.Ordering.TheVariants.{Less, Equal, Greater}
use Rattle.std.specs.Ordering.{nat_cmp, is_lt, is_eq, eq_by_cmp, ordering_reverse}
use Rattle.std.specs.Cmp.{tied_itself, eq_by_cmp_equiv}
use Rattle.std.specs.Cmp.Lexicographic.{slice_cmp, nat_list_cmp_total}
use Rattle.std.specs.List.Sorted.{IsSortedBy, IsSearchInRange, IsBinarySearchResult}
use Rattle.std.specs.FinMap.{entries, empty, get, insert, len, contains_key, from_sorted, is_sorted, find, put, entries-from_sorted, entries-insert, get-from_sorted, len-entries, empty_of_len, same_entries_map, slice_cmp-IsAntisymmetric, nat_cmp-IsAntisymmetric}
use Rattle.std.specs.FinMap.Entries.{below_all, by_order, is_sorted-put}
use Rattle.std.proofs.lemmas.Bool.{cases_lt}
use Rattle.std.proofs.lemmas.List.Sorted.{searchable_from_sorted}
use Rattle.std.proofs.Math.Logic.{⊎_elim}
use Rattle.ts_labels.specs.declared.label.Label.{Label}
use Rattle.ts_labels.specs.Labels.{Labels}
use Rattle.ts_labels.specs.Place.{StandsAt, BelongsAt, IsPlaceOf}

abbrev pub Entries : Type 0
Entries = List (List ℕ × Label)

abbrev cmp : List ℕ → List ℕ → Ordering
cmp = slice_cmp nat_cmp

abbrev Rises : Entries → Type 0
Rises es = IsTrue (is_sorted cmp es)

same : (x y : List ℕ) → cmp x y ≡ Equal → x ≡ y
same = slice_cmp-IsAntisymmetric nat_cmp-IsAntisymmetric

first_true : (a b : Bool) → (a && b) ≡ true → a ≡ true
first_true true b e = refl
first_true false b e = e

second_true : (a b : Bool) → (a && b) ≡ true → b ≡ true
second_true true b e = e
second_true false b e = absurd (true≢false (sym e))

is_less : (r : Ordering) → is_lt r ≡ true → r ≡ Less
is_less Less e = refl
is_less Equal e = absurd (true≢false (sym e))
is_less Greater e = absurd (true≢false (sym e))

to_T : (b : Bool) → b ≡ true → T b
to_T b e = subst T (sym e) tt

from_T : (b : Bool) → T b → b ≡ true
from_T true h = refl
from_T false h = absurd h

-- ---- order

below_get : (x : List ℕ) (es : Entries) (i : ℕ) (y : List ℕ × Label) → below_all cmp x es ≡ true → slice_get es i ≡ Some y → cmp x y.0 ≡ Less
below_get x [] i y h e = absurd (cc)
below_get x (z ∷ es) zero y h e =
    let is : z ≡ y = cc in
    subst (λ (w : List ℕ × Label). cmp x w.0 ≡ Less) is (is_less _ (first_true _ _ h))
below_get x (z ∷ es) (suc i) y h e = below_get x es i y (second_true _ _ h) e

below_at : (x : List ℕ) (es : Entries) (j : ℕ) (d : List ℕ × Label) → below_all cmp x es ≡ true → j < length es → cmp x (get_or es j d).0 ≡ Less
below_at x [] j d h below = absurd (omega arith)
below_at x (e ∷ es) zero d h below = is_less _ (first_true _ _ h)
below_at x (e ∷ es) (suc j) d h below = below_at x es j d (second_true _ _ h) (omega arith)

less : (es : Entries) (i j : ℕ) (d : List ℕ × Label) → Rises es → i < j → j < length es → cmp (get_or es i d).0 (get_or es j d).0 ≡ Less
less [] i j d h order below = absurd (omega arith)
less (e ∷ es) i zero d h order below = absurd (omega arith)
less (e ∷ es) zero (suc j) d h order below = below_at e.0 es j d (first_true _ _ h) (omega arith)
less (e ∷ es) (suc i) (suc j) d h order below = less es i j d (second_true _ _ h) (omega arith) (omega arith)

searchable : (es : Entries) → Rises es → IsSortedBy (λ a b. is_lt (cmp a.0 b.0)) es
searchable es h = λ k d _ below.
    ap is_lt (nat_list_cmp_total.antisymm (get_or es (k + 1) d).0 (get_or es k d).0)
    ∙ ap (λ r. is_lt (ordering_reverse r)) (less es k (k + 1) d h (omega arith) below)

-- ---- what a search finds

stands_at : (name : List ℕ) (es : Entries) (i : ℕ) → i < length es → ((d : List ℕ × Label) → cmp (get_or es i d).0 name ≡ Equal) → StandsAt name es i
stands_at name [] i below tied = absurd (omega arith)
stands_at name (e ∷ es) zero below tied = (e.1, ap (λ (n : List ℕ). Some (n, e.1)) (same e.0 name (tied e)))
stands_at name (e ∷ es) (suc i) below tied = stands_at name es i (omega arith) tied

pub place : (name : List ℕ) (es : Entries) (r : Result ℕ ℕ) → Rises es → IsSearchInRange r (length es) → IsBinarySearchResult (λ e. cmp e.0 name) es r → IsPlaceOf name es r
place name es (Ok i) h bound found = stands_at name es i bound found
place name es (Err i) h bound found = record {
  within = bound;
  between = found (searchable_from_sorted nat_list_cmp_total (λ (e : List ℕ × Label). e.0) es name (searchable es h));
}

-- ---- the map's value at a name

find_at : (name : List ℕ) (label : Label) (es : Entries) (i : ℕ) → Rises es → slice_get es i ≡ Some (name, label) → find cmp name es ≡ Some label
find_at name label [] i h e = absurd (cc)
find_at name label (x ∷ es) zero h e =
    let is : x ≡ (name, label) = cc in
    subst (λ (y : List ℕ × Label). cond (eq_by_cmp cmp name y.0) (Some y.1) (find cmp name es) ≡ Some label) (sym is)
    (ap (λ r. cond (is_eq r) (Some label) (find cmp name es)) (tied_itself nat_list_cmp_total name))
find_at name label (x ∷ es) (suc i) h e =
    let apart : eq_by_cmp cmp name x.0 ≡ false = (eq_by_cmp_equiv nat_list_cmp_total).symm name x.0 ∙ ap is_eq (below_get x.0 es i (name, label) (first_true _ _ h) e) in
    ap (λ b. cond b (Some x.1) (find cmp name es)) apart ∙ find_at name label es i (second_true _ _ h) e

find_none : (name : List ℕ) (es : Entries) → ((k : ℕ) (d : List ℕ × Label) → k < length es → eq_by_cmp cmp name (get_or es k d).0 ≡ false) → find cmp name es ≡ None
find_none name [] apart = refl
find_none name (x ∷ es) apart =
    ap (λ b. cond b (Some x.1) (find cmp name es)) (apart 0 x (omega arith))
    ∙ find_none name es (λ k d below. apart (suc k) d (omega arith))

find_between : (name : List ℕ) (es : Entries) (i : ℕ) → BelongsAt name es i → find cmp name es ≡ None
find_between name es i at = find_none name es (λ k d below.
    (eq_by_cmp_equiv nat_list_cmp_total).symm name (get_or es k d).0
    ∙ ⊎_elim (λ before. ap is_eq (at.between.0 k d (omega arith) before)) (λ after. ap is_eq (at.between.1 k d after below)) (cases_lt k i))

get_of : (es : Entries) (i : ℕ) (y d : List ℕ × Label) → slice_get es i ≡ Some y → get_or es i d ≡ y
get_of [] i y d e = absurd (cc)
get_of (x ∷ es) zero y d e = cc
get_of (x ∷ es) (suc i) y d e = get_of es i y d e

pub get-stands : (name : List ℕ) (es lent : Entries) (i : ℕ) (x : List ℕ × Label) (labels : Labels) → Rises es → StandsAt name lent i → lent ≡ es
    → x ≡ get_or es i x → from_sorted es ≡ labels → Some x.1 ≡ get labels name
get-stands name es lent i x labels h stands is at view =
    let here : slice_get es i ≡ Some (name, stands.0) = subst (λ (zs : Entries). slice_get zs i ≡ Some (name, stands.0)) is stands.1 in
    let entry : x ≡ (name, stands.0) = at ∙ get_of es i (name, stands.0) x here in
    ap (λ (e : List ℕ × Label). Some e.1) entry ∙ sym (find_at name stands.0 es i h here)
    ∙ sym (get-from_sorted cmp es name (to_T _ h)) ∙ ap (λ (m : Labels). get m name) view

pub get-belongs : (name : List ℕ) (es lent : Entries) (i : ℕ) (labels : Labels) → Rises es → BelongsAt name lent i → lent ≡ es
    → from_sorted es ≡ labels → None ≡ get labels name
get-belongs name es lent i labels h at is view =
    sym (find_between name es i (subst (λ (zs : Entries). BelongsAt name zs i) is at))
    ∙ sym (get-from_sorted cmp es name (to_T _ h)) ∙ ap (λ (m : Labels). get m name) view

pub contains-stands : (name : List ℕ) (es lent : Entries) (i : ℕ) (x : List ℕ × Label) (labels : Labels) → Rises es → StandsAt name lent i → lent ≡ es
    → x ≡ get_or es i x → from_sorted es ≡ labels → contains_key labels name ≡ true
contains-stands name es lent i x labels h stands is at view = ap is_some (sym (get-stands name es lent i x labels h stands is at view))

pub contains-belongs : (name : List ℕ) (es lent : Entries) (i : ℕ) (labels : Labels) → Rises es → BelongsAt name lent i → lent ≡ es
    → from_sorted es ≡ labels → contains_key labels name ≡ false
contains-belongs name es lent i labels h at is view = ap is_some (sym (get-belongs name es lent i labels h at is view))

-- ---- a change at a place

put_at : (name : List ℕ) (old new : Label) (es : Entries) (i : ℕ) → Rises es → slice_get es i ≡ Some (name, old) → put cmp name new es ≡ slice_set es i (name, new)
put_at name old new [] i h e = absurd (cc)
put_at name old new (x ∷ es) zero h e =
    let is : x ≡ (name, old) = cc in
    subst (λ (y : List ℕ × Label). by_order (cmp name y.0) ((name, new) ∷ y ∷ es) ((y.0, new) ∷ es) (y ∷ put cmp name new es) ≡ (name, new) ∷ es) (sym is)
    (ap (λ r. by_order r ((name, new) ∷ (name, old) ∷ es) ((name, new) ∷ es) ((name, old) ∷ put cmp name new es)) (tied_itself nat_list_cmp_total name))
put_at name old new (x ∷ es) (suc i) h e =
    let after : cmp name x.0 ≡ Greater = nat_list_cmp_total.antisymm name x.0 ∙ ap ordering_reverse (below_get x.0 es i (name, old) (first_true _ _ h) e) in
    ap (λ r. by_order r ((name, new) ∷ x ∷ es) ((x.0, new) ∷ es) (x ∷ put cmp name new es)) after
    ∙ ap (λ (zs : Entries). x ∷ zs) (put_at name old new es i (second_true _ _ h) e)

put_between : (name : List ℕ) (new : Label) (es : Entries) (i : ℕ) → BelongsAt name es i → put cmp name new es ≡ insert_at es i (name, new)
put_between name new [] zero at = refl
put_between name new [] (suc i) at = absurd (omega (arith, at.within))
put_between name new (x ∷ es) zero at =
    let before : cmp name x.0 ≡ Less = nat_list_cmp_total.antisymm name x.0 ∙ ap ordering_reverse (at.between.1 0 x (omega arith) (omega arith)) in
    ap (λ r. by_order r ((name, new) ∷ x ∷ es) ((x.0, new) ∷ es) (x ∷ put cmp name new es)) before
put_between name new (x ∷ es) (suc i) at =
    let after : cmp name x.0 ≡ Greater = nat_list_cmp_total.antisymm name x.0 ∙ ap ordering_reverse (at.between.0 0 x (omega arith) (omega arith)) in
    let rest : BelongsAt name es i = record {
      within = omega (arith, at.within);
      between = (λ k d low high. at.between.0 (suc k) d (omega arith) (omega arith), λ k d low high. at.between.1 (suc k) d (omega arith) (omega arith));
    } in
    ap (λ r. by_order r ((name, new) ∷ x ∷ es) ((x.0, new) ∷ es) (x ∷ put cmp name new es)) after
    ∙ ap (λ (zs : Entries). x ∷ zs) (put_between name new es i rest)

-- the list with the entry put is that of the map with the label inserted
pub record IsPut (name : List ℕ) (label : Label) (es made : Entries) (labels : Labels) : Type 0 where
  pub rises : Rises made
  pub map_is : from_sorted made ≡ insert labels name label

is_put : (name : List ℕ) (label : Label) (es made : Entries) (labels : Labels) → Rises es → from_sorted es ≡ labels → put cmp name label es ≡ made → IsPut name label es made labels
is_put name label es made labels h view e =
    let rises : T (is_sorted cmp made) = subst (λ (zs : Entries). T (is_sorted cmp zs)) e (is_sorted-put cmp nat_list_cmp_total name label es (to_T _ h)) in
    record {
      rises = from_T _ rises;
      map_is = same_entries_map _ _ (entries-from_sorted cmp made rises ∙ sym e ∙ ap (put cmp name label) (sym (entries-from_sorted cmp es (to_T _ h)))
          ∙ sym (entries-insert nat_list_cmp_total (from_sorted es) name label)) ∙ ap (λ (m : Labels). insert m name label) view;
    }

pub put-stands : (name : List ℕ) (label : Label) (es lent : Entries) (i : ℕ) (x : List ℕ × Label) (labels : Labels) → Rises es → from_sorted es ≡ labels
    → StandsAt name lent i → lent ≡ es → x ≡ get_or es i x → IsPut name label es (slice_set es i (x.0, label)) labels
put-stands name label es lent i x labels h view stands is at =
    let here : slice_get es i ≡ Some (name, stands.0) = subst (λ (zs : Entries). slice_get zs i ≡ Some (name, stands.0)) is stands.1 in
    let key : x.0 ≡ name = ap (λ (e : List ℕ × Label). e.0) (at ∙ get_of es i (name, stands.0) x here) in
    is_put name label es _ labels h view (put_at name stands.0 label es i h here ∙ ap (λ (n : List ℕ). slice_set es i (n, label)) (sym key))

pub put-belongs : (name : List ℕ) (label : Label) (es lent made : Entries) (i : ℕ) (labels : Labels) → Rises es → from_sorted es ≡ labels
    → BelongsAt name lent i → lent ≡ es → made ≡ insert_at es i (name, label) → IsPut name label es made labels
put-belongs name label es lent made i labels h view at is e =
    is_put name label es made labels h view (put_between name label es i (subst (λ (zs : Entries). BelongsAt name zs i) is at) ∙ sym e)

-- ---- the list as the map's

pub entries_are : (es : Entries) (labels : Labels) → Rises es → from_sorted es ≡ labels → es ≡ entries labels
entries_are es labels h view = sym (entries-from_sorted cmp es (to_T _ h)) ∙ ap entries view

got : (es : Entries) (i : ℕ) (d : List ℕ × Label) → i < length es → slice_get es i ≡ Some (get_or es i d)
got [] i d below = absurd (omega arith)
got (x ∷ es) zero d below = refl
got (x ∷ es) (suc i) d below = got es i d (omega arith)

-- an entry that is lent is the map's at that place
pub entry_is : (es lent : Entries) (labels : Labels) (i : ℕ) (x : List ℕ × Label) → Rises es → from_sorted es ≡ labels → lent ≡ es → i < length lent
    → x ≡ get_or lent i x → Some x ≡ slice_get (entries labels) i
entry_is es lent labels i x h view is below at =
    ap (λ (e : List ℕ × Label). Some e) at ∙ sym (got lent i x below) ∙ ap (λ (zs : Entries). slice_get zs i) (is ∙ entries_are es labels h view)

pub len_is : (es : Entries) (labels : Labels) → Rises es → from_sorted es ≡ labels → length es ≡ len labels
len_is es labels h view = ap length (entries_are es labels h view) ∙ sym (len-entries labels)

pub none_is_empty : (es : Entries) → es ≡ [] → from_sorted {R = cmp} es ≡ empty
none_is_empty es e =
    let sorted : T (is_sorted cmp es) = subst (λ (zs : Entries). T (is_sorted cmp zs)) (sym e) tt in
    empty_of_len (from_sorted es) (len-entries (from_sorted es) ∙ ap (λ (zs : Entries). length zs) (entries-from_sorted cmp es sorted ∙ e))
