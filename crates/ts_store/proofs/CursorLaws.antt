-- A list of cursors, no two of one name, as the map of what they have still to give.
use Rattle.std.proofs.Common.{◌≡◌, ℕ, zero, suc, ◌+◌, ◌<◌, Bool, true, false, cond, List, [], ◌∷◌, ◌++◌, length, drop, take, get_or, Option, Some, None, IsTrue, true≢false, refl, sym, ap, ◌∙◌, subst, arith}
use Rattle.std.specs.Prelude.{slice_get}
use Rattle.std.specs.List.{remove as remove_at, slice_set}
use Rattle.std.specs.Bool.{if◌then◌else◌}
use Rattle.std.specs.Option.{is_some, unwrap_or}
use Rattle.std.specs.Ordering.{nat_cmp}
use Rattle.std.specs.Cmp.Lexicographic.{slice_cmp, nat_list_cmp_total}
use Rattle.std.proofs.lemmas.List.{take_more}
use Rattle.std.specs.FinMap.{contains_key, empty, find, from_entries, from_entries_push, get, get-from_entries, get-insert, get-remove, insert, len, len-empty, len-insert, remove, same_map, slice_cmp-IsAntisymmetric, nat_cmp-IsAntisymmetric}
use Rattle.std.specs.FinMap.Entries.{find-append}
use Rattle.ts_model.specs.TextTriple.{TextTriple}
use Rattle.ts_site.proofs.FolderLemmas.{is_same, is_same-itself, same_name}
use Rattle.ts_store.specs.Cursors.{Cursors, left_of}
use Rattle.ts_store.specs.Places.{AreApart}

abbrev pub Entry : Type 0
Entry = List ℕ × List TextTriple

abbrev pub left_at : List ℕ → List Entry → Option (List TextTriple)
left_at = find (slice_cmp nat_cmp)

none_is : {A : Type 0} (x : A) → None ≡ Some x → ⊥
none_is x e = true≢false (sym (ap is_some e))

turned : (a b : List ℕ) → is_same a b ≡ false → is_same b a ≡ false
turned a b e = by_test (is_same b a) refl
  where
    by_test : (r : Bool) → is_same b a ≡ r → r ≡ false
    by_test true s = absurd (true≢false (sym (is_same-itself a) ∙ ap (is_same a) (sym (same_name b a s)) ∙ e))
    by_test false s = refl

-- a name that is not found is not that of the first
not_first : (name : List ℕ) (x : Entry) (es : List Entry) → left_at name (x ∷ es) ≡ None → (is_same name x.0 ≡ false) × (left_at name es ≡ None)
not_first name x es none = by_test (is_same name x.0) refl none
  where
    by_test : (b : Bool) → is_same name x.0 ≡ b → cond b (Some x.1) (left_at name es) ≡ None → (is_same name x.0 ≡ false) × (left_at name es ≡ None)
    by_test true e n = absurd (none_is x.1 (sym n))
    by_test false e n = (e, n)

-- ---- what stands at a place

-- the others are of other names
apart_from : (x : Entry) (es : List Entry) (name : List ℕ) (left : List TextTriple) → left_at x.0 es ≡ None → left_at name es ≡ Some left → is_same x.0 name ≡ false
apart_from x es name left none some = by_test (is_same x.0 name) refl
  where
    by_test : (b : Bool) → is_same x.0 name ≡ b → b ≡ false
    by_test true e = absurd (none_is left (sym none ∙ ap (λ n. left_at n es) (same_name x.0 name e) ∙ some))
    by_test false e = refl

pub found_at : (es : List Entry) (i : ℕ) (name : List ℕ) (left : List TextTriple) → AreApart es → slice_get es i ≡ Some (name, left) → left_at name es ≡ Some left
found_at [] i name left apart e = absurd (cc)
found_at (x ∷ es) zero name left apart e =
    let is : x ≡ (name, left) = cc in
    subst (λ (y : Entry). left_at name (y ∷ es) ≡ Some left) (sym is) (ap (λ b. cond b (Some left) (left_at name es)) (is_same-itself name))
found_at (x ∷ es) (suc i) name left apart e =
    let later = found_at es i name left apart.1 e in
    ap (λ b. cond b (Some x.1) (left_at name es)) (turned x.0 name (apart_from x es name left apart.0 later)) ∙ later

-- ---- a change at a place

shadowed : {A : Type 0} (b : Bool) (x y z : A) → cond b x z ≡ cond b x (cond b y z)
shadowed true x y z = refl
shadowed false x y z = refl

swapped : {A : Type 0} (a b : Bool) (x y z : A) → (b ≡ true → a ≡ false) → cond a x (cond b y z) ≡ cond b y (cond a x z)
swapped true true x y z apart = absurd (true≢false (apart refl))
swapped true false x y z apart = refl
swapped false b x y z apart = refl

-- behind another cursor the change is the same
behind : (x : Entry) (name q : List ℕ) (changed : Option (List TextTriple)) (es : List Entry) → is_same x.0 name ≡ false
    → cond (is_same q x.0) (Some x.1) (cond (is_same q name) changed (left_at q es)) ≡ cond (is_same q name) changed (left_at q (x ∷ es))
behind x name q changed es apart =
    swapped (is_same q x.0) (is_same q name) (Some x.1) changed (left_at q es) (λ e. ap (λ n. is_same n x.0) (same_name q name e) ∙ turned x.0 name apart)

set_at : (es : List Entry) (i : ℕ) (name : List ℕ) (left more : List TextTriple) (q : List ℕ) → AreApart es → slice_get es i ≡ Some (name, left)
    → left_at q (slice_set es i (name, more)) ≡ cond (is_same q name) (Some more) (left_at q es)
set_at [] i name left more q apart e = absurd (cc)
set_at (x ∷ es) zero name left more q apart e =
    let is : x ≡ (name, left) = cc in
    subst (λ (y : Entry). cond (is_same q name) (Some more) (left_at q es) ≡ cond (is_same q name) (Some more) (left_at q (y ∷ es))) (sym is)
    (shadowed (is_same q name) (Some more) (Some left) (left_at q es))
set_at (x ∷ es) (suc i) name left more q apart e =
    ap (cond (is_same q x.0) (Some x.1)) (set_at es i name left more q apart.1 e)
    ∙ behind x name q (Some more) es (apart_from x es name left apart.0 (found_at es i name left apart.1 e))

gone_at : (es : List Entry) (name q : List ℕ) (left : List TextTriple) → left_at name es ≡ None → left_at q es ≡ cond (is_same q name) None (left_at q ((name, left) ∷ es))
gone_at es name q left none = by_test (is_same q name) refl
  where
    by_test : (b : Bool) → is_same q name ≡ b → left_at q es ≡ cond b None (cond b (Some left) (left_at q es))
    by_test true e = ap (λ n. left_at n es) (same_name q name e) ∙ none
    by_test false e = refl

removed_at : (es : List Entry) (i : ℕ) (name : List ℕ) (left : List TextTriple) (q : List ℕ) → AreApart es → slice_get es i ≡ Some (name, left)
    → left_at q (remove_at es i) ≡ cond (is_same q name) None (left_at q es)
removed_at [] i name left q apart e = absurd (cc)
removed_at (x ∷ es) zero name left q apart e =
    let is : x ≡ (name, left) = cc in
    subst (λ (y : Entry). left_at y.0 es ≡ None → left_at q es ≡ cond (is_same q name) None (left_at q (y ∷ es))) (sym is) (gone_at es name q left) apart.0
removed_at (x ∷ es) (suc i) name left q apart e =
    ap (cond (is_same q x.0) (Some x.1)) (removed_at es i name left q apart.1 e)
    ∙ behind x name q None es (apart_from x es name left apart.0 (found_at es i name left apart.1 e))

-- ---- no two are of one name

pub apart_set : (es : List Entry) (i : ℕ) (name : List ℕ) (left more : List TextTriple) → AreApart es → slice_get es i ≡ Some (name, left) → AreApart (slice_set es i (name, more))
apart_set [] i name left more apart e = absurd (cc)
apart_set (x ∷ es) zero name left more apart e =
    let is : x ≡ (name, left) = cc in (ap (λ (y : Entry). left_at y.0 es) (sym is) ∙ apart.0, apart.1)
apart_set (x ∷ es) (suc i) name left more apart e = (
  set_at es i name left more x.0 apart.1 e
      ∙ ap (λ b. cond b (Some more) (left_at x.0 es)) (apart_from x es name left apart.0 (found_at es i name left apart.1 e))
      ∙ apart.0,
  apart_set es i name left more apart.1 e,
)

pub apart_removed : (es : List Entry) (i : ℕ) (name : List ℕ) (left : List TextTriple) → AreApart es → slice_get es i ≡ Some (name, left) → AreApart (remove_at es i)
apart_removed [] i name left apart e = absurd (cc)
apart_removed (x ∷ es) zero name left apart e = apart.1
apart_removed (x ∷ es) (suc i) name left apart e = (
  removed_at es i name left x.0 apart.1 e
      ∙ ap (λ b. cond b None (left_at x.0 es)) (apart_from x es name left apart.0 (found_at es i name left apart.1 e))
      ∙ apart.0,
  apart_removed es i name left apart.1 e,
)

pub apart_pushed : (es : List Entry) (name : List ℕ) (left : List TextTriple) → AreApart es → left_at name es ≡ None → AreApart (es ++ (name, left) ∷ [])
apart_pushed [] name left apart none = (refl, tt)
apart_pushed (x ∷ es) name left apart none =
    let other = not_first name x es none in (
      find-append (slice_cmp nat_cmp) nat_list_cmp_total es name left x.0 other.1
          ∙ ap (λ b. cond b (Some left) (left_at x.0 es)) (turned name x.0 other.0)
          ∙ apart.0,
      apart_pushed es name left apart.1 other.1,
    )

-- ---- the map

same_cursors : (m n : Cursors) → ((q : List ℕ) → get m q ≡ get n q) → m ≡ n
same_cursors = same_map nat_list_cmp_total (slice_cmp-IsAntisymmetric nat_cmp-IsAntisymmetric)

pub get_is : (es : List Entry) (q : List ℕ) → get (from_entries {R = slice_cmp nat_cmp} es) q ≡ left_at q es
get_is = get-from_entries nat_list_cmp_total

pub none_are : (es : List Entry) → es ≡ [] → from_entries {R = slice_cmp nat_cmp} es ≡ empty
none_are es e = ap (λ (l : List Entry). from_entries {R = slice_cmp nat_cmp} l) e

pub set_is : (es : List Entry) (i : ℕ) (name : List ℕ) (left more : List TextTriple) → AreApart es → slice_get es i ≡ Some (name, left)
    → from_entries {R = slice_cmp nat_cmp} (slice_set es i (name, more)) ≡ insert (from_entries es) name more
set_is es i name left more apart e =
    same_cursors _ _ (λ q.
    get_is (slice_set es i (name, more)) q ∙ set_at es i name left more q apart e
    ∙ sym (get-insert nat_list_cmp_total (from_entries es) name more q ∙ ap (cond (is_same q name) (Some more)) (get_is es q)))

pub removed_is : (es : List Entry) (i : ℕ) (name : List ℕ) (left : List TextTriple) → AreApart es → slice_get es i ≡ Some (name, left)
    → from_entries {R = slice_cmp nat_cmp} (remove_at es i) ≡ remove (from_entries es) name
removed_is es i name left apart e =
    same_cursors _ _ (λ q.
    get_is (remove_at es i) q ∙ removed_at es i name left q apart e
    ∙ sym (get-remove nat_list_cmp_total (from_entries es) name q ∙ ap (cond (is_same q name) None) (get_is es q)))

pub pushed_is : (es : List Entry) (name : List ℕ) (left : List TextTriple) → left_at name es ≡ None
    → from_entries {R = slice_cmp nat_cmp} (es ++ (name, left) ∷ []) ≡ insert (from_entries es) name left
pushed_is es name left none = from_entries_push nat_list_cmp_total (slice_cmp-IsAntisymmetric nat_cmp-IsAntisymmetric) es name left none

one_more : (n : ℕ) → n + 1 ≡ suc n
one_more n = omega arith

pub len_is : (es : List Entry) → AreApart es → len (from_entries {R = slice_cmp nat_cmp} es) ≡ length es
len_is [] apart = len-empty (slice_cmp nat_cmp) (List TextTriple)
len_is (x ∷ es) apart =
    len-insert nat_list_cmp_total (from_entries es) x.0 x.1
    ∙ ap (λ o. cond (is_some o) (len (from_entries {R = slice_cmp nat_cmp} es)) (len (from_entries {R = slice_cmp nat_cmp} es) + 1)) (get_is es x.0 ∙ apart.0)
    ∙ ap (λ n. n + 1) (len_is es apart.1) ∙ one_more (length es)

-- ---- a search from the first on

none_behind : (name : List ℕ) (es : List Entry) (x : Entry) → left_at name es ≡ None → is_same name x.0 ≡ false → left_at name (es ++ x ∷ []) ≡ None
none_behind name [] x none apart = ap (λ b. cond b (Some x.1) None) apart
none_behind name (y ∷ es) x none apart =
    let other = not_first name y es none in
    ap (λ b. cond b (Some y.1) (left_at name (es ++ x ∷ []))) other.0 ∙ none_behind name es x other.1 apart

-- none of one more is of the name
pub none_more : (name : List ℕ) (es : List Entry) (i : ℕ) (x : Entry) → i < length es → x ≡ get_or es i x → left_at name (take i es) ≡ None → is_same name x.0 ≡ false
    → left_at name (take (i + 1) es) ≡ None
none_more name es i x below is none apart =
    ap (left_at name) (take_more es i x below ∙ ap (λ (y : Entry). take i es ++ y ∷ []) (sym is)) ∙ none_behind name (take i es) x none apart

-- ---- a cursor that stands in the list

get_of : (es : List Entry) (i : ℕ) (y d : Entry) → slice_get es i ≡ Some y → get_or es i d ≡ y
get_of [] i y d e = absurd (cc)
get_of (x ∷ es) zero y d e = cc
get_of (x ∷ es) (suc i) y d e = get_of es i y d e

module _ (es lent : List Entry) (name : List ℕ) (cursors : Cursors) (apart : AreApart es) (view : from_entries {R = slice_cmp nat_cmp} es ≡ cursors) (same : lent ≡ es) where
  pub get_none : left_at name lent ≡ None → get cursors name ≡ None
  get_none none = ap (λ (m : Cursors). get m name) (sym view) ∙ get_is es name ∙ ap (left_at name) (sym same) ∙ none

  pub not_none : left_at name lent ≡ None → IsTrue (contains_key cursors name) → ⊥
  not_none none stands = true≢false (sym stands ∙ ap is_some (get_none none))

  module _ (i : ℕ) (stands : (left : List TextTriple) × (slice_get lent i ≡ Some (name, left))) where
    here : slice_get es i ≡ Some (name, stands.0)
    here = subst (λ (zs : List Entry). slice_get zs i ≡ Some (name, stands.0)) same stands.1

    pub get_here : get cursors name ≡ Some stands.0
    get_here = ap (λ (m : Cursors). get m name) (sym view) ∙ get_is es name ∙ found_at es i name stands.0 apart here

    module _ (x : Entry) (at : x ≡ get_or es i x) where
      entry_is : x ≡ (name, stands.0)
      entry_is = at ∙ get_of es i (name, stands.0) x here

      pub get_entry : Some x.1 ≡ get cursors name
      get_entry = ap (λ (y : Entry). Some y.1) entry_is ∙ sym get_here

      module _ (new : Entry) (n : ℕ) (given : new ≡ (x.0, drop n x.1)) where
        new_is : new ≡ (name, drop n stands.0)
        new_is = given ∙ ap (λ (y : Entry). (y.0, drop n y.1)) entry_is

        pub given_apart : AreApart (slice_set es i new)
        given_apart = subst (λ (y : Entry). AreApart (slice_set es i y)) (sym new_is) (apart_set es i name stands.0 (drop n stands.0) apart here)

        pub given_is : from_entries {R = slice_cmp nat_cmp} (slice_set es i new) ≡ insert cursors name (drop n (left_of cursors name))
        given_is =
            ap (λ (y : Entry). from_entries {R = slice_cmp nat_cmp} (slice_set es i y)) new_is
            ∙ set_is es i name stands.0 (drop n stands.0) apart here
            ∙ ap (λ (m : Cursors). insert m name (drop n stands.0)) view
            ∙ sym (ap (λ o. insert cursors name (drop n (unwrap_or o []))) get_here)

    module _ (made : List Entry) (is : made ≡ remove_at es i) where
      pub closed_apart : AreApart made
      closed_apart = subst AreApart (sym is) (apart_removed es i name stands.0 apart here)

      pub closed_is : from_entries {R = slice_cmp nat_cmp} made ≡ remove cursors name
      closed_is =
          ap (λ (zs : List Entry). from_entries {R = slice_cmp nat_cmp} zs) is ∙ removed_is es i name stands.0 apart here ∙ ap (λ (m : Cursors). remove m name) view

-- ---- a cursor that is opened

module _ (es made : List Entry) (name : List ℕ) (left : List TextTriple) (cursors : Cursors) (apart : AreApart es) (view : from_entries {R = slice_cmp nat_cmp} es ≡ cursors)
    (new : contains_key cursors name ≡ false) where
  is_new : left_at name es ≡ None
  is_new = by_found (left_at name es) refl
    where
      by_found : (o : Option (List TextTriple)) → left_at name es ≡ o → o ≡ None
      by_found None e = refl
      by_found (Some l) e = absurd (true≢false (sym (ap is_some (ap (λ (m : Cursors). get m name) (sym view) ∙ get_is es name ∙ e)) ∙ new))

  pub opened_apart : (ok : Bool) → made ≡ (if ok then es ++ (name, left) ∷ [] else es) → AreApart made
  opened_apart true is = subst AreApart (sym is) (apart_pushed es name left apart is_new)
  opened_apart false is = subst AreApart (sym is) apart

  pub opened_is : made ≡ es ++ (name, left) ∷ [] → from_entries {R = slice_cmp nat_cmp} made ≡ insert cursors name left
  opened_is is =
      ap (λ (zs : List Entry). from_entries {R = slice_cmp nat_cmp} zs) is ∙ pushed_is es name left is_new ∙ ap (λ (m : Cursors). insert m name left) view
