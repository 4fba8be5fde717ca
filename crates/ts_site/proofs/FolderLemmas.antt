-- Laws of folders.
use Rattle.std.proofs.Common.{◌≡◌, ◌≢◌, Bool, true, false, cond, List, ℕ, None, Some, refl, sym, ap, ◌∙◌}
use Rattle.std.specs.Ordering.{eq_by_cmp, is_eq, nat_cmp}
use Rattle.std.specs.Cmp.{tied_itself}
use Rattle.std.specs.Cmp.Lexicographic.{slice_cmp, nat_list_cmp_total}
use Rattle.std.specs.FinMap.{get, insert, remove, same_map, get-insert, get-remove, slice_cmp-IsAntisymmetric, nat_cmp-IsAntisymmetric}
use Rattle.std.specs.declared.cmp.Ordering.{Ordering}
use Rattle.std.specs.declared.cmp.Ordering.TheVariants.{Less, Equal, Greater}
use Rattle.ts_site.specs.Folder.{Folder}

-- whether two names are the same
abbrev pub is_same : List ℕ → List ℕ → Bool
is_same = eq_by_cmp (slice_cmp nat_cmp)

equal : (r : Ordering) → is_eq r ≡ true → r ≡ Equal
equal Less e = cc
equal Equal e = refl
equal Greater e = cc

pub same_name : (a b : List ℕ) → is_same a b ≡ true → a ≡ b
same_name a b e = slice_cmp-IsAntisymmetric nat_cmp-IsAntisymmetric a b (equal (slice_cmp nat_cmp a b) e)

pub is_same-itself : (a : List ℕ) → is_same a a ≡ true
is_same-itself a = ap is_eq (tied_itself nat_list_cmp_total a)

by_test : (b : Bool) → (b ≢ true) → b ≡ false
by_test true n = absurd (n refl)
by_test false n = refl

pub is_same-other : (a b : List ℕ) → a ≢ b → is_same a b ≡ false
is_same-other a b n = by_test (is_same a b) (λ e. n (same_name a b e))

-- folders that read alike are the same
pub same_folder : (m n : Folder) → ((q : List ℕ) → get m q ≡ get n q) → m ≡ n
same_folder = same_map nat_list_cmp_total (slice_cmp-IsAntisymmetric nat_cmp-IsAntisymmetric)

pub get_inserted : (m : Folder) (k v q : List ℕ) → get (insert m k v) q ≡ cond (is_same q k) (Some v) (get m q)
get_inserted = get-insert nat_list_cmp_total

pub get_removed : (m : Folder) (k q : List ℕ) → get (remove m k) q ≡ cond (is_same q k) None (get m q)
get_removed = get-remove nat_list_cmp_total

pub get-insert_same : (m : Folder) (k v : List ℕ) → get (insert m k v) k ≡ Some v
get-insert_same m k v = get_inserted m k v k ∙ ap (λ b. cond b (Some v) (get m k)) (is_same-itself k)

pub get-insert_other : (m : Folder) (k v q : List ℕ) → q ≢ k → get (insert m k v) q ≡ get m q
get-insert_other m k v q n = get_inserted m k v q ∙ ap (λ b. cond b (Some v) (get m q)) (is_same-other q k n)

pub get-remove_same : (m : Folder) (k : List ℕ) → get (remove m k) k ≡ None
get-remove_same m k = get_removed m k k ∙ ap (λ b. cond b None (get m k)) (is_same-itself k)

pub get-remove_other : (m : Folder) (k q : List ℕ) → q ≢ k → get (remove m k) q ≡ get m q
get-remove_other m k q n = get_removed m k q ∙ ap (λ b. cond b None (get m q)) (is_same-other q k n)

shadowed : {A : Type 0} (b : Bool) (x y z : A) → cond b x (cond b y z) ≡ cond b x z
shadowed true x y z = refl
shadowed false x y z = refl

-- the later content of a name counts
pub insert-insert : (m : Folder) (k v w : List ℕ) → insert (insert m k v) k w ≡ insert m k w
insert-insert m k v w = same_folder _ _ (λ q.
    get_inserted (insert m k v) k w q ∙ ap (cond (is_same q k) (Some w)) (get_inserted m k v q)
    ∙ shadowed (is_same q k) (Some w) (Some v) (get m q) ∙ sym (get_inserted m k w q))

-- a name that is taken away leaves nothing of its content
pub remove-insert : (m : Folder) (k v : List ℕ) → remove (insert m k v) k ≡ remove m k
remove-insert m k v = same_folder _ _ (λ q.
    get_removed (insert m k v) k q ∙ ap (cond (is_same q k) None) (get_inserted m k v q)
    ∙ shadowed (is_same q k) None (Some v) (get m q) ∙ sym (get_removed m k q))

pub remove-remove : (m : Folder) (k : List ℕ) → remove (remove m k) k ≡ remove m k
remove-remove m k = same_folder _ _ (λ q.
    get_removed (remove m k) k q ∙ ap (cond (is_same q k) None) (get_removed m k q)
    ∙ shadowed (is_same q k) None None (get m q) ∙ sym (get_removed m k q))

pub insert-remove : (m : Folder) (k v : List ℕ) → insert (remove m k) k v ≡ insert m k v
insert-remove m k v = same_folder _ _ (λ q.
    get_inserted (remove m k) k v q ∙ ap (cond (is_same q k) (Some v)) (get_removed m k q)
    ∙ shadowed (is_same q k) (Some v) None (get m q) ∙ sym (get_inserted m k v q))
