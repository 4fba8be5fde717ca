-- What stands under a name after a call.
use Rattle.std.proofs.Common.{◌≡◌, ◌≢◌, ◌<◌, ◌≤◌, ◌+◌, ◌-◌, take, get_or, length, arith, true, false, List, [], ◌∷◌, ◌++◌, ℕ, Option, None, Some, refl, sym, ap, subst, ◌∙◌}
use Rattle.std.specs.Str.{bytes_eq}
use Rattle.std.specs.FinMap.{get, insert, remove}
use Rattle.std.proofs.lemmas.List.{take_more}
use Rattle.std.proofs.lemmas.Slice.Eq.{bytes_eq-Decides}
use Rattle.ts_site.specs.declared.call.Stored.{Stored}
use Rattle.ts_site.specs.declared.call.Call.{Call}
use Rattle.ts_site.specs.Folder.{Folder, moved, moved_file}
use Rattle.ts_site.specs.Call.{content, happens, folder_after, with_files}
use Rattle.ts_site.proofs.FolderLemmas.{get-insert_same, get-insert_other, get-remove_same, get-remove_other}

apart : (k q : List ℕ) → bytes_eq k q ≡ false → q ≢ k
apart k q differ same = let equal : bytes_eq k q ≡ true = (bytes_eq-Decides k q).1 (sym same) in cc

pub get_made : (m : Folder) (k v q : List ℕ) → bytes_eq k q ≡ true → get (insert m k v) q ≡ Some v
get_made m k v q equal = subst (λ (n : List ℕ). get (insert m k v) n ≡ Some v) ((bytes_eq-Decides k q).0 equal) (get-insert_same m k v)

pub get_made_other : (m : Folder) (k v q : List ℕ) → bytes_eq k q ≡ false → get (insert m k v) q ≡ get m q
get_made_other m k v q differ = get-insert_other m k v q (apart k q differ)

pub get_gone : (m : Folder) (k q : List ℕ) → bytes_eq k q ≡ true → get (remove m k) q ≡ None
get_gone m k q equal = subst (λ (n : List ℕ). get (remove m k) n ≡ None) ((bytes_eq-Decides k q).0 equal) (get-remove_same m k)

pub get_gone_other : (m : Folder) (k q : List ℕ) → bytes_eq k q ≡ false → get (remove m k) q ≡ get m q
get_gone_other m k q differ = get-remove_other m k q (apart k q differ)

moved_at : (m : Folder) (from to q : List ℕ) (found : Option (List ℕ)) → bytes_eq to q ≡ true → get (moved_file m from to found) q ≡ found
moved_at m from to q None equal = get_gone m to q equal
moved_at m from to q (Some bytes) equal = get_made (remove m from) to bytes q equal

pub get_moved : (m : Folder) (from to q : List ℕ) → bytes_eq to q ≡ true → get (moved m from to) q ≡ get m from
get_moved m from to q equal = moved_at m from to q (get m from) equal

from_gone : (m : Folder) (from to q : List ℕ) (found : Option (List ℕ)) → get m from ≡ found → bytes_eq to q ≡ false → bytes_eq from q ≡ true → get (moved_file m from to found) q ≡ None
from_gone m from to q None is differ equal = get_gone_other m to q differ ∙ ap (get m) (sym ((bytes_eq-Decides from q).0 equal)) ∙ is
from_gone m from to q (Some bytes) is differ equal = get_made_other (remove m from) to bytes q differ ∙ get_gone m from q equal

pub get_moved_from : (m : Folder) (from to q : List ℕ) → bytes_eq to q ≡ false → bytes_eq from q ≡ true → get (moved m from to) q ≡ None
get_moved_from m from to q differ equal = from_gone m from to q (get m from) refl differ equal

moved_elsewhere : (m : Folder) (from to q : List ℕ) (found : Option (List ℕ)) → bytes_eq to q ≡ false → bytes_eq from q ≡ false → get (moved_file m from to found) q ≡ get m q
moved_elsewhere m from to q None not_to not_from = get_gone_other m to q not_to
moved_elsewhere m from to q (Some bytes) not_to not_from = get_made_other (remove m from) to bytes q not_to ∙ get_gone_other m from q not_from

pub get_moved_other : (m : Folder) (from to q : List ℕ) → bytes_eq to q ≡ false → bytes_eq from q ≡ false → get (moved m from to) q ≡ get m q
get_moved_other m from to q = moved_elsewhere m from to q (get m from)

pub ruleset lookups = (get_made, get_made_other, get_gone, get_gone_other, get_moved, get_moved_from, get_moved_other)

-- one more call
pub folder_after-push : (store : List ℕ) (calls : List Call) (call : Call) (folder : Folder) → folder_after store (calls ++ call ∷ []) folder ≡ happens store call (folder_after store calls folder)
folder_after-push store [] call folder = refl
folder_after-push store (first ∷ calls) call folder = folder_after-push store calls call (happens store first folder)

pub with_files-push : (store : List ℕ) (files : List Stored) (stored : Stored) (folder : Folder) → with_files store (files ++ stored ∷ []) folder ≡ insert (with_files store files folder) stored.name (content store stored)
with_files-push store [] stored folder = refl
with_files-push store (first ∷ files) stored folder = with_files-push store files stored (insert folder first.name (content store first))

-- the last element of a front
pub take_last : {A : Type 0} (xs : List A) (i : ℕ) (x : A) → 0 < i → i ≤ length xs → x ≡ get_or xs (i - 1) x → take i xs ≡ take (i - 1) xs ++ x ∷ []
take_last xs i x some within is =
    let next : i ≡ i - 1 + 1 = omega arith in
    ap (λ k. take k xs) next ∙ take_more xs (i - 1) x (omega arith) ∙ ap (λ y. take (i - 1) xs ++ y ∷ []) (sym is)

pub take_next : {A : Type 0} (xs : List A) (i : ℕ) (x : A) → i < length xs → x ≡ get_or xs i x → take (i + 1) xs ≡ take i xs ++ x ∷ []
take_next xs i x below is = take_more xs i x below ∙ ap (λ y. take i xs ++ y ∷ []) (sym is)

pub take_next_so : {A : Type 0} (xs ys : List A) (i : ℕ) (x : A) → xs ≡ ys → i < length xs → x ≡ get_or xs i x → take (i + 1) ys ≡ take i ys ++ x ∷ []
take_next_so xs ys i x same below is = ap (take (i + 1)) (sym same) ∙ take_next xs i x below is ∙ ap (λ l. take i l ++ x ∷ []) same
