-- What the calls of a change of a file come to.
use Rattle.std.proofs.Common.{◌≡◌, List, [], ℕ, Option, Result, Ok, Err, IsTrue, refl, sym, ap, subst, ◌∙◌, inl, inr}
use Rattle.std.specs.Prelude.{is_some}
use Rattle.std.specs.FinMap.{insert, remove, contains_key}
use Rattle.ts_site.specs.Folder.{Folder, IsAnyAt, Writes, Renames, appended, appended_file, moved, moved_file}
use Rattle.ts_site.proofs.FolderLemmas.{get-insert_same, insert-insert, remove-insert}
use Rattle.ts_replace.specs.Replaced.{new_tmp, replaced, Replaces}

-- a name that got a content stands
pub stands_inserted : (m n : Folder) (k v : List ℕ) → n ≡ insert m k v → IsTrue (contains_key n k)
stands_inserted m n k v e = subst (λ (f : Folder). IsTrue (contains_key f k)) (sym e) (subst (λ (o : Option (List ℕ)). IsTrue (is_some o)) (sym (get-insert_same m k v)) refl)

-- bytes at the end of an empty file are its content
pub appended-new : (m n : Folder) (k bytes : List ℕ) → n ≡ insert m k [] → appended n k bytes ≡ insert m k bytes
appended-new m n k bytes e =
    ap (λ f. appended f k bytes) e ∙ ap (appended_file (insert m k []) k bytes) (get-insert_same m k []) ∙ insert-insert m k [] bytes

-- whatever holds of one name of a changed folder holds of the folder before the change of that name
pub any_before : (m n new : Folder) (k t v : List ℕ) → k ≡ t → n ≡ insert m k v → IsAnyAt k n new → IsAnyAt t m new
any_before m n new k t v same e (inl gone) = inl (gone ∙ ap (λ f. remove f k) e ∙ remove-insert m k v ∙ ap (remove m) same)
any_before m n new k t v same e (inr (bytes, is)) = inr (bytes, is ∙ ap (λ f. insert f k bytes) e ∙ insert-insert m k v bytes ∙ ap (λ name. insert m name bytes) same)

-- a file that has its content has it whatever is answered
pub written : {E : Type 0} (r : Result (Unit {0}) E) (m new : Folder) (k t bytes : List ℕ) → k ≡ t → new ≡ insert m k bytes → Writes r t (insert m t bytes) m new
written (Ok x) m new k t bytes same e = e ∙ ap (λ name. insert m name bytes) same
written (Err x) m new k t bytes same e = inr (bytes, e ∙ ap (λ name. insert m name bytes) same)

pub moved-staged : (m s : Folder) (name bytes : List ℕ) → s ≡ insert m new_tmp bytes → moved s new_tmp name ≡ replaced m name bytes
moved-staged m s name bytes e =
    ap (λ f. moved f new_tmp name) e ∙ ap (moved_file (insert m new_tmp bytes) new_tmp name) (get-insert_same m new_tmp bytes)
    ∙ ap (λ f. insert f name bytes) (remove-insert m new_tmp bytes)

pub replaced_or_not : {E : Type 0} (r : Result (Unit {0}) E) (m s new : Folder) (name bytes : List ℕ) → s ≡ insert m new_tmp bytes → Renames r (moved s new_tmp name) s new → Replaces r name bytes m new
replaced_or_not (Ok x) m s new name bytes e is = is ∙ moved-staged m s name bytes e
replaced_or_not (Err x) m s new name bytes e (inl is) = inr (is ∙ moved-staged m s name bytes e)
replaced_or_not (Err x) m s new name bytes e (inr is) = inl (inr (bytes, is ∙ e))
