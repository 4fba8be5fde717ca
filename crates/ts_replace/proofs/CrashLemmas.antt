-- What a crash leaves of a change of one file.
use Rattle.std.proofs.Common.{◌≡◌, ◌≢◌, ◌⊎◌, Bool, true, false, cond, not, ℕ, List, [], ◌∷◌, ◌++◌, map, Option, None, Some, IsTrue, refl, sym, ap, subst, ◌∙◌, inl, inr, arith}
use Rattle.std.specs.Prelude.{◌&&◌, ◌||◌, if◌then◌else◌, Contains}
use Rattle.std.specs.List.{list_any}
use Rattle.std.specs.Str.{bytes_eq}
use Rattle.std.specs.FinMap.{get, insert, remove}
use Rattle.std.proofs.lemmas.List.Elements.{Contains-append_cases, Contains-append_right, Contains-push_cases}
use Rattle.std.proofs.lemmas.Slice.Eq.{bytes_eq-Decides}
use Rattle.ts_site.specs.declared.crash.Tie.{Tie}
use Rattle.ts_site.specs.Crash.{CrashState, IsImage, EachImage, is_loose, ties_name, newest, with_file, with_names, without, written, renamed, ties_after, names_settled}
use Rattle.ts_site.specs.Folder.{Folder, moved, moved_file}
use Rattle.ts_site.proofs.FolderLemmas.{get-insert_same, get-insert_other, get-remove_same, get-remove_other, insert-insert, insert-remove, remove-insert, remove-remove}
use Rattle.ts_site.specs.Newest.{last_of-push, last_stands}
use Rattle.ts_site.proofs.CrashLemmas.{any-filter, only_one, or_cases, or_left, or_right}
use Rattle.ts_site.proofs.LeftLemmas.{any_pushed}
use Rattle.ts_replace.specs.Replaced.{new_tmp, replaced}
use Rattle.ts_replace.specs.CrashSafe.{AgreesBut, LeavesFolder, LeavesStaged, LeavesEither, staged, placed}

-- writing a file twice is writing it once
with_file-twice : (name : List ℕ) (one other : Option (List ℕ)) (folder : Folder) → with_file name other (with_file name one folder) ≡ with_file name other folder
with_file-twice name None None folder = remove-remove folder name
with_file-twice name (Some bytes) None folder = remove-insert folder name bytes
with_file-twice name None (Some more) folder = insert-remove folder name more
with_file-twice name (Some bytes) (Some more) folder = insert-insert folder name bytes more

map-twice : (f g h : Folder → Folder) (later : List Folder) → ((folder : Folder) → f (g folder) ≡ h folder) → map f (map g later) ≡ map h later
map-twice f g h [] same = refl
map-twice f g h (folder ∷ later) same = ap (λ first. first ∷ map f (map g later)) (same folder) ∙ ap (λ rest. h folder ∷ rest) (map-twice f g h later same)

itself : (name : List ℕ) → bytes_eq name name ≡ true
itself name = (bytes_eq-Decides name name).1 refl

drop_last : (name : List ℕ) (b : Bool) → b ≡ true → cond (not b) (name ∷ []) [] ≡ []
drop_last name true h = refl
drop_last name false h = cc

keep_kept : (name one : List ℕ) (names : List (List ℕ)) (b : Bool) → bytes_eq one name ≡ b → without name (cond (not b) (one ∷ without name names) (without name names) ++ name ∷ []) ≡ cond (not b) (one ∷ without name (without name names ++ name ∷ [])) (without name (without name names ++ name ∷ []))
keep_kept name one names true is = refl
keep_kept name one names false is = ap (λ c. cond (not c) (one ∷ without name (without name names ++ name ∷ [])) (without name (without name names ++ name ∷ []))) is

-- a name that was taken out and put last is taken out again
without-put : (name : List ℕ) (names : List (List ℕ)) → without name (without name names ++ name ∷ []) ≡ without name names
without-put name [] = drop_last name (bytes_eq name name) (itself name)
without-put name (one ∷ names) =
    keep_kept name one names (bytes_eq one name) refl ∙ ap (λ rest. cond (not (bytes_eq one name)) (one ∷ rest) rest) (without-put name names)

pub written-twice : (name : List ℕ) (one other : Option (List ℕ)) (state : CrashState) → written name other (written name one state) ≡ written name other state
written-twice name one other state = λ i. record {
  oldest = with_file-twice name one other state.oldest i;
  later = map-twice (with_file name other) (with_file name one) (with_file name other) state.later (with_file-twice name one other) i;
  loose = without-put name state.loose i ++ name ∷ [];
  ties = state.ties;
}

-- Each version of the names is the folder but for one file, no other file has unsettled bytes, and no rename of such a file is unsettled.
pub record IsQuiet (name : List ℕ) (folder : Folder) (state : CrashState) : Type 0 where
  pub versions : (version : Folder) → Contains (state.oldest ∷ state.later) version → AgreesBut name folder version
  pub firm : (file : List ℕ) → file ≢ name → is_loose state file ≡ false
  pub untied : (file : List ℕ) → list_any (ties_name file) state.ties ≡ false

not_so : (b : Bool) → (b ≡ true → ⊥) → b ≡ false
not_so true h = absurd (h refl)
not_so false h = refl

both_ways : (b : Bool) {P : Type 0} → b ≡ false → b ≡ true → P
both_ways b off on = absurd (apart_ways (sym off ∙ on))
  where
    apart_ways : false ≡ true → ⊥
    apart_ways wrong = cc

-- a content that a file doesn't have
abbrev other_content : Option (List ℕ) → Option (List ℕ)
other_content None = Some []
other_content (Some bytes) = None

other_content-differs : (file : Option (List ℕ)) → other_content file ≡ file → ⊥
other_content-differs None h = cc
other_content-differs (Some bytes) h = cc

get-with_file : (name : List ℕ) (content : Option (List ℕ)) (folder : Folder) → get (with_file name content folder) name ≡ content
get-with_file name None folder = get-remove_same folder name
get-with_file name (Some bytes) folder = get-insert_same folder name bytes

get-with_file_other : (name : List ℕ) (content : Option (List ℕ)) (folder : Folder) (file : List ℕ) → file ≢ name → get (with_file name content folder) file ≡ get folder file
get-with_file_other name None folder file apart = get-remove_other folder name file apart
get-with_file_other name (Some bytes) folder file apart = get-insert_other folder name bytes file apart

apart_so : (one other : List ℕ) → bytes_eq one other ≡ false → one ≢ other
apart_so one other differ same = both_ways (bytes_eq one other) differ ((bytes_eq-Decides one other).1 same)

-- a file with unsettled bytes may have any
any_content : (state : CrashState) (version : Folder) → Contains (state.oldest ∷ state.later) version → (name : List ℕ) (content : Option (List ℕ)) → is_loose state name ≡ true → IsImage state (with_file name content version)
any_content state version among name content loose = (version, among, λ file. by_name file (bytes_eq file name) refl)
  where
    by_name : (file : List ℕ) (b : Bool) → bytes_eq file name ≡ b → IsTrue (is_loose state file) ⊎ (get (with_file name content version) file ≡ get version file)
    by_name file true same = inl (ap (is_loose state) ((bytes_eq-Decides file name).0 same) ∙ loose)
    by_name file false differ = inr (get-with_file_other name content version file (apart_so file name differ))

version_is_image : (state : CrashState) (version : Folder) → Contains (state.oldest ∷ state.later) version → IsImage state version
version_is_image state version among = (version, among, λ file. inr refl)

-- what all images hold under a name, that name's bytes are settled
firm_if : (state : CrashState) (name : List ℕ) (content : Option (List ℕ)) → EachImage (λ image. get image name ≡ content) state → is_loose state name ≡ false
firm_if state name content each = not_so (is_loose state name) (λ loose.
    other_content-differs content
    (sym (get-with_file name (other_content content) state.oldest)
    ∙ each (with_file name (other_content content) state.oldest) (any_content state state.oldest (0, omega arith, refl) name (other_content content) loose)))

and_parts : (a b : Bool) → a && b ≡ true → (a ≡ true) × (b ≡ true)
and_parts true b h = (refl, h)
and_parts false b h = cc

and_so : (a b : Bool) → a ≡ true → b ≡ true → a && b ≡ true
and_so true b x y = y
and_so false b x y = cc

not_true : (b : Bool) → not b ≡ true → b ≡ false
not_true true h = cc
not_true false h = refl

-- both names of a tie are tied, and they are different
tied_pair : (ties : List Tie) (file : List ℕ) → list_any (ties_name file) ties ≡ true
    → (from : List ℕ) × (to : List ℕ) × (bytes_eq from to ≡ false) × (list_any (ties_name from) ties ≡ true) × (list_any (ties_name to) ties ≡ true)
tied_pair [] file h = cc
tied_pair (tie ∷ ties) file h = by_first (or_cases (ties_name file tie) (list_any (ties_name file) ties) h) (tied_pair ties file)
  where
    by_first : (ties_name file tie ≡ true) ⊎ (list_any (ties_name file) ties ≡ true)
        → (list_any (ties_name file) ties ≡ true → (from : List ℕ) × (to : List ℕ) × (bytes_eq from to ≡ false) × (list_any (ties_name from) ties ≡ true) × (list_any (ties_name to) ties ≡ true))
        → (from : List ℕ) × (to : List ℕ) × (bytes_eq from to ≡ false) × (list_any (ties_name from) (tie ∷ ties) ≡ true) × (list_any (ties_name to) (tie ∷ ties) ≡ true)
    by_first (inl here) rest =
        let apart = (and_parts (not (bytes_eq tie.from tie.to)) (bytes_eq tie.from file || bytes_eq tie.to file) here).0 in (
          tie.from,
          tie.to,
          not_true (bytes_eq tie.from tie.to) apart,
          or_left (ties_name tie.from tie) (list_any (ties_name tie.from) ties)
              (and_so (not (bytes_eq tie.from tie.to)) (bytes_eq tie.from tie.from || bytes_eq tie.to tie.from) apart (or_left (bytes_eq tie.from tie.from) (bytes_eq tie.to tie.from) (itself tie.from))),
          or_left (ties_name tie.to tie) (list_any (ties_name tie.to) ties)
              (and_so (not (bytes_eq tie.from tie.to)) (bytes_eq tie.from tie.to || bytes_eq tie.to tie.to) apart (or_right (bytes_eq tie.from tie.to) (bytes_eq tie.to tie.to) (itself tie.to))),
        )
    by_first (inr there) rest =
        let pair = rest there in (
          pair.0,
          pair.1,
          pair.2,
          or_right (ties_name pair.0 tie) (list_any (ties_name pair.0) ties) pair.3,
          or_right (ties_name pair.1 tie) (list_any (ties_name pair.1) ties) pair.4,
        )

tied_is_loose : (state : CrashState) (file : List ℕ) → list_any (ties_name file) state.ties ≡ true → is_loose state file ≡ true
tied_is_loose state file tied = or_right (list_any (λ other. bytes_eq other file) state.loose) (list_any (ties_name file) state.ties) tied

quiet_firm : (name : List ℕ) (folder : Folder) (state : CrashState) → EachImage (AgreesBut name folder) state → (file : List ℕ) → file ≢ name → is_loose state file ≡ false
quiet_firm name folder state each file apart = not_so (is_loose state file) (λ loose.
    other_content-differs (get folder file)
    (sym (get-with_file file (other_content (get folder file)) state.oldest)
    ∙ each (with_file file (other_content (get folder file)) state.oldest) (any_content state state.oldest (0, omega arith, refl) file (other_content (get folder file)) loose) file apart))

-- of two different names one is not this
torn : (name from to : List ℕ) (state : CrashState) (b : Bool) → bytes_eq from name ≡ b → ((file : List ℕ) → file ≢ name → is_loose state file ≡ false) → bytes_eq from to ≡ false
    → list_any (ties_name from) state.ties ≡ true → list_any (ties_name to) state.ties ≡ true → ⊥
torn name from to state true same firm apart one other =
    both_ways (is_loose state to) (firm to (λ is. apart_so from to apart ((bytes_eq-Decides from name).0 same ∙ sym is))) (tied_is_loose state to other)
torn name from to state false differ firm apart one other = both_ways (is_loose state from) (firm from (apart_so from name differ)) (tied_is_loose state from one)

quiet_untied : (name : List ℕ) (state : CrashState) → ((file : List ℕ) → file ≢ name → is_loose state file ≡ false) → (file : List ℕ) → list_any (ties_name file) state.ties ≡ false
quiet_untied name state firm file = not_so (list_any (ties_name file) state.ties) (λ tied.
    let pair = tied_pair state.ties file tied in
    torn name pair.0 pair.1 state (bytes_eq pair.0 name) refl firm pair.2 pair.3 pair.4)

-- where each image is the folder but for one file
pub quiet_if : (name : List ℕ) (folder : Folder) (state : CrashState) → EachImage (AgreesBut name folder) state → IsQuiet name folder state
quiet_if name folder state each = record {
  versions = λ version among. each version (version_is_image state version among);
  firm = quiet_firm name folder state each;
  untied = quiet_untied name state (quiet_firm name folder state each);
}

-- a version of a list of changed ones
contained_map : (f : Folder → Folder) (xs : List Folder) (version : Folder) → Contains (map f xs) version → (old : Folder) × Contains xs old × (version ≡ f old)
contained_map f [] version (i, below, is) = absurd (omega arith)
contained_map f (x ∷ xs) version among = by_first (Contains-append_cases (f x ∷ []) (map f xs) version among) (contained_map f xs version)
  where
    by_first : Contains (f x ∷ []) version ⊎ Contains (map f xs) version → (Contains (map f xs) version → (old : Folder) × Contains xs old × (version ≡ f old)) → (old : Folder) × Contains (x ∷ xs) old × (version ≡ f old)
    by_first (inl here) rest = (x, (0, omega arith, refl), only_one (f x) version here)
    by_first (inr there) rest = let found = rest there in (found.0, Contains-append_right (x ∷ []) xs found.0 found.1, found.2)

or_false : (a b : Bool) → a ≡ false → b ≡ false → a || b ≡ false
or_false true b x y = cc
or_false false b x y = y

-- a file that is written leaves the others
written_firm : (name : List ℕ) (content : Option (List ℕ)) (folder : Folder) (state : CrashState) → IsQuiet name folder state → (file : List ℕ) → file ≢ name → is_loose (written name content state) file ≡ false
written_firm name content folder state quiet file apart =
    or_false (list_any (λ other. bytes_eq other file) (without name state.loose ++ name ∷ [])) (list_any (ties_name file) state.ties)
    (not_so (list_any (λ other. bytes_eq other file) (without name state.loose ++ name ∷ [])) (λ h. by_last (any_pushed (λ other. bytes_eq other file) (without name state.loose) name h)))
    (quiet.untied file)
  where
    by_last : (list_any (λ other. bytes_eq other file) (without name state.loose) ≡ true) ⊎ (bytes_eq name file ≡ true) → ⊥
    by_last (inl among) = both_ways (is_loose state file) (quiet.firm file apart)
        (or_left (list_any (λ other. bytes_eq other file) state.loose) (list_any (ties_name file) state.ties) (any-filter (λ other. bytes_eq other file) (λ other. not (bytes_eq other name)) state.loose among))
    by_last (inr same) = apart (sym ((bytes_eq-Decides name file).0 same))

-- a name that is not loose stands in an image as in its version
pub as_version : (state : CrashState) (image : Folder) (is : IsImage state image) (file : List ℕ) → is_loose state file ≡ false → get image file ≡ get is.0 file
as_version state image is file firm = elim (is.2 file) as (λ _. get image file ≡ get is.0 file) [
  | inl loose ↦ both_ways (is_loose state file) firm loose
  | inr same ↦ same
]

pub written_leaves : (name : List ℕ) (content : Option (List ℕ)) (folder : Folder) (state : CrashState) → IsQuiet name folder state → EachImage (AgreesBut name folder) (written name content state)
written_leaves name content folder state quiet = λ image is file apart.
    let old = contained_map (with_file name content) (state.oldest ∷ state.later) is.0 is.1 in
    as_version (written name content state) image is file (written_firm name content folder state quiet file apart)
    ∙ ap (λ (f : Folder). get f file) old.2 ∙ get-with_file_other name content old.0 file apart ∙ quiet.versions old.0 old.1 file apart

-- a name is not among those without it
none_kept : (name one : List ℕ) (names : List (List ℕ)) (b : Bool) → bytes_eq one name ≡ b → list_any (λ other. bytes_eq other name) (without name names) ≡ false
    → list_any (λ other. bytes_eq other name) (cond (not b) (one ∷ without name names) (without name names)) ≡ false
none_kept name one names true is none = none
none_kept name one names false is none = or_false (bytes_eq one name) (list_any (λ other. bytes_eq other name) (without name names)) is none

none_without : (name : List ℕ) (names : List (List ℕ)) → list_any (λ other. bytes_eq other name) (without name names) ≡ false
none_without name [] = refl
none_without name (one ∷ names) = none_kept name one names (bytes_eq one name) refl (none_without name names)

-- once a file is settled, no file has unsettled bytes
staged_firm : (bytes : List ℕ) (folder : Folder) (state : CrashState) → IsQuiet new_tmp folder state → (file : List ℕ) → is_loose (staged bytes state) file ≡ false
staged_firm bytes folder state quiet file =
    or_false (list_any (λ other. bytes_eq other file) (without new_tmp (without new_tmp state.loose ++ new_tmp ∷ []))) (list_any (ties_name file) state.ties)
    (ap (list_any (λ other. bytes_eq other file)) (without-put new_tmp state.loose) ∙ by_name (bytes_eq file new_tmp) refl)
    (quiet.untied file)
  where
    by_name : (b : Bool) → bytes_eq file new_tmp ≡ b → list_any (λ other. bytes_eq other file) (without new_tmp state.loose) ≡ false
    by_name true same = subst (λ (name : List ℕ). list_any (λ other. bytes_eq other name) (without new_tmp state.loose) ≡ false) (sym ((bytes_eq-Decides file new_tmp).0 same)) (none_without new_tmp state.loose)
    by_name false differ = not_so (list_any (λ other. bytes_eq other file) (without new_tmp state.loose)) (λ among.
        both_ways (is_loose state file) (quiet.firm file (apart_so file new_tmp differ))
        (or_left (list_any (λ other. bytes_eq other file) state.loose) (list_any (ties_name file) state.ties) (any-filter (λ other. bytes_eq other file) (λ other. not (bytes_eq other new_tmp)) state.loose among)))

pub staged_leaves : (bytes : List ℕ) (folder : Folder) (state : CrashState) → IsQuiet new_tmp folder state → LeavesFolder folder (staged bytes state)
staged_leaves bytes folder state quiet = λ image is file apart.
    let old = contained_map (with_file new_tmp (Some bytes)) (state.oldest ∷ state.later) is.0 is.1 in
    as_version (staged bytes state) image is file (staged_firm bytes folder state quiet file)
    ∙ ap (λ (f : Folder). get f file) old.2 ∙ get-with_file_other new_tmp (Some bytes) old.0 file apart ∙ quiet.versions old.0 old.1 file apart

pub staged_holds : (bytes : List ℕ) (folder : Folder) (state : CrashState) → IsQuiet new_tmp folder state → LeavesStaged bytes (staged bytes state)
staged_holds bytes folder state quiet = λ image is.
    let old = contained_map (with_file new_tmp (Some bytes)) (state.oldest ∷ state.later) is.0 is.1 in
    as_version (staged bytes state) image is new_tmp (staged_firm bytes folder state quiet new_tmp)
    ∙ ap (λ (f : Folder). get f new_tmp) old.2 ∙ get-with_file new_tmp (Some bytes) old.0

-- the folder with the new bytes, by folders that are the same but for the temporary file
replaced_agrees : (one other : Folder) (name bytes : List ℕ) → AgreesBut new_tmp one other → AgreesBut new_tmp (replaced one name bytes) (replaced other name bytes)
replaced_agrees one other name bytes agrees file apart = by_name (bytes_eq file name) refl
  where
    by_name : (b : Bool) → bytes_eq file name ≡ b → get (replaced other name bytes) file ≡ get (replaced one name bytes) file
    by_name true same = subst (λ (n : List ℕ). get (replaced other name bytes) n ≡ get (replaced one name bytes) n) (sym ((bytes_eq-Decides file name).0 same))
        (get-insert_same (remove other new_tmp) name bytes ∙ sym (get-insert_same (remove one new_tmp) name bytes))
    by_name false differ =
        let off = apart_so file name differ in
        get-insert_other (remove other new_tmp) name bytes file off ∙ get-remove_other other new_tmp file apart ∙ agrees file apart
        ∙ sym (get-insert_other (remove one new_tmp) name bytes file off ∙ get-remove_other one new_tmp file apart)

-- a state in which the temporary file is settled, and all else is the folder
pub record IsStaged (bytes : List ℕ) (folder : Folder) (state : CrashState) : Type 0 where
  pub versions : (version : Folder) → Contains (state.oldest ∷ state.later) version → AgreesBut new_tmp folder version
  pub holds : (version : Folder) → Contains (state.oldest ∷ state.later) version → get version new_tmp ≡ Some bytes
  pub firm : (file : List ℕ) → is_loose state file ≡ false

pub staged_if : (bytes : List ℕ) (folder : Folder) (state : CrashState) → LeavesFolder folder state → LeavesStaged bytes state → IsStaged bytes folder state
staged_if bytes folder state leaves holds = record {
  versions = λ version among. leaves version (version_is_image state version among);
  holds = λ version among. holds version (version_is_image state version among);
  firm = λ file. by_name file (bytes_eq file new_tmp) refl;
}
  where
    by_name : (file : List ℕ) (b : Bool) → bytes_eq file new_tmp ≡ b → is_loose state file ≡ false
    by_name file true same = ap (is_loose state) ((bytes_eq-Decides file new_tmp).0 same) ∙ firm_if state new_tmp (Some bytes) holds
    by_name file false differ = (quiet_if new_tmp folder state leaves).firm file (apart_so file new_tmp differ)

-- what the names are after the rename
abbrev moved_to : List ℕ → CrashState → Folder
moved_to name state = moved (newest state) new_tmp name

renamed_is : (bytes name : List ℕ) (folder : Folder) (state : CrashState) → IsStaged bytes folder state → renamed new_tmp name state ≡ with_names (moved_to name state) state
renamed_is bytes name folder state is = λ i. record {
  oldest = state.oldest;
  later = state.later ++ moved_to name state ∷ [];
  loose = state.loose;
  ties = same i;
}
  where
    same : ties_after new_tmp name state ≡ state.ties
    same = ap (λ b. if b then state.ties ++ record { from = new_tmp; to = name } ∷ [] else state.ties) (or_false (is_loose state new_tmp) (is_loose state name) (is.firm new_tmp) (is.firm name))

moved_is : (bytes name : List ℕ) (folder : Folder) (state : CrashState) → IsStaged bytes folder state → moved_to name state ≡ replaced (newest state) name bytes
moved_is bytes name folder state is = ap (moved_file (newest state) new_tmp name) (is.holds (newest state) (last_stands state.oldest state.later))

moved_agrees : (bytes name : List ℕ) (folder : Folder) (state : CrashState) → IsStaged bytes folder state → AgreesBut new_tmp (replaced folder name bytes) (moved_to name state)
moved_agrees bytes name folder state is = subst (AgreesBut new_tmp (replaced folder name bytes)) (sym (moved_is bytes name folder state is))
    (replaced_agrees folder (newest state) name bytes (is.versions (newest state) (last_stands state.oldest state.later)))

with_names_leave : (bytes name : List ℕ) (folder : Folder) (state : CrashState) → IsStaged bytes folder state → LeavesEither name bytes folder (with_names (moved_to name state) state)
with_names_leave bytes name folder state staged = λ image is. by_version image is (Contains-push_cases (state.oldest ∷ state.later) (moved_to name state) is.0 is.1)
  where
    by_version : (image : Folder) (is : IsImage (with_names (moved_to name state) state) image) → Contains (state.oldest ∷ state.later) is.0 ⊎ (moved_to name state ≡ is.0)
        → AgreesBut new_tmp folder image ⊎ AgreesBut new_tmp (replaced folder name bytes) image
    by_version image is (inl old) = inl (λ file apart. as_version (with_names (moved_to name state) state) image is file (staged.firm file) ∙ staged.versions is.0 old file apart)
    by_version image is (inr new) = inr (λ file apart.
        as_version (with_names (moved_to name state) state) image is file (staged.firm file) ∙ ap (λ (f : Folder). get f file) (sym new) ∙ moved_agrees bytes name folder state staged file apart)

pub renamed_leaves : (bytes name : List ℕ) (folder : Folder) (state : CrashState) → IsStaged bytes folder state → LeavesEither name bytes folder (renamed new_tmp name state)
renamed_leaves bytes name folder state is =
    subst (LeavesEither name bytes folder) (sym (renamed_is bytes name folder state is)) (with_names_leave bytes name folder state is)

settled_leave : (bytes name : List ℕ) (folder : Folder) (state : CrashState) → IsStaged bytes folder state → LeavesFolder (replaced folder name bytes) (names_settled (with_names (moved_to name state) state))
settled_leave bytes name folder state staged = λ image is file apart.
    as_version (names_settled (with_names (moved_to name state) state)) image is file (staged.firm file)
    ∙ ap (λ (f : Folder). get f file) (only_one (newest (with_names (moved_to name state) state)) is.0 is.1 ∙ last_of-push state.oldest state.later (moved_to name state))
    ∙ moved_agrees bytes name folder state staged file apart

pub placed_leaves : (bytes name : List ℕ) (folder : Folder) (state : CrashState) → IsStaged bytes folder state → LeavesFolder (replaced folder name bytes) (placed name state)
placed_leaves bytes name folder state is =
    subst (λ (s : CrashState). LeavesFolder (replaced folder name bytes) (names_settled s)) (sym (renamed_is bytes name folder state is)) (settled_leave bytes name folder state is)

-- the same folder but for the temporary file
pub leaves_same : (one other : Folder) (state : CrashState) → AgreesBut new_tmp one other → LeavesFolder other state → LeavesFolder one state
leaves_same one other state agrees leaves = λ image is file apart. leaves image is file apart ∙ agrees file apart

pub either_same : (name bytes : List ℕ) (one other : Folder) (state : CrashState) → AgreesBut new_tmp one other → LeavesEither name bytes other state → LeavesEither name bytes one state
either_same name bytes one other state agrees leaves = λ image is. by_side image (leaves image is)
  where
    by_side : (image : Folder) → AgreesBut new_tmp other image ⊎ AgreesBut new_tmp (replaced other name bytes) image → AgreesBut new_tmp one image ⊎ AgreesBut new_tmp (replaced one name bytes) image
    by_side image (inl old) = inl (λ file apart. old file apart ∙ agrees file apart)
    by_side image (inr new) = inr (λ file apart. new file apart ∙ replaced_agrees one other name bytes agrees file apart)

pub either_old : (name bytes : List ℕ) (folder : Folder) (state : CrashState) → LeavesFolder folder state → LeavesEither name bytes folder state
either_old name bytes folder state leaves = λ image is. inl (leaves image is)

pub either_new : (name bytes : List ℕ) (folder : Folder) (state : CrashState) → LeavesFolder (replaced folder name bytes) state → LeavesEither name bytes folder state
either_new name bytes folder state leaves = λ image is. inr (leaves image is)

-- the folder with a temporary file
pub staged_agrees : (folder other : Folder) (bytes : List ℕ) → other ≡ insert folder new_tmp bytes → AgreesBut new_tmp folder other
staged_agrees folder other bytes is = λ file apart. ap (λ (f : Folder). get f file) is ∙ get-insert_other folder new_tmp bytes file apart
