-- What the calls of a site in memory come to.
use Rattle.std.proofs.Common.{◌≡◌, ◌≤◌, ◌-◌, cond, Bool, true, false, ℕ, List, [], ◌∷◌, ◌++◌, length, drop, Some, Result, Ok, Err, IsTrue, refl, sym, ap, subst, ◌∙◌, arith, length-take, length-drop}
use Rattle.std.specs.Prelude.{is_ok, is_err, IfOk, MatchBool, if◌then◌else◌, slice_range, unwrap_or, option_map}
use Rattle.std.specs.FinMap.{get, insert}
use Rattle.ts_site.specs.declared.call.Stored.{Stored}
use Rattle.ts_site.specs.declared.call.Call.{Call}
use Rattle.ts_site.specs.declared.call.Call.TheVariants.{Append}
use Rattle.ts_site.specs.Folder.{Folder, no_files, length_at, appended, appended_file}
use Rattle.ts_site.specs.Call.{content, folder_after, with_files, lies_in, call_lies_in}
use Rattle.std.specs.List.{list_all}
use Rattle.ts_site.specs.declared.room.Room.{Room}
use Rattle.ts_site.specs.Recorder.{MemoryState}
use Rattle.ts_site.proofs.FolderLemmas.{is_same, same_folder, get_inserted, get-insert_same, same_name}
use Rattle.ts_site.proofs.CallLemmas.{folder_after-push, with_files-push}
use Rattle.ts_site.proofs.StoreLemmas.{slice_range-appended, folder_after_same, with_files_same}

-- a file that has its content already
pub insert_found : (m : Folder) (k v : List ℕ) → get m k ≡ Some v → insert m k v ≡ m
insert_found m k v found = same_folder (insert m k v) m (λ q. get_inserted m k v q ∙ by_case q (is_same q k) refl)
  where
    by_case : (q : List ℕ) (b : Bool) → is_same q k ≡ b → cond b (Some v) (get m q) ≡ get m q
    by_case q true same = sym (ap (get m) (same_name q k same) ∙ found)
    by_case q false other = refl

-- a call for which there is room, and one for which there is none
pub made : {P : Type 0} (Q : Type 0) (b : Bool) → b ≡ true → P → MatchBool b P Q
made {P} Q b is p = subst (λ (c : Bool). MatchBool c P Q) (sym is) p

pub not_made : (P : Type 0) {Q : Type 0} (b : Bool) → b ≡ false → Q → MatchBool b P Q
not_made P {Q} b is q = subst (λ (c : Bool). MatchBool c P Q) (sym is) q

-- the room after a call
pub room_taken : (b : Bool) (new some none : Room) → new ≡ (if b then some else none) → b ≡ true → new ≡ some
room_taken b new some none is so = is ∙ ap (λ (c : Bool). if c then some else none) so

pub room_passed : (b : Bool) (new some none : Room) → new ≡ (if b then some else none) → b ≡ false → new ≡ none
room_passed b new some none is so = is ∙ ap (λ (c : Bool). if c then some else none) so

-- the state with other room
abbrev pub with_room : Room → MemoryState → MemoryState
with_room room state = record state { calls_left = room.calls; bytes_left = room.bytes; until_stop = room.until_stop }

-- the length of a file that is a part of the store
pub length_found : (folder : Folder) (name store : List ℕ) (start end : ℕ) → get folder name ≡ Some (slice_range store start end) → start ≤ end → end ≤ length store → length_at folder name ≡ end - start
length_found folder name store start end found ordered within =
    ap (λ file. unwrap_or (option_map length file) 0) found ∙ length-take (end - start) (drop start store) ∙ omega (arith, length-drop start store)

-- the folder after an append, which stores the file with the piece added
pub folder_appended : (store longer piece : List ℕ) (settled : List Stored) (calls after : List Call) (name copy : List ℕ) (start end begin finish : ℕ)
    → longer ≡ store ++ (slice_range store start end ++ piece) → begin ≡ length store → finish ≡ length longer → copy ≡ name
    → after ≡ calls ++ Append (record { name = copy; start = begin; end = finish }) ∷ []
    → IsTrue (list_all (lies_in (length store)) settled) → IsTrue (list_all (call_lies_in (length store)) calls)
    → get (folder_after store calls (with_files store settled no_files)) name ≡ Some (slice_range store start end)
    → folder_after longer after (with_files longer settled no_files) ≡ appended (folder_after store calls (with_files store settled no_files)) name piece
folder_appended store longer piece settled calls after name copy start end begin finish grown from to same pushed files_lie calls_lie found =
    let more = slice_range store start end ++ piece in
    let stored : Stored = record { name = copy; start = begin; end = finish } in
    let base = with_files store settled no_files in
    let old_base : with_files longer settled no_files ≡ base = ap (λ s. with_files s settled no_files) grown ∙ with_files_same store more settled no_files files_lie in
    let old_folder : folder_after longer calls base ≡ folder_after store calls base = ap (λ s. folder_after s calls base) grown ∙ folder_after_same store more calls base calls_lie in
    let bytes : content longer stored ≡ more =
    ap (λ k. slice_range longer k finish) from ∙ ap (slice_range longer (length store)) to
    ∙ ap (λ s. slice_range s (length store) (length s)) grown ∙ slice_range-appended store more in
    ap (λ (cs : List Call). folder_after longer cs (with_files longer settled no_files)) pushed
    ∙ ap (folder_after longer (calls ++ Append stored ∷ [])) old_base
    ∙ folder_after-push longer calls (Append stored) base
    ∙ ap (λ (folder : Folder). insert folder copy (content longer stored)) old_folder
    ∙ ap (λ n. insert (folder_after store calls base) n (content longer stored)) same
    ∙ ap (insert (folder_after store calls base) name) bytes
    ∙ sym (ap (appended_file (folder_after store calls base) name piece) found)

-- what a crash leaves after it: the file reads so, and its bytes are unsettled
pub content_stored : (store longer more : List ℕ) (stored : Stored) → longer ≡ store ++ more → stored.start ≡ length store → stored.end ≡ length longer → content longer stored ≡ more
content_stored store longer more stored grown from to =
    ap (λ k. slice_range longer k stored.end) from ∙ ap (slice_range longer (length store)) to
    ∙ ap (λ s. slice_range s (length store) (length s)) grown ∙ slice_range-appended store more

pub appended_reads : (folder : Folder) (name bytes piece : List ℕ) → get folder name ≡ Some bytes → get (appended folder name piece) name ≡ Some (bytes ++ piece)
appended_reads folder name bytes piece found = ap (λ file. get (appended_file folder name piece file) name) found ∙ get-insert_same folder name (bytes ++ piece)

-- the folder with one more settled file
pub folder_set : (store longer bytes : List ℕ) (settled after : List Stored) (name copy : List ℕ) (begin finish : ℕ)
    → longer ≡ store ++ bytes → begin ≡ length store → finish ≡ length longer → copy ≡ name
    → after ≡ settled ++ record { name = copy; start = begin; end = finish } ∷ [] → IsTrue (list_all (lies_in (length store)) settled)
    → with_files longer after no_files ≡ insert (with_files store settled no_files) name bytes
folder_set store longer bytes settled after name copy begin finish grown from to same pushed files_lie =
    let stored : Stored = record { name = copy; start = begin; end = finish } in
    let old : with_files longer settled no_files ≡ with_files store settled no_files = ap (λ s. with_files s settled no_files) grown ∙ with_files_same store bytes settled no_files files_lie in
    let content_is : content longer stored ≡ bytes =
    ap (λ k. slice_range longer k finish) from ∙ ap (slice_range longer (length store)) to
    ∙ ap (λ s. slice_range s (length store) (length s)) grown ∙ slice_range-appended store bytes in
    ap (λ (files : List Stored). with_files longer files no_files) pushed
    ∙ with_files-push longer settled stored no_files
    ∙ ap (λ (folder : Folder). insert folder copy (content longer stored)) old
    ∙ ap (λ n. insert (with_files store settled no_files) n (content longer stored)) same
    ∙ ap (insert (with_files store settled no_files) name) content_is

pub ok_if_no_err : {T E : Type 0} (r : Result T E) → is_err r ≡ false → is_ok r ≡ true
ok_if_no_err (Ok x) h = refl
ok_if_no_err (Err e) h = cc

-- what holds of a result for each x holds of it for one
pub at_one : {X T E : Type 0} (P : X → T → Type 0) (r : Result T E) (x : X) → IfOk r (λ t. (y : X) → P y t) → IfOk r (P x)
at_one P (Ok t) x h = h x
at_one P (Err e) x h = tt
