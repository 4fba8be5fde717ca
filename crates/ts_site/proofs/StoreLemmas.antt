-- A store that grows keeps what lies in it.
use Rattle.std.proofs.Common.{◌≡◌, ◌≤◌, ◌-◌, Bool, true, false, ℕ, List, [], ◌∷◌, ◌++◌, length, take, drop, IsTrue, refl, ap, ◌∙◌, arith, length-append, length-drop}
use Rattle.std.specs.Prelude.{◌&&◌, slice_range}
use Rattle.std.specs.List.{list_all}
use Rattle.std.specs.FinMap.{insert}
use Rattle.std.proofs.lemmas.Bool.{leb-true, le-leb}
use Rattle.std.proofs.lemmas.List.{take-append-le, drop-append-le, take_all}
use Rattle.std.proofs.lemmas.List.Folds.{list_all-append}
use Rattle.std.proofs.Math.Seq.{drop-append_seam}
use Rattle.ts_site.specs.declared.call.Stored.{Stored}
use Rattle.ts_site.specs.declared.call.Call.{Call}
use Rattle.ts_site.specs.declared.call.Call.TheVariants.{Create, Append, Sync, Rename, Remove, SyncNames, Barrier, Say}
use Rattle.ts_site.specs.Folder.{Folder}
use Rattle.ts_site.specs.Call.{content, happens, folder_after, with_files, lies_in, call_lies_in}

pub and_left : (a b : Bool) → a && b ≡ true → a ≡ true
and_left true b h = refl
and_left false b h = h

pub and_right : (a b : Bool) → a && b ≡ true → b ≡ true
and_right true b h = h
and_right false b h = cc

pub and_both : (a b : Bool) → a ≡ true → b ≡ true → a && b ≡ true
and_both a b x y = rw (x, y)

pub lies : (size : ℕ) (stored : Stored) → stored.start ≤ stored.end → stored.end ≤ size → IsTrue (lies_in size stored)
lies size stored ordered within = and_both _ _ (le-leb _ _ ordered) (le-leb _ _ within)

lies_longer : (size larger : ℕ) (stored : Stored) → size ≤ larger → IsTrue (lies_in size stored) → IsTrue (lies_in larger stored)
lies_longer size larger stored grows h =
    let ordered : stored.start ≤ stored.end = leb-true _ _ (and_left _ _ h) in
    let within : stored.end ≤ size = leb-true _ _ (and_right _ _ h) in
    lies larger stored ordered (omega arith)

pub all_lie_longer : (size larger : ℕ) (files : List Stored) → size ≤ larger → IsTrue (list_all (lies_in size) files) → IsTrue (list_all (lies_in larger) files)
all_lie_longer size larger [] grows h = refl
all_lie_longer size larger (stored ∷ files) grows h =
    and_both _ _ (lies_longer size larger stored grows (and_left _ _ h)) (all_lie_longer size larger files grows (and_right (lies_in size stored) _ h))

call_lies_longer : (size larger : ℕ) (call : Call) → size ≤ larger → IsTrue (call_lies_in size call) → IsTrue (call_lies_in larger call)
call_lies_longer size larger (Append stored) grows h = lies_longer size larger stored grows h
call_lies_longer size larger (Create name) grows h = refl
call_lies_longer size larger (Sync name) grows h = refl
call_lies_longer size larger (Rename from to) grows h = refl
call_lies_longer size larger (Remove name) grows h = refl
call_lies_longer size larger SyncNames grows h = refl
call_lies_longer size larger Barrier grows h = refl
call_lies_longer size larger (Say end) grows h = refl

pub all_calls_lie_longer : (size larger : ℕ) (calls : List Call) → size ≤ larger → IsTrue (list_all (call_lies_in size) calls) → IsTrue (list_all (call_lies_in larger) calls)
all_calls_lie_longer size larger [] grows h = refl
all_calls_lie_longer size larger (call ∷ calls) grows h =
    and_both _ _ (call_lies_longer size larger call grows (and_left _ _ h)) (all_calls_lie_longer size larger calls grows (and_right (call_lies_in size call) _ h))

-- one more file lies in the longer store
pub files_lie_pushed : (size larger : ℕ) (files after : List Stored) (stored : Stored) → size ≤ larger → stored.start ≤ stored.end → stored.end ≤ larger
    → after ≡ files ++ stored ∷ [] → IsTrue (list_all (lies_in size) files) → IsTrue (list_all (lies_in larger) after)
files_lie_pushed size larger files after stored grows ordered within pushed h =
    ap (list_all (lies_in larger)) pushed ∙ list_all-append (lies_in larger) files (stored ∷ [])
    ∙ and_both _ _ (all_lie_longer size larger files grows h) (and_both _ _ (lies larger stored ordered within) refl)

pub calls_lie_pushed : (size larger : ℕ) (calls after : List Call) (stored : Stored) → size ≤ larger → stored.start ≤ stored.end → stored.end ≤ larger
    → after ≡ calls ++ Append stored ∷ [] → IsTrue (list_all (call_lies_in size) calls) → IsTrue (list_all (call_lies_in larger) after)
calls_lie_pushed size larger calls after stored grows ordered within pushed h =
    ap (list_all (call_lies_in larger)) pushed ∙ list_all-append (call_lies_in larger) calls (Append stored ∷ [])
    ∙ and_both _ _ (all_calls_lie_longer size larger calls grows h) (and_both _ _ (lies larger stored ordered within) refl)

-- a part of a list that goes on
pub slice_range-append : (store more : List ℕ) (start end : ℕ) → start ≤ end → end ≤ length store → slice_range (store ++ more) start end ≡ slice_range store start end
slice_range-append store more start end ordered within =
    ap (take (end - start)) (drop-append-le start store more (omega arith))
    ∙ take-append-le (end - start) (drop start store) more (omega (arith, length-drop start store))

-- the part that it goes on with
pub slice_range-appended : (store more : List ℕ) → slice_range (store ++ more) (length store) (length (store ++ more)) ≡ more
slice_range-appended store more =
    ap (take (length (store ++ more) - length store)) (drop-append_seam store more)
    ∙ take_all (length (store ++ more) - length store) more (omega (arith, length-append store more))

pub content_same : (store more : List ℕ) (stored : Stored) → IsTrue (lies_in (length store) stored) → content (store ++ more) stored ≡ content store stored
content_same store more stored h =
    slice_range-append store more stored.start stored.end (leb-true _ _ (and_left _ _ h)) (leb-true _ _ (and_right _ _ h))

happens_same : (store more : List ℕ) (call : Call) (folder : Folder) → IsTrue (call_lies_in (length store) call) → happens (store ++ more) call folder ≡ happens store call folder
happens_same store more (Append stored) folder h = ap (insert folder stored.name) (content_same store more stored h)
happens_same store more (Create name) folder h = refl
happens_same store more (Sync name) folder h = refl
happens_same store more (Rename from to) folder h = refl
happens_same store more (Remove name) folder h = refl
happens_same store more SyncNames folder h = refl
happens_same store more Barrier folder h = refl
happens_same store more (Say end) folder h = refl

pub folder_after_same : (store more : List ℕ) (calls : List Call) (folder : Folder) → IsTrue (list_all (call_lies_in (length store)) calls) → folder_after (store ++ more) calls folder ≡ folder_after store calls folder
folder_after_same store more [] folder h = refl
folder_after_same store more (call ∷ calls) folder h =
    ap (folder_after (store ++ more) calls) (happens_same store more call folder (and_left _ _ h))
    ∙ folder_after_same store more calls (happens store call folder) (and_right (call_lies_in (length store) call) _ h)

pub with_files_same : (store more : List ℕ) (files : List Stored) (folder : Folder) → IsTrue (list_all (lies_in (length store)) files) → with_files (store ++ more) files folder ≡ with_files store files folder
with_files_same store more [] folder h = refl
with_files_same store more (stored ∷ files) folder h =
    ap (λ bytes. with_files (store ++ more) files (insert folder stored.name bytes)) (content_same store more stored (and_left _ _ h))
    ∙ with_files_same store more files (insert folder stored.name (content store stored)) (and_right (lies_in (length store) stored) _ h)
