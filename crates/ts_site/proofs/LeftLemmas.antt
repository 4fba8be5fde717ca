-- The folder that a crash leaves, put together name by name.
use Rattle.std.proofs.Common.{◌≡◌, ◌⊎◌, Bool, true, false, cond, ℕ, List, [], ◌∷◌, ◌++◌, Option, None, Some, refl, sym, ap, subst, ◌∙◌, inl, inr}
use Rattle.std.specs.Prelude.{◌||◌, if◌then◌else◌, is_some, option_map}
use Rattle.std.specs.List.{list_any}
use Rattle.std.specs.Str.{bytes_eq}
use Rattle.std.specs.Cmp.Lexicographic.{slice_cmp}
use Rattle.std.specs.FinMap.{get, insert, remove, get-empty}
use Rattle.std.specs.Ordering.{nat_cmp}
use Rattle.std.proofs.lemmas.Slice.Eq.{bytes_eq-Decides}
use Rattle.ts_site.specs.declared.call.Call.{Call}
use Rattle.ts_site.specs.declared.call.Call.TheVariants.{Create, Append, Sync, Rename, Remove, SyncNames, Barrier, Say}
use Rattle.ts_site.specs.declared.call.Stored.{Stored}
use Rattle.ts_site.specs.declared.crash.CrashChoice.{CrashChoice}
use Rattle.ts_site.specs.declared.crash.CrashChoice.TheVariants.{Oldest, Newest, Torn}
use Rattle.ts_site.specs.Call.{content, happens, crash_happens, crash_after, with_files}
use Rattle.ts_site.specs.Crash.{CrashState, is_loose, newest, settled}
use Rattle.ts_site.specs.Folder.{Folder, no_files, moved_file}
use Rattle.ts_site.specs.Left.{AreLeft, crash_leaves, first_half}
use Rattle.ts_site.specs.Recorder.{MemoryState, fresh, with_left, with_settled}
use Rattle.ts_site.specs.Unsettled.{name_of}
use Rattle.ts_site.proofs.CrashLemmas.{or_cases, or_left, or_right}
use Rattle.ts_site.proofs.FolderLemmas.{is_same, same_name, is_same-itself, get_inserted, get_removed}
use Rattle.ts_site.specs.Newest.{newest_happens}

-- whether a name is that of a file
abbrev pub names : List ℕ → Option (List ℕ) → Bool
names q None = false
names q (Some name) = bytes_eq name q

-- whether a file that stood at first, or that a call left, has the name
abbrev pub is_stored : List Stored → List ℕ → Bool
is_stored files q = list_any (λ stored. bytes_eq stored.name q) files

abbrev pub is_called : List Call → List ℕ → Bool
is_called calls q = list_any (λ call. names q (name_of call)) calls

-- a test finds each name of the folder
abbrev pub Finds : (List ℕ → Bool) → Folder → Type 0
Finds test folder = (q : List ℕ) → is_some (get folder q) ≡ true → test q ≡ true

some_cond : (b : Bool) (v : List ℕ) (o : Option (List ℕ)) → is_some (cond b (Some v) o) ≡ true → (b ≡ true) ⊎ (is_some o ≡ true)
some_cond true v o h = inl refl
some_cond false v o h = inr h

none_cond : (b : Bool) (o : Option (List ℕ)) → is_some (cond b None o) ≡ true → is_some o ≡ true
none_cond true o h = cc
none_cond false o h = h

finds_inserted : (test : List ℕ → Bool) (folder : Folder) (k v : List ℕ) → test k ≡ true → Finds test folder → Finds test (insert folder k v)
finds_inserted test folder k v here finds q stands =
    elim (some_cond (is_same q k) v (get folder q) (sym (ap is_some (get_inserted folder k v q)) ∙ stands)) as (λ _. test q ≡ true) [
      | inl same ↦ ap test (same_name q k same) ∙ here
      | inr before ↦ finds q before
    ]

finds_removed : (test : List ℕ → Bool) (folder : Folder) (k : List ℕ) → Finds test folder → Finds test (remove folder k)
finds_removed test folder k finds q stands = finds q (none_cond (is_same q k) (get folder q) (sym (ap is_some (get_removed folder k q)) ∙ stands))

finds_moved : (test : List ℕ → Bool) (folder : Folder) (from to : List ℕ) (found : Option (List ℕ)) → test to ≡ true → Finds test folder → Finds test (moved_file folder from to found)
finds_moved test folder from to None here finds = finds_removed test folder to finds
finds_moved test folder from to (Some bytes) here finds = finds_inserted test (remove folder from) to bytes here (finds_removed test folder from finds)

-- the test finds the name that a call leaves
abbrev FindsCall : (List ℕ → Bool) → Call → Type 0
FindsCall test call = (name : List ℕ) → name_of call ≡ Some name → test name ≡ true

abbrev FindsCalls : (List ℕ → Bool) → List Call → Type 0
FindsCalls test [] = Unit {0}
FindsCalls test (call ∷ calls) = FindsCall test call × FindsCalls test calls

finds_happens : (test : List ℕ → Bool) (store : List ℕ) (call : Call) (folder : Folder) → FindsCall test call → Finds test folder → Finds test (happens store call folder)
finds_happens test store (Create name) folder call finds = finds_inserted test folder name [] (call name refl) finds
finds_happens test store (Append stored) folder call finds = finds_inserted test folder stored.name (content store stored) (call stored.name refl) finds
finds_happens test store (Sync name) folder call finds = finds
finds_happens test store (Rename from to) folder call finds = finds_moved test folder from to (get folder from) (call to refl) finds
finds_happens test store (Remove name) folder call finds = finds_removed test folder name finds
finds_happens test store SyncNames folder call finds = finds
finds_happens test store Barrier folder call finds = finds
finds_happens test store (Say end) folder call finds = finds

finds_oldest : (test : List ℕ → Bool) (store : List ℕ) (call : Call) (state : CrashState) → FindsCall test call → Finds test state.oldest → Finds test (newest state) → Finds test (crash_happens store call state).oldest
finds_oldest test store (Create name) state call old new = finds_inserted test state.oldest name [] (call name refl) old
finds_oldest test store (Append stored) state call old new = finds_inserted test state.oldest stored.name (content store stored) (call stored.name refl) old
finds_oldest test store (Sync name) state call old new = old
finds_oldest test store (Rename from to) state call old new = old
finds_oldest test store (Remove name) state call old new = old
finds_oldest test store SyncNames state call old new = new
finds_oldest test store Barrier state call old new = new
finds_oldest test store (Say end) state call old new = old

finds_crash : (test : List ℕ → Bool) (store : List ℕ) (calls : List Call) (state : CrashState) → FindsCalls test calls → Finds test state.oldest → Finds test (newest state)
    → Finds test (crash_after store calls state).oldest × Finds test (newest (crash_after store calls state))
finds_crash test store [] state found old new = (old, new)
finds_crash test store (call ∷ calls) state found old new =
    finds_crash test store calls (crash_happens store call state) found.1 (finds_oldest test store call state found.0 old new)
    (subst (Finds test) (sym (newest_happens store call state)) (finds_happens test store call (newest state) found.0 new))

itself : (name : List ℕ) → bytes_eq name name ≡ true
itself name = (bytes_eq-Decides name name).1 refl

finds_calls : (test : List ℕ → Bool) (calls : List Call) → ((q : List ℕ) → is_called calls q ≡ true → test q ≡ true) → FindsCalls test calls
finds_calls test [] finds = tt
finds_calls test (call ∷ calls) finds = (
  λ name is. finds name (or_left (names name (name_of call)) (is_called calls name) (ap (names name) is ∙ itself name)),
  finds_calls test calls (λ q found. finds q (or_right (names q (name_of call)) (is_called calls q) found)),
)

finds_files : (test : List ℕ → Bool) (store : List ℕ) (files : List Stored) (folder : Folder) → ((q : List ℕ) → is_stored files q ≡ true → test q ≡ true) → Finds test folder → Finds test (with_files store files folder)
finds_files test store [] folder found finds = finds
finds_files test store (stored ∷ files) folder found finds =
    finds_files test store files (insert folder stored.name (content store stored)) (λ q among. found q (or_right (bytes_eq stored.name q) (is_stored files q) among))
    (finds_inserted test folder stored.name (content store stored) (found stored.name (or_left (bytes_eq stored.name stored.name) (is_stored files stored.name) (itself stored.name))) finds)

-- a name that a crash leaves is one of those that were put together
abbrev pub is_known : List Stored → List Call → List ℕ → Bool
is_known files calls q = is_stored files q || is_called calls q

finds_nothing : (test : List ℕ → Bool) → Finds test no_files
finds_nothing test q stands = let wrong : false ≡ true = sym (ap is_some (get-empty (slice_cmp nat_cmp) q)) ∙ stands in cc

known : (store : List ℕ) (files : List Stored) (calls : List Call)
    → Finds (is_known files calls) (crash_after store calls (settled (with_files store files no_files))).oldest × Finds (is_known files calls) (newest (crash_after store calls (settled (with_files store files no_files))))
known store files calls =
    let stood = finds_files (is_known files calls) store files no_files (λ q found. or_left (is_stored files q) (is_called calls q) found) (finds_nothing (is_known files calls)) in
    finds_crash (is_known files calls) store calls (settled (with_files store files no_files)) (finds_calls (is_known files calls) calls (λ q found. or_right (is_stored files q) (is_called calls q) found)) stood stood

-- each name that the test finds is as a crash leaves it, and each other is so or absent
abbrev pub AreLeftOf : (List ℕ → Bool) → CrashChoice → MemoryState → Folder → Type 0
AreLeftOf test choice state left =
    (q : List ℕ) → (test q ≡ true → get left q ≡ crash_leaves choice state q) × ((get left q ≡ None) ⊎ (get left q ≡ crash_leaves choice state q))

-- nothing is left of no name
pub left_none : (test : List ℕ → Bool) (choice : CrashChoice) (state : MemoryState) (left : Folder) → left ≡ no_files → ((q : List ℕ) → test q ≡ false) → AreLeftOf test choice state left
left_none test choice state left is none q = (
  λ found. let wrong : false ≡ true = sym (none q) ∙ found in cc,
  inl (ap (λ folder. get folder q) is ∙ get-empty (slice_cmp nat_cmp) q),
)

cond_so : (b : Bool) (v : List ℕ) (o : Option (List ℕ)) (P : Option (List ℕ) → Type 0) → (b ≡ true → P (Some v)) → (b ≡ false → P o) → P (cond b (Some v) o)
cond_so true v o P here elsewhere = here refl
cond_so false v o P here elsewhere = elsewhere refl

-- one name more
put_more : (test more : List ℕ → Bool) (choice : CrashChoice) (state : MemoryState) (left : Folder) (name : List ℕ) (file : Option (List ℕ)) → crash_leaves choice state name ≡ file
    → ((q : List ℕ) → more q ≡ true → (test q ≡ true) ⊎ (name ≡ q)) → (old : MemoryState) → old.folder ≡ left → AreLeftOf test choice state left → AreLeftOf more choice state (with_left name file old).folder
put_more test more choice state left name None is finds old same are q = (
  λ found. elim (finds q found) as (λ _. get old.folder q ≡ crash_leaves choice state q) [
    | inl before ↦ ap (λ folder. get folder q) same ∙ (are q).0 before
    | inr here ↦ absent here (are q).1
  ],
  subst (λ (folder : Folder). (get folder q ≡ None) ⊎ (get folder q ≡ crash_leaves choice state q)) (sym same) (are q).1,
)
  where
    absent : name ≡ q → (get left q ≡ None) ⊎ (get left q ≡ crash_leaves choice state q) → get old.folder q ≡ crash_leaves choice state q
    absent here (inl none) = ap (λ folder. get folder q) same ∙ none ∙ sym is ∙ ap (crash_leaves choice state) here
    absent here (inr so) = ap (λ folder. get folder q) same ∙ so
put_more test more choice state left name (Some bytes) is finds old same are q = (
  λ found. get_inserted old.folder name bytes q
      ∙ cond_so (is_same q name) bytes (get old.folder q) (λ (o : Option (List ℕ)). o ≡ crash_leaves choice state q)
      (λ here. sym is ∙ ap (crash_leaves choice state) (sym (same_name q name here)))
      (λ apart. ap (λ folder. get folder q) same ∙ (are q).0 (elsewhere apart (finds q found))),
  subst (λ (o : Option (List ℕ)). (o ≡ None) ⊎ (o ≡ crash_leaves choice state q)) (sym (get_inserted old.folder name bytes q))
      (cond_so (is_same q name) bytes (get old.folder q) (λ (o : Option (List ℕ)). (o ≡ None) ⊎ (o ≡ crash_leaves choice state q))
      (λ here. inr (sym is ∙ ap (crash_leaves choice state) (sym (same_name q name here))))
      (λ apart. subst (λ (folder : Folder). (get folder q ≡ None) ⊎ (get folder q ≡ crash_leaves choice state q)) (sym same) (are q).1)),
)
  where
    elsewhere : is_same q name ≡ false → (test q ≡ true) ⊎ (name ≡ q) → test q ≡ true
    elsewhere apart (inl before) = before
    elsewhere apart (inr here) = let wrong : true ≡ false = sym (is_same-itself q) ∙ ap (is_same q) (sym here) ∙ apart in cc

pub left_more : (test more : List ℕ → Bool) (choice : CrashChoice) (state old new : MemoryState) (name : List ℕ) → new ≡ with_left name (crash_leaves choice state name) old
    → ((q : List ℕ) → more q ≡ true → (test q ≡ true) ⊎ (name ≡ q)) → AreLeftOf test choice state old.folder → AreLeftOf more choice state new.folder
left_more test more choice state old new name is finds are =
    subst (λ (s : MemoryState). AreLeftOf more choice state s.folder) (sym is) (put_more test more choice state old.folder name (crash_leaves choice state name) refl finds old refl are)

-- what a crash leaves is among the known names
some_if : (b : Bool) (o : Option (List ℕ)) → is_some (if b then None else o) ≡ true → is_some o ≡ true
some_if true o h = cc
some_if false o h = h

some_map : (f : List ℕ → List ℕ) (o : Option (List ℕ)) → is_some (option_map f o) ≡ true → is_some o ≡ true
some_map f None h = h
some_map f (Some bytes) h = refl

leaves_known : (test : List ℕ → Bool) (choice : CrashChoice) (state : MemoryState) → Finds test state.crash.oldest → Finds test state.folder → (q : List ℕ) → is_some (crash_leaves choice state q) ≡ true → test q ≡ true
leaves_known test Oldest state old new q some = old q (some_if (is_loose state.crash q) (get state.crash.oldest q) some)
leaves_known test Newest state old new q some = new q some
leaves_known test Torn state old new q some = new q (some_map (λ bytes. if is_loose state.crash q then first_half bytes else bytes) (get state.folder q) some)

left_whole : (test : List ℕ → Bool) (choice : CrashChoice) (state : MemoryState) (left : Folder) (q : List ℕ) (file : Option (List ℕ)) → crash_leaves choice state q ≡ file → (is_some file ≡ true → test q ≡ true)
    → (test q ≡ true → get left q ≡ crash_leaves choice state q) × ((get left q ≡ None) ⊎ (get left q ≡ crash_leaves choice state q)) → get left q ≡ crash_leaves choice state q
left_whole test choice state left q None is knows (found, inl none) = none ∙ sym is
left_whole test choice state left q None is knows (found, inr so) = so
left_whole test choice state left q (Some bytes) is knows both = both.0 (knows refl)

pub left_all : (store : List ℕ) (files : List Stored) (calls : List Call) (choice : CrashChoice) (state : MemoryState) (left : Folder)
    → state.crash ≡ crash_after store calls (settled (with_files store files no_files)) → state.folder ≡ newest (crash_after store calls (settled (with_files store files no_files)))
    → AreLeftOf (is_known files calls) choice state left → AreLeft choice state left
left_all store files calls choice state left crash reads are = λ q.
    let found = known store files calls in
    let old : Finds (is_known files calls) state.crash.oldest = subst (λ (c : CrashState). Finds (is_known files calls) c.oldest) (sym crash) found.0 in
    let new : Finds (is_known files calls) state.folder = subst (Finds (is_known files calls)) (sym reads) found.1 in
    left_whole (is_known files calls) choice state left q (crash_leaves choice state q) refl (leaves_known (is_known files calls) choice state old new q) (are q)

-- one name more of the files, and of the calls
pub any_pushed : {A : Type 0} (test : A → Bool) (xs : List A) (x : A) → list_any test (xs ++ x ∷ []) ≡ true → (list_any test xs ≡ true) ⊎ (test x ≡ true)
any_pushed test [] x h = elim (or_cases (test x) false h) as (λ _. (false ≡ true) ⊎ (test x ≡ true)) [
  | inl here ↦ inr here
  | inr wrong ↦ inl wrong
]
any_pushed test (y ∷ xs) x h = elim (or_cases (test y) (list_any test (xs ++ x ∷ [])) h) as (λ _. (test y || list_any test xs ≡ true) ⊎ (test x ≡ true)) [
  | inl here ↦ inl (or_left (test y) (list_any test xs) here)
  | inr there ↦ later (any_pushed test xs x there)
]
  where
    later : (list_any test xs ≡ true) ⊎ (test x ≡ true) → (test y || list_any test xs ≡ true) ⊎ (test x ≡ true)
    later (inl among) = inl (or_right (test y) (list_any test xs) among)
    later (inr last) = inr last

pub stored_more : (before after : List Stored) (stored : Stored) → after ≡ before ++ stored ∷ [] → (q : List ℕ) → is_known after [] q ≡ true → (is_known before [] q ≡ true) ⊎ (stored.name ≡ q)
stored_more before after stored pushed q h =
    elim (or_cases (is_stored after q) false h) as (λ _. (is_known before [] q ≡ true) ⊎ (stored.name ≡ q)) [
      | inl among ↦ elim (any_pushed (λ s. bytes_eq s.name q) before stored (sym (ap (λ (files : List Stored). is_stored files q) pushed) ∙ among)) as (λ _. (is_known before [] q ≡ true) ⊎ (stored.name ≡ q)) [
        | inl early ↦ inl (or_left (is_stored before q) false early)
        | inr last ↦ inr ((bytes_eq-Decides stored.name q).0 last)
      ]
      | inr wrong ↦ cc
    ]

pub called_more : (files : List Stored) (before after : List Call) (call : Call) → after ≡ before ++ call ∷ [] → (q : List ℕ) → is_known files after q ≡ true → (is_known files before q ≡ true) ⊎ (names q (name_of call) ≡ true)
called_more files before after call pushed q h =
    elim (or_cases (is_stored files q) (is_called after q) h) as (λ _. (is_known files before q ≡ true) ⊎ (names q (name_of call) ≡ true)) [
      | inl stood ↦ inl (or_left (is_stored files q) (is_called before q) stood)
      | inr among ↦ elim (any_pushed (λ c. names q (name_of c)) before call (sym (ap (λ (calls : List Call). is_called calls q) pushed) ∙ among)) as (λ _. (is_known files before q ≡ true) ⊎ (names q (name_of call) ≡ true)) [
        | inl early ↦ inl (or_right (is_stored files q) (is_called before q) early)
        | inr last ↦ inr last
      ]
    ]

-- the name of a call, where it has one
named : (q name : List ℕ) (file : Option (List ℕ)) → file ≡ Some name → names q file ≡ true → name ≡ q
named q name file is h = (bytes_eq-Decides name q).0 (sym (ap (names q) is) ∙ h)

unnamed : (q : List ℕ) (file : Option (List ℕ)) → file ≡ None → names q file ≡ true → ⊥
unnamed q file is h = let wrong : false ≡ true = sym (ap (names q) is) ∙ h in cc

pub named_more : (files : List Stored) (before after : List Call) (call : Call) (name : List ℕ) → after ≡ before ++ call ∷ [] → name_of call ≡ Some name
    → (q : List ℕ) → is_known files after q ≡ true → (is_known files before q ≡ true) ⊎ (name ≡ q)
named_more files before after call name pushed is q h = elim (called_more files before after call pushed q h) as (λ _. (is_known files before q ≡ true) ⊎ (name ≡ q)) [
  | inl early ↦ inl early
  | inr last ↦ inr (named q name (name_of call) is last)
]

pub unnamed_more : (files : List Stored) (before after : List Call) (call : Call) → after ≡ before ++ call ∷ [] → name_of call ≡ None
    → (q : List ℕ) → is_known files after q ≡ true → is_known files before q ≡ true
unnamed_more files before after call pushed is q h = elim (called_more files before after call pushed q h) as (λ _. is_known files before q ≡ true) [
  | inl early ↦ early
  | inr last ↦ absurd (unnamed q (name_of call) is last)
]

-- a call that leaves no file
pub left_same : (test more : List ℕ → Bool) (choice : CrashChoice) (state : MemoryState) (left : Folder) → ((q : List ℕ) → more q ≡ true → test q ≡ true) → AreLeftOf test choice state left → AreLeftOf more choice state left
left_same test more choice state left finds are q = (λ found. (are q).0 (finds q found), (are q).1)

-- it stays a fresh site
fresh_so : (calls bytes : ℕ) (old : MemoryState) (name : List ℕ) (file : Option (List ℕ)) → old ≡ fresh old.folder calls bytes → with_left name file old ≡ fresh (with_left name file old).folder calls bytes
fresh_so calls bytes old name None is = is
fresh_so calls bytes old name (Some content) is = ap (with_settled name content) is

pub fresh_left : (calls bytes : ℕ) (old new : MemoryState) (name : List ℕ) (file : Option (List ℕ)) → new ≡ with_left name file old → old ≡ fresh old.folder calls bytes → new ≡ fresh new.folder calls bytes
fresh_left calls bytes old new name file left is = left ∙ fresh_so calls bytes old name file is ∙ ap (λ (s : MemoryState). fresh s.folder calls bytes) (sym left)
