-- What a crash leaves after each call.
use Rattle.std.proofs.Common.{◌≡◌, ◌⊎◌, Bool, true, false, cond, not, ℕ, zero, suc, List, [], ◌∷◌, Option, None, Some, IsTrue, refl, sym, ap, subst, ◌∙◌, inl, inr, arith}
use Rattle.std.specs.Prelude.{◌||◌, if◌then◌else◌, filter, Contains, option_map}
use Rattle.std.specs.List.{list_any}
use Rattle.std.specs.Str.{bytes_eq}
use Rattle.std.specs.FinMap.{get}
use Rattle.ts_site.specs.declared.crash.CrashChoice.{CrashChoice}
use Rattle.ts_site.specs.declared.crash.CrashChoice.TheVariants.{Oldest, Newest, Torn}
use Rattle.ts_site.specs.Crash.{CrashState, IsImage, AddsNone, is_loose, ties_name, settled, newest, without, synced, names_settled}
use Rattle.ts_site.specs.Folder.{Folder}
use Rattle.ts_site.specs.Left.{AreLeft, crash_leaves, first_half}
use Rattle.ts_site.specs.Newest.{last_stands}
use Rattle.ts_site.specs.Recorder.{MemoryState}

-- a list of one
pub only_one : {A : Type 0} (x y : A) → Contains (x ∷ []) y → y ≡ x
only_one x y (zero, below, is) = sym is
only_one x y (suc i, below, is) = absurd (omega arith)

-- tests of a part of a list
pub or_cases : (a b : Bool) → a || b ≡ true → (a ≡ true) ⊎ (b ≡ true)
or_cases true b h = inl refl
or_cases false b h = inr h

pub or_left : (a b : Bool) → a ≡ true → a || b ≡ true
or_left true b h = refl
or_left false b h = cc

pub or_right : (a b : Bool) → b ≡ true → a || b ≡ true
or_right true b h = refl
or_right false b h = h

any_kept : {A : Type 0} (test keep : A → Bool) (x : A) (xs : List A) (b : Bool) → (list_any test (filter keep xs) ≡ true → list_any test xs ≡ true)
    → list_any test (cond b (x ∷ filter keep xs) (filter keep xs)) ≡ true → test x || list_any test xs ≡ true
any_kept test keep x xs true rest h = elim (or_cases (test x) (list_any test (filter keep xs)) h) as (λ _. test x || list_any test xs ≡ true) [
  | inl here ↦ or_left (test x) (list_any test xs) here
  | inr there ↦ or_right (test x) (list_any test xs) (rest there)
]
any_kept test keep x xs false rest h = or_right (test x) (list_any test xs) (rest h)

pub any-filter : {A : Type 0} (test keep : A → Bool) (xs : List A) → list_any test (filter keep xs) ≡ true → list_any test xs ≡ true
any-filter test keep [] h = h
any-filter test keep (x ∷ xs) h = any_kept test keep x xs (keep x) (any-filter test keep xs) h

-- a name that is loose after a sync was loose before
pub still_loose : (state : CrashState) (name other : List ℕ) → IsTrue (is_loose (synced name state) other) → IsTrue (is_loose state other)
still_loose state name other h =
    elim (or_cases (list_any (λ one. bytes_eq one other) (without name state.loose)) (list_any (ties_name other) state.ties) h) as (λ _. IsTrue (is_loose state other)) [
      | inl here ↦ or_left (list_any (λ one. bytes_eq one other) state.loose) (list_any (ties_name other) state.ties) (any-filter (λ one. bytes_eq one other) (λ one. not (bytes_eq one name)) state.loose here)
      | inr there ↦ or_right (list_any (λ one. bytes_eq one other) state.loose) (list_any (ties_name other) state.ties) there
    ]

-- each state leaves what it leaves
pub adds_none : (state : CrashState) → AddsNone state state
adds_none state = λ image is. is

pub adds_none_more : (first second third : CrashState) → AddsNone second first → AddsNone third second → AddsNone third first
adds_none_more first second third one other = λ image is. one image (other image is)

pub adds_none_same : (state other : CrashState) → other ≡ state → AddsNone other state
adds_none_same state other same = subst (λ (s : CrashState). AddsNone s state) (sym same) (adds_none state)

-- a call that settles adds no image
pub sync_adds_none : (state : CrashState) (name : List ℕ) → AddsNone (synced name state) state
sync_adds_none state name = λ image is. (
  is.0,
  is.1,
  λ other. elim (is.2 other) as (λ _. IsTrue (is_loose state other) ⊎ (get image other ≡ get is.0 other)) [
    | inl loose ↦ inl (still_loose state name other loose)
    | inr same ↦ inr same
  ],
)

pub sync_names_adds_none : (state : CrashState) → AddsNone (names_settled state) state
sync_names_adds_none state = λ image is. (
  is.0,
  subst (λ (names : Folder). Contains (state.oldest ∷ state.later) names) (sym (only_one (newest state) is.0 is.1)) (last_stands state.oldest state.later),
  is.2,
)

-- the folder that a settled one leaves
pub settled_leaves : (folder image : Folder) → IsImage (settled folder) image → (name : List ℕ) → get image name ≡ get folder name
settled_leaves folder image is name = elim (is.2 name) as (λ _. get image name ≡ get folder name) [
  | inl loose ↦ cc
  | inr same ↦ same ∙ ap (λ (names : Folder). get names name) (only_one folder is.0 is.1)
]

pub barrier_adds_none : (state : CrashState) (folder : Folder) → newest state ≡ folder → AddsNone (settled folder) state
barrier_adds_none state folder reads = λ image is. (
  folder,
  subst (λ (names : Folder). Contains (state.oldest ∷ state.later) names) reads (last_stands state.oldest state.later),
  λ name. inr (settled_leaves folder image is name),
)

-- what stands under a name that is not loose
unless : (b : Bool) (one other : Option (List ℕ)) (loose : Bool) → loose ≡ b → IsTrue loose ⊎ ((if loose then one else other) ≡ other)
unless true one other loose is = inl is
unless false one other loose is = inr (ap (λ b. if b then one else other) is)

halved : (loose : Bool) (file : Option (List ℕ)) → IsTrue loose ⊎ (option_map (λ bytes. if loose then first_half bytes else bytes) file ≡ file)
halved true file = inl refl
halved false None = inr refl
halved false (Some bytes) = inr refl

one_of : {A : Type 0} {P : Type 0} (x y z : A) → x ≡ y → P ⊎ (y ≡ z) → P ⊎ (x ≡ z)
one_of x y z same (inl p) = inl p
one_of x y z same (inr other) = inr (same ∙ other)

-- each choice is a folder that a crash may leave
pub choice_is_image : (choice : CrashChoice) (state : MemoryState) (left : Folder) → newest state.crash ≡ state.folder → AreLeft choice state left → IsImage state.crash left
choice_is_image Oldest state left reads are = (
  state.crash.oldest,
  (0, omega arith, refl),
  λ name. one_of (get left name) (crash_leaves Oldest state name) (get state.crash.oldest name) (are name) (unless (is_loose state.crash name) None (get state.crash.oldest name) (is_loose state.crash name) refl),
)
choice_is_image Newest state left reads are = (
  newest state.crash,
  last_stands state.crash.oldest state.crash.later,
  λ name. inr (are name ∙ ap (λ folder. get folder name) (sym reads)),
)
choice_is_image Torn state left reads are = (
  state.folder,
  subst (λ (names : Folder). Contains (state.crash.oldest ∷ state.crash.later) names) reads (last_stands state.crash.oldest state.crash.later),
  λ name. one_of (get left name) (crash_leaves Torn state name) (get state.folder name) (are name) (halved (is_loose state.crash name) (get state.folder name)),
)
