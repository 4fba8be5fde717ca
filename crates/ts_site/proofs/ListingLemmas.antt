-- How the list of a folder's names changes with the folder.
use Rattle.std.proofs.Common.{◌≡◌, ◌≢◌, ◌⊎◌, ◌<◌, Bool, true, false, cond, not, ℕ, zero, suc, List, [], ◌∷◌, ◌++◌, length, get_or, Option, None, Some, IsTrue, refl, sym, ap, subst, ◌∙◌, inl, inr, arith}
use Rattle.std.specs.Prelude.{◌||◌, Contains, is_some, filter}
use Rattle.std.specs.List.{list_any}
use Rattle.std.specs.Str.{bytes_eq}
use Rattle.std.specs.FinMap.{get, insert, remove, contains_key, get-empty}
use Rattle.std.proofs.lemmas.List.Elements.{Contains-append_right, Contains-append_left, Contains-push, Contains-push_cases, Contains-append_cases}
use Rattle.std.proofs.lemmas.Slice.Eq.{bytes_eq-Decides}
use Rattle.ts_site.specs.Folder.{Folder, no_files, EachOnce, AreNamesOf, moved, moved_file}
use Rattle.ts_site.proofs.FolderLemmas.{is_same, same_name, is_same-itself, is_same-other, get_inserted, get_removed, get-insert_same, get-remove_other, same_folder, insert-remove}

-- the names but for one
abbrev pub without : List ℕ → List (List ℕ) → List (List ℕ)
without name = filter (λ other. not (bytes_eq other name))

is_some-cond : {A : Type 0} (b : Bool) (x : A) (o : Option A) → is_some (cond b (Some x) o) ≡ true → (b ≡ true) ⊎ (is_some o ≡ true)
is_some-cond true x o h = inl refl
is_some-cond false x o h = inr h

pub stands_same : (m : Folder) (k v : List ℕ) → IsTrue (contains_key (insert m k v) k)
stands_same m k v = ap is_some (get-insert_same m k v)

stands_still : (m : Folder) (k v q : List ℕ) → IsTrue (contains_key m q) → IsTrue (contains_key (insert m k v) q)
stands_still m k v q stands = ap is_some (get_inserted m k v q) ∙ either (is_same q k) (get m q) stands
  where
    either : (b : Bool) (o : Option (List ℕ)) → is_some o ≡ true → is_some (cond b (Some v) o) ≡ true
    either true o h = refl
    either false o h = h

stood : (m : Folder) (k v q : List ℕ) → IsTrue (contains_key (insert m k v) q) → (q ≡ k) ⊎ IsTrue (contains_key m q)
stood m k v q stands =
    elim (is_some-cond (is_same q k) v (get m q) (sym (ap is_some (get_inserted m k v q)) ∙ stands)) as (λ _. (q ≡ k) ⊎ IsTrue (contains_key m q)) [
      | inl same ↦ inl (same_name q k same)
      | inr before ↦ inr before
    ]

once_pushed : (names : List (List ℕ)) (k : List ℕ) → (Contains names k → ⊥) → EachOnce names → EachOnce (names ++ k ∷ [])
once_pushed [] k new once = (λ among. nothing among, tt)
  where
    nothing : Contains [] k → ⊥
    nothing (i, below, is) = omega arith
once_pushed (name ∷ names) k new (first, once) = (
  λ among. elim (Contains-push_cases names k name among) as (λ _. ⊥) [
    | inl early ↦ first early
    | inr same ↦ new (0, omega arith, sym same)
  ],
  once_pushed names k (λ among. new (Contains-append_right (name ∷ []) names k among)) once,
)

-- a new name
pub listing_new : (m : Folder) (names : List (List ℕ)) (k v : List ℕ) → (Contains names k → ⊥) → AreNamesOf m names → AreNamesOf (insert m k v) (names ++ k ∷ [])
listing_new m names k v new is = record {
  once = once_pushed names k new is.once;
  those = λ q. (
    λ among. elim (Contains-push_cases names k q among) as (λ _. IsTrue (contains_key (insert m k v) q)) [
      | inl early ↦ stands_still m k v q ((is.those q).0 early)
      | inr same ↦ subst (λ (n : List ℕ). IsTrue (contains_key (insert m k v) n)) same (stands_same m k v)
    ],
    λ stands. elim (stood m k v q stands) as (λ _. Contains (names ++ k ∷ []) q) [
      | inl same ↦ subst (λ (n : List ℕ). Contains (names ++ k ∷ []) n) (sym same) (Contains-push names k)
      | inr before ↦ Contains-append_left names (k ∷ []) q ((is.those q).1 before)
    ],
  );
}

-- a name that stands
pub listing_old : (m : Folder) (names : List (List ℕ)) (k v : List ℕ) → Contains names k → AreNamesOf m names → AreNamesOf (insert m k v) names
listing_old m names k v old is = record {
  once = is.once;
  those = λ q. (
    λ among. stands_still m k v q ((is.those q).0 among),
    λ stands. elim (stood m k v q stands) as (λ _. Contains names q) [
      | inl same ↦ subst (λ (n : List ℕ). Contains names n) (sym same) old
      | inr before ↦ (is.those q).1 before
    ],
  );
}

kept_apart : (k : List ℕ) (names : List (List ℕ)) (q : List ℕ) → Contains (without k names) q → Contains names q × (q ≢ k)
kept_apart k [] q (i, below, is) = absurd (omega arith)
kept_apart k (name ∷ names) q among =
    elim (bytes_eq name k) as (λ b. bytes_eq name k ≡ b → Contains (cond (not b) (name ∷ without k names) (without k names)) q → Contains (name ∷ names) q × (q ≢ k)) [
      | true ↦ λ _ later. let h = kept_apart k names q later in (Contains-append_right (name ∷ []) names q h.0, h.1)
      | false ↦ λ other here. elim (Contains-append_cases (name ∷ []) (without k names) q here) as (λ _. Contains (name ∷ names) q × (q ≢ k)) [
        | inl first ↦ (Contains-append_left (name ∷ []) names q first, λ same. differs name k q first other same)
        | inr later ↦ let h = kept_apart k names q later in (Contains-append_right (name ∷ []) names q h.0, h.1)
      ]
    ] refl among
  where
    only : (name q : List ℕ) → Contains (name ∷ []) q → name ≡ q
    only name q (zero, below, is) = is
    only name q (suc i, below, is) = absurd (omega arith)

    differs : (name k q : List ℕ) → Contains (name ∷ []) q → bytes_eq name k ≡ false → q ≡ k → ⊥
    differs name k q first other same =
        let equal : bytes_eq name k ≡ true = (bytes_eq-Decides name k).1 (only name q first ∙ same) in cc

kept : (k : List ℕ) (names : List (List ℕ)) (q : List ℕ) → Contains names q → q ≢ k → Contains (without k names) q
kept k [] q (i, below, is) other = absurd (omega arith)
kept k (name ∷ names) q among other =
    elim (bytes_eq name k) as (λ b. bytes_eq name k ≡ b → Contains (cond (not b) (name ∷ without k names) (without k names)) q) [
      | true ↦ λ yes. elim (Contains-append_cases (name ∷ []) names q among) as (λ _. Contains (without k names) q) [
        | inl first ↦ absurd (other (sym (only name q first) ∙ (bytes_eq-Decides name k).0 yes))
        | inr later ↦ kept k names q later other
      ]
      | false ↦ λ _. elim (Contains-append_cases (name ∷ []) names q among) as (λ _. Contains (name ∷ without k names) q) [
        | inl first ↦ Contains-append_left (name ∷ []) (without k names) q first
        | inr later ↦ Contains-append_right (name ∷ []) (without k names) q (kept k names q later other)
      ]
    ] refl
  where
    only : (name q : List ℕ) → Contains (name ∷ []) q → name ≡ q
    only name q (zero, below, is) = is
    only name q (suc i, below, is) = absurd (omega arith)

once_without : (k : List ℕ) (names : List (List ℕ)) → EachOnce names → EachOnce (without k names)
once_without k [] once = tt
once_without k (name ∷ names) (first, once) =
    elim (bytes_eq name k) as (λ b. EachOnce (cond (not b) (name ∷ without k names) (without k names))) [
      | true ↦ once_without k names once
      | false ↦ (λ among. first (kept_apart k names name among).0, once_without k names once)
    ]

gone : (m : Folder) (k q : List ℕ) → IsTrue (contains_key (remove m k) q) → IsTrue (contains_key m q) × (q ≢ k)
gone m k q stands = both (is_same q k) (get m q) (is_same-other q k) (λ same. is_same_from q k same) (sym (ap is_some (get_removed m k q)) ∙ stands)
  where
    is_same_from : (q k : List ℕ) → q ≡ k → is_same q k ≡ true
    is_same_from q k same = subst (λ (n : List ℕ). is_same q n ≡ true) same (is_same-itself q)

    both : (b : Bool) (o : Option (List ℕ)) → (q ≢ k → b ≡ false) → (q ≡ k → b ≡ true) → is_some (cond b None o) ≡ true → IsTrue (is_some o) × (q ≢ k)
    both true o f g h = absurd (no h)
      where
        no : false ≡ true → ⊥
        no e = cc
    both false o f g h = (h, λ same. no (g same))
      where
        no : false ≡ true → ⊥
        no e = cc

stays : (m : Folder) (k q : List ℕ) → IsTrue (contains_key m q) → q ≢ k → IsTrue (contains_key (remove m k) q)
stays m k q stands other = ap is_some (get-remove_other m k q other) ∙ stands

-- a name taken away
pub listing_without : (m : Folder) (names : List (List ℕ)) (k : List ℕ) → AreNamesOf m names → AreNamesOf (remove m k) (without k names)
listing_without m names k is = record {
  once = once_without k names is.once;
  those = λ q. (
    λ among. let h = kept_apart k names q among in stays m k q ((is.those q).0 h.0) h.1,
    λ stands. let h = gone m k q stands in kept k names q ((is.those q).1 h.0) h.1,
  );
}

pub not_without : (k : List ℕ) (names : List (List ℕ)) → Contains (without k names) k → ⊥
not_without k names among = (kept_apart k names k among).1 refl

pub listing_empty : AreNamesOf no_files []
listing_empty = record {
  once = tt;
  those = λ q. (λ among. absurd (nothing q among), λ stands. absurd (nobody q stands));
}
  where
    nothing : (q : List ℕ) → Contains [] q → ⊥
    nothing q (i, below, is) = omega arith

    nobody : (q : List ℕ) → IsTrue (contains_key no_files q) → ⊥
    nobody q stands = let h : is_some {T = List ℕ} None ≡ true = sym (ap is_some (get-empty _ q)) ∙ stands in cc

among : (names : List (List ℕ)) (k : List ℕ) → list_any (λ other. bytes_eq other k) names ≡ true → Contains names k
among [] k e = cc
among (name ∷ names) k e =
    elim (bytes_eq name k) as (λ b. bytes_eq name k ≡ b → b || list_any (λ other. bytes_eq other k) names ≡ true → Contains (name ∷ names) k) [
      | true ↦ λ is _. (0, omega arith, (bytes_eq-Decides name k).0 is)
      | false ↦ λ _ rest. Contains-append_right (name ∷ []) names k (among names k rest)
    ] refl e

or_left : (a b : Bool) → a ≡ true → a || b ≡ true
or_left a b e = subst (λ (c : Bool). c || b ≡ true) (sym e) refl

or_right : (a b : Bool) → b ≡ true → a || b ≡ true
or_right true b e = refl
or_right false b e = e

found : (names : List (List ℕ)) (k : List ℕ) (i : ℕ) → i < length names → get_or names i k ≡ k → list_any (λ other. bytes_eq other k) names ≡ true
found [] k i below e = absurd (omega arith)
found (name ∷ names) k zero below e = or_left (bytes_eq name k) _ ((bytes_eq-Decides name k).1 e)
found (name ∷ names) k (suc i) below e = or_right (bytes_eq name k) _ (found names k i (omega arith) e)

-- a search of the list tells whether a name is in it
pub found_is : (names : List (List ℕ)) (k : List ℕ) (r : Bool) → r ≡ list_any (λ other. bytes_eq other k) names → r ≡ true → Contains names k
found_is names k r is equal = among names k (sym is ∙ equal)

pub not_found_is : (names : List (List ℕ)) (k : List ℕ) (r : Bool) → r ≡ list_any (λ other. bytes_eq other k) names → r ≡ false → Contains names k → ⊥
not_found_is names k r is differ (i, below, e) = let equal : r ≡ true = is ∙ found names k i below e in cc

-- to take away a name that is absent changes nothing
pub remove_absent : (m : Folder) (k : List ℕ) → get m k ≡ None → remove m k ≡ m
remove_absent m k absent = same_folder (remove m k) m (λ q. get_removed m k q ∙ by_case q (is_same q k) refl)
  where
    by_case : (q : List ℕ) (b : Bool) → is_same q k ≡ b → cond b None (get m q) ≡ get m q
    by_case q true same = sym (ap (get m) (same_name q k same) ∙ absent)
    by_case q false other = refl

-- a file that stands moves
pub listing_moved : (m : Folder) (names after : List (List ℕ)) (from to : List ℕ) → Contains names from → AreNamesOf m names
    → ((folder : Folder) (bytes : List ℕ) → AreNamesOf folder (without to (without from names)) → AreNamesOf (insert folder to bytes) after) → AreNamesOf (moved m from to) after
listing_moved m names after from to among is added = by_found (get m from) ((is.those from).0 among)
  where
    by_found : (o : Option (List ℕ)) → is_some o ≡ true → AreNamesOf (moved_file m from to o) after
    by_found None stands = cc
    by_found (Some bytes) stands =
        subst (λ (folder : Folder). AreNamesOf folder after) (insert-remove (remove m from) to bytes)
        (added (remove (remove m from) to) bytes (listing_without (remove m from) (without from names) to (listing_without m names from is)))

-- no file moves
pub listing_not_moved : (m : Folder) (names : List (List ℕ)) (from to : List ℕ) → (Contains names from → ⊥) → AreNamesOf m names → AreNamesOf (moved m from to) (without to (without from names))
listing_not_moved m names from to absent is = by_found (get m from) refl
  where
    by_found : (o : Option (List ℕ)) → get m from ≡ o → AreNamesOf (moved_file m from to o) (without to (without from names))
    by_found None nothing =
        subst (λ (folder : Folder). AreNamesOf (remove folder to) (without to (without from names))) (remove_absent m from nothing)
        (listing_without (remove m from) (without from names) to (listing_without m names from is))
    by_found (Some bytes) something = absurd (absent ((is.those from).1 (ap is_some something)))
