-- What a scan of a list of names collects.
use Rattle.std.proofs.Common.{◌≡◌, ◌≢◌, ◌↔◌, ◌<◌, ◌^◌, ◌+◌, ℕ, List, [], ◌∷◌, ◌++◌, All, Ok, Bool, true, IsTrue, refl, sym, ap, subst, ◌∙◌, inl, inr, take, get_or, length}
use Rattle.std.specs.Prelude.{Contains, IsPermutation}
use Rattle.std.specs.List.{dedup}
use Rattle.std.specs.Cmp.{IsEquivalence}
use Rattle.std.specs.Int.{w32, to_be_bytes, from_be_bytes}
use Rattle.std.specs.FinMap.{contains_key}
use Rattle.std.proofs.lemmas.List.{take_more, append_cancel_right}
use Rattle.std.proofs.lemmas.List.Elements.{Contains-get_or, Contains-push, Contains-push_cases, Contains-append_left}
use Rattle.std.proofs.lemmas.List.Kept.{Contains-dedup, Contains-from_dedup}
use Rattle.std.proofs.lemmas.List.Sorted.{Contains-permutation, IsPermutation-sym}
use Rattle.std.proofs.lemmas.Nat.{from_be_bytes-to_be_bytes_4}
use Rattle.ts_model.specs.LayerText.{layer_text}
use Rattle.ts_model.proofs.LayerLemmas.{decoded}
use Rattle.ts_site.specs.Folder.{Folder, AreNamesOf, AppendsNames}
use Rattle.ts_replace.specs.Scanned.{AreNamedIn}

-- numbers of 32 bits with one text are one number
pub layer_text_tells : (n m : ℕ) → n < 2 ^ 32 → m < 2 ^ 32 → layer_text n ≡ layer_text m → n ≡ m
layer_text_tells n m below_n below_m same =
    let bytes : Ok (to_be_bytes w32 n) ≡ Ok (to_be_bytes w32 m) = sym (decoded n (layer_text m) same) ∙ decoded m (layer_text m) refl in
    let equal : to_be_bytes w32 n ≡ to_be_bytes w32 m = cc in
    sym (from_be_bytes-to_be_bytes_4 n below_n) ∙ ap (from_be_bytes w32) equal ∙ from_be_bytes-to_be_bytes_4 m below_m

module _ {A : Type 0} (P : A → Type 0) (text : A → List ℕ) (ending : List ℕ) where
  -- one more name, of a thing
  pub named_more : (names : List (List ℕ)) (things : List A) (name : List ℕ) (x : A) → ((y : A) → P y → text y ≡ text x → y ≡ x)
      → P x → name ≡ text x ++ ending → AreNamedIn P text ending names things → AreNamedIn P text ending (names ++ name ∷ []) (things ++ x ∷ [])
  named_more names things name x tells is_thing is so_far y = (
    λ among. elim (Contains-push_cases things x y among) as (λ _. P y × Contains (names ++ name ∷ []) (text y ++ ending)) [
      | inl early ↦ let h = (so_far y).0 early in (h.0, Contains-append_left names (name ∷ []) (text y ++ ending) h.1)
      | inr same ↦ (subst P same is_thing, subst (λ (n : List ℕ). Contains (names ++ name ∷ []) n) (is ∙ ap (λ z. text z ++ ending) same) (Contains-push names name))
    ],
    λ h. elim (Contains-push_cases names name (text y ++ ending) h.1) as (λ _. Contains (things ++ x ∷ []) y) [
      | inl early ↦ Contains-append_left things (x ∷ []) y ((so_far y).1 (h.0, early))
      | inr same ↦ subst (λ (z : A). Contains (things ++ x ∷ []) z) (sym (tells y h.0 (append_cancel_right (text y) (text x) ending (sym same ∙ is)))) (Contains-push things x)
    ],
  )

  -- one more name, of nothing
  pub named_same : (names : List (List ℕ)) (things : List A) (name : List ℕ) → ((y : A) → P y → name ≢ text y ++ ending)
      → AreNamedIn P text ending names things → AreNamedIn P text ending (names ++ name ∷ []) things
  named_same names things name other so_far y = (
    λ among. let h = (so_far y).0 among in (h.0, Contains-append_left names (name ∷ []) (text y ++ ending) h.1),
    λ h. elim (Contains-push_cases names name (text y ++ ending) h.1) as (λ _. Contains things y) [
      | inl early ↦ (so_far y).1 (h.0, early)
      | inr same ↦ absurd (other y h.0 same)
    ],
  )

  -- the step of a scan at a name of a thing
  pub named_step : (names : List (List ℕ)) (i : ℕ) (name : List ℕ) (things after : List A) (x : A) → i < length names → name ≡ get_or names i name
      → after ≡ things ++ x ∷ [] → ((y : A) → P y → text y ≡ text x → y ≡ x) → P x → name ≡ text x ++ ending
      → AreNamedIn P text ending (take i names) things → AreNamedIn P text ending (take (i + 1) names) after
  named_step names i name things after x below item pushed tells is_thing is so_far =
      let front : take (i + 1) names ≡ take i names ++ name ∷ [] = take_more names i name below ∙ ap (λ n. take i names ++ n ∷ []) (sym item) in
      subst (λ (ns : List (List ℕ)). AreNamedIn P text ending ns after) (sym front)
      (subst (λ (xs : List A). AreNamedIn P text ending (take i names ++ name ∷ []) xs) (sym pushed) (named_more (take i names) things name x tells is_thing is so_far))

  -- the step of a scan at another name
  pub named_step_same : (names : List (List ℕ)) (i : ℕ) (name : List ℕ) (things after : List A) → i < length names → name ≡ get_or names i name
      → after ≡ things → ((y : A) → P y → name ≢ text y ++ ending)
      → AreNamedIn P text ending (take i names) things → AreNamedIn P text ending (take (i + 1) names) after
  named_step_same names i name things after below item kept other so_far =
      let front : take (i + 1) names ≡ take i names ++ name ∷ [] = take_more names i name below ∙ ap (λ n. take i names ++ n ∷ []) (sym item) in
      subst (λ (ns : List (List ℕ)). AreNamedIn P text ending ns after) (sym front)
      (subst (λ (xs : List A). AreNamedIn P text ending (take i names ++ name ∷ []) xs) (sym kept) (named_same (take i names) things name other so_far))

  -- the same things in another order, each once
  pub named_sorted : (E : A → A → Bool) → IsEquivalence E → ((x y : A) → E x y ≡ true → x ≡ y) → (names : List (List ℕ)) (things sorted : List A) → IsPermutation things sorted
      → AreNamedIn P text ending names things → AreNamedIn P text ending names (dedup E sorted)
  named_sorted E e exact names things sorted moved so_far y = (
    λ among. (so_far y).0 (Contains-permutation sorted things y (IsPermutation-sym things sorted moved) (Contains-from_dedup E sorted y among)),
    λ h. Contains-dedup e exact sorted y (Contains-permutation things sorted y moved ((so_far y).1 h)),
  )

  -- what is named is a thing
  pub all_things : (names : List (List ℕ)) (things : List A) → AreNamedIn P text ending names things → All P things
  all_things names things named = λ i d below. ((named (get_or things i d)).0 (Contains-get_or things i d below)).0

-- things named in a listing are those whose names stand in the folder
pub named_in_folder : {A : Type 0} (P : A → Type 0) (text : A → List ℕ) (ending : List ℕ) (folder : Folder) (names : List (List ℕ)) (things : List A)
    → AppendsNames folder [] names → AreNamedIn P text ending names things → (x : A) → Contains things x ↔ (P x × IsTrue (contains_key folder (text x ++ ending)))
named_in_folder P text ending folder names things listed named x =
    let listing : AreNamesOf folder names = subst (AreNamesOf folder) (sym listed.2) listed.1 in (
      λ among. let h = (named x).0 among in (h.0, (listing.those _).0 h.1),
      λ h. (named x).1 (h.0, (listing.those _).1 h.1),
    )
