-- One more triple in a working set, and one more term among those whose births are noted.
use Rattle.std.proofs.Common.{◌≡◌, ℕ, suc, ◌+◌, ◌<◌, Bool, true, false, not, ◌&&◌, ◌||◌, cond, List, [], ◌∷◌, ◌++◌, take, length, get_or, Option, Some, None, refl, sym, ap, ◌∙◌, true≢false}
use Rattle.std.specs.Option.{is_some, option_map}
use Rattle.std.specs.List.{list_any}
use Rattle.std.specs.Ordering.{eq_by_cmp}
use Rattle.std.specs.Cmp.{Equal-is, eq_by_cmp_equiv}
use Rattle.std.proofs.lemmas.List.{take_more}
use Rattle.std.proofs.lemmas.List.Folds.{list_any-append}
use Rattle.ts_model.specs.TextTriple.{TextTriple}
use Rattle.ts_model.specs.TextTerm.{TextTerm}
use Rattle.ts_model.specs.Birth.{is_term, first_place}
use Rattle.ts_model.specs.Order.{triple_cmp, triple_cmp_total, term_cmp, term_cmp_total, term_cmp-IsAntisymmetric}
use Rattle.ts_plain.specs.Held.{noted}

-- ---- a list of which one more element is read

or_false : (b : Bool) → (b || false) ≡ b
or_false true = refl
or_false false = refl

or_assoc : (a b c : Bool) → ((a || b) || c) ≡ (a || (b || c))
or_assoc true b c = refl
or_assoc false b c = refl

pub list_any-more : {X : Type 0} (p : X → Bool) (xs : List X) (i : ℕ) (x : X) → i < length xs → x ≡ get_or xs i x → list_any p (take (i + 1) xs) ≡ (list_any p (take i xs) || p x)
list_any-more p xs i x below is =
    ap (list_any p) (take_more xs i x below)
    ∙ list_any-append p (take i xs) (get_or xs i x ∷ [])
    ∙ ap (λ b. list_any p (take i xs) || b) (or_false (p (get_or xs i x)) ∙ ap p (sym is))

-- ---- triples

put : (here before any : Bool) → cond here true (before || any) ≡ (before || (any || here))
put true true any = refl
put true false true = refl
put true false false = refl
put false true any = refl
put false false any = sym (or_false any)

took : (here before any : Bool) → cond here false (before && not any) ≡ (before && not (any || here))
took true true true = refl
took true true false = refl
took true false any = refl
took false true any = ap not (sym (or_false any))
took false false any = refl

module _ (xs : List TextTriple) (i : ℕ) (x q : TextTriple) (new old before : Bool) (below : i < length xs) (is : x ≡ get_or xs i x) where
  abbrev among : ℕ → Bool
  among n = list_any (eq_by_cmp triple_cmp q) (take n xs)

  flips : eq_by_cmp triple_cmp x q ≡ eq_by_cmp triple_cmp q x
  flips = (eq_by_cmp_equiv triple_cmp_total).symm x q

  pub one_more_held : new ≡ cond (eq_by_cmp triple_cmp x q) true old → old ≡ (before || among i) → new ≡ (before || among (i + 1))
  one_more_held changed was =
      changed
      ∙ (λ j. cond (flips j) true (was j))
      ∙ put (eq_by_cmp triple_cmp q x) before (among i)
      ∙ ap (λ b. before || b) (sym (list_any-more (eq_by_cmp triple_cmp q) xs i x below is))

  pub one_more_gone : new ≡ cond (eq_by_cmp triple_cmp x q) false old → old ≡ (before && not (among i)) → new ≡ (before && not (among (i + 1)))
  one_more_gone changed was =
      changed
      ∙ (λ j. cond (flips j) false (was j))
      ∙ took (eq_by_cmp triple_cmp q x) before (among i)
      ∙ ap (λ b. before && not b) (sym (list_any-more (eq_by_cmp triple_cmp q) xs i x below is))

-- ---- terms

pub noted-noted : (o : Option ℕ) (a b : Bool) (place : ℕ) → noted (noted o a place) b place ≡ noted o (a || b) place
noted-noted None true b place = refl
noted-noted None false b place = refl
noted-noted (Some first) a b place = refl

noted_false : (o : Option ℕ) (place : ℕ) → noted o false place ≡ o
noted_false None place = refl
noted_false (Some first) place = refl

noted_some : (o : Option ℕ) (here : Bool) (place : ℕ) → is_some o ≡ true → noted o here place ≡ o
noted_some None here place is = absurd (true≢false (sym is))
noted_some (Some first) here place is = refl

module _ (births : TextTerm → Option ℕ) (term other : TextTerm) (place : ℕ) where
  is_same : is_term other term ≡ true → other ≡ term
  is_same e = term_cmp-IsAntisymmetric _ _ ((Equal-is (term_cmp other term)).0 e)

  pub noted_already : is_some (births term) ≡ true → births other ≡ noted (births other) (is_term other term) place
  noted_already is =
      elim (is_term other term) as (λ b. is_term other term ≡ b → births other ≡ noted (births other) b place) [
        | true ↦ λ e. sym (noted_some (births other) true place (ap (λ t. is_some (births t)) (is_same e) ∙ is))
        | false ↦ λ e. sym (noted_false (births other) place)
      ] refl

  not_some : (o : Option ℕ) → is_some o ≡ false → o ≡ None
  not_some None e = refl
  not_some (Some first) e = absurd (true≢false e)

  pub noted_first : (new : Option ℕ) → is_some (births term) ≡ false → new ≡ cond (is_term term other) (Some place) (births other) → new ≡ noted (births other) (is_term other term) place
  noted_first new none changed =
      changed
      ∙ ap (λ b. cond b (Some place) (births other)) ((eq_by_cmp_equiv term_cmp_total).symm term other)
      ∙ elim (is_term other term) as (λ b. is_term other term ≡ b → cond b (Some place) (births other) ≡ noted (births other) b place) [
        | true ↦ λ e. sym (ap (λ o. noted o true place) (ap births (is_same e) ∙ not_some (births term) none))
        | false ↦ λ e. sym (noted_false (births other) place)
      ] refl

noted_later : (o : Option ℕ) (here : Bool) (place : ℕ) → option_map suc (noted o here place) ≡ noted (option_map suc o) here (suc place)
noted_later None true place = refl
noted_later None false place = refl
noted_later (Some first) here place = refl

-- the place of the first item that passes a test, among one item more
pub first_place-push : {X : Type 0} (test : X → Bool) (xs : List X) (x : X) → first_place test (xs ++ x ∷ []) ≡ noted (first_place test xs) (test x) (length xs)
first_place-push test [] x = refl
first_place-push test (y ∷ ys) x =
    elim (test y) as (λ b. cond b (Some 0) (option_map suc (first_place test (ys ++ x ∷ []))) ≡ noted (cond b (Some 0) (option_map suc (first_place test ys))) (test x) (suc (length ys))) [
      | true ↦ refl
      | false ↦ ap (option_map suc) (first_place-push test ys x) ∙ noted_later (first_place test ys) (test x) (length ys)
    ]
