-- The triples of a layer have terms of the layer.
use Rattle.std.proofs.Common.{◌≡◌, ℕ, suc, ◌⊎◌, inl, inr, Bool, true, false, not, ◌||◌, List, [], ◌∷◌, slice_get, Option, Some, None, refl, sym, ap, ◌∙◌, subst, true≢false}
use Rattle.std.specs.Ordering.{eq_by_cmp}
use Rattle.std.specs.Cmp.{tied_itself}
use Rattle.std.specs.Ordering.{is_eq}
use Rattle.std.specs.List.{list_any}
use Rattle.std.proofs.lemmas.Bool.{and_parts, or_cases, or_left, or_right}
use Rattle.std.proofs.lemmas.Map.Keys.{any_passes_from_place}
use Rattle.ts_model.specs.TextTerm.{IsTerm, TextTerm}
use Rattle.ts_model.specs.TextTriple.{TextTriple, IsTriple}
use Rattle.ts_model.specs.Order.{term_cmp_total, triple_cmp, triple_cmp_total, triple_cmp-IsAntisymmetric}
use Rattle.ts_model.specs.Sets.{contains, members, difference}
use Rattle.ts_model.specs.History.{History, IsWellKept, additions_at, removals_at, chain_of, content_of, content_at_parent}
use Rattle.ts_model.specs.Birth.{is_term, has_term, mentions}
use Rattle.ts_model.proofs.SetLaws.{contains-members}
use Rattle.ts_model.proofs.SetAlgebra.{contains-empty, contains-union, contains-difference}
use Rattle.ts_model.proofs.HistoryLaws.{chain_from}
use Rattle.ts_part.specs.Numbers.{IsTermAt}
use Rattle.ts_part.proofs.Ranks.{among_at, place_of}
use Rattle.ts_part.proofs.Mentioned.{added_triple, is_numbered, same_term}

-- ---- tests

any_passes_too : {A : Type 0} (p q : A → Bool) → ((x : A) → p x ≡ true → q x ≡ true) → (xs : List A) → list_any p xs ≡ true → list_any q xs ≡ true
any_passes_too p q too [] is = is
any_passes_too p q too (x ∷ xs) is =
    elim (or_cases (p x) (list_any p xs) is) as (λ _. (q x || list_any q xs) ≡ true) [
      | inl here ↦ or_left (q x) (list_any q xs) (too x here)
      | inr later ↦ or_right (q x) (list_any q xs) (any_passes_too p q too xs later)
    ]

is_itself : (term : TextTerm) → is_term term term ≡ true
is_itself term = ap is_eq (tied_itself term_cmp_total term)

first_of_three : (a b c : Bool) → a ≡ true → (a || b || c) ≡ true
first_of_three a b c is = ap (λ t. t || b || c) is

second_of_three : (a b c : Bool) → b ≡ true → (a || b || c) ≡ true
second_of_three a b c is = or_left (a || b) c (or_right a b is)

third_of_three : (a b c : Bool) → c ≡ true → (a || b || c) ≡ true
third_of_three a b c is = or_right (a || b) c is

-- a triple of terms of a layer
pub record IsTripleAt (history : History) (at : Option ℕ) (triple : TextTriple) : Type 0 where
  pub is : IsTriple triple
  pub subject : IsTermAt history at triple.subject
  pub predicate : IsTermAt history at triple.predicate
  pub object : IsTermAt history at triple.object

module _ (history : History) (kept : IsWellKept history) where
  abbrev added : ℕ → TextTriple → Bool
  added j q = list_any (eq_by_cmp triple_cmp q) (members (additions_at history j))

  -- a layer of the chain adds the triple
  abbrev pub is_added_along : List ℕ → TextTriple → Bool
  is_added_along chain q = list_any (λ j. added j q) chain

  -- what a chain has, a layer of it adds
  pub content_added : (chain : List ℕ) (q : TextTriple) → contains (content_of history chain) q ≡ true → is_added_along chain q ≡ true
  content_added [] q there = absurd (true≢false (sym there ∙ contains-empty triple_cmp q))
  content_added (k ∷ []) q there = or_left (added k q) false (sym (contains-members triple_cmp (additions_at history k) q) ∙ there)
  content_added (k ∷ below ∷ chain) q there =
      elim (or_cases (contains (difference (content_of history (below ∷ chain)) (removals_at history k)) q) (contains (additions_at history k) q)
      (sym (contains-union triple_cmp triple_cmp_total (difference (content_of history (below ∷ chain)) (removals_at history k)) (additions_at history k) q) ∙ there))
      as (λ _. (added k q || is_added_along (below ∷ chain) q) ≡ true) [
        | inl left ↦ or_right (added k q) (is_added_along (below ∷ chain) q) (content_added (below ∷ chain) q (
            (and_parts (contains (content_of history (below ∷ chain)) q) (not (contains (removals_at history k) q))
            (sym (contains-difference triple_cmp triple_cmp_total triple_cmp-IsAntisymmetric (content_of history (below ∷ chain)) (removals_at history k) q) ∙ left)).0))
        | inr here ↦ or_left (added k q) (is_added_along (below ∷ chain) q) (sym (contains-members triple_cmp (additions_at history k) q) ∙ here)
      ]

  added_is_triple : (chain : List ℕ) (q : TextTriple) → is_added_along chain q ≡ true → IsTriple q
  added_is_triple [] q there = absurd (true≢false (sym there))
  added_is_triple (j ∷ chain) q there =
      elim (or_cases (added j q) (is_added_along chain q) there) as (λ _. IsTriple q) [
        | inl here ↦ added_triple history kept j q here
        | inr later ↦ added_is_triple chain q later
      ]

  -- a layer mentions the terms of the triples that it adds
  mentioned_by : (q : TextTriple) (term : TextTerm) → has_term term q ≡ true → (j : ℕ) → added j q ≡ true → mentions history term j ≡ true
  mentioned_by q term has j there =
      let place = place_of triple_cmp triple_cmp_total triple_cmp-IsAntisymmetric (members (additions_at history j)) q there in
      any_passes_from_place (has_term term) (members (additions_at history j)) place.0 q place.1 has

  term_there : (at : Option ℕ) (q : TextTriple) (term : TextTerm) → is_added_along (chain_from history at) q ≡ true → has_term term q ≡ true → IsTermAt history at term
  term_there at q term there has =
      is_numbered history kept at term ∙ any_passes_too (λ j. added j q) (mentions history term) (mentioned_by q term has) (chain_from history at) there

  -- a triple that a layer of the chain adds
  pub added_at : (at : Option ℕ) (q : TextTriple) → is_added_along (chain_from history at) q ≡ true → IsTripleAt history at q
  added_at at q there =
      record {
        is = added_is_triple (chain_from history at) q there;
        subject = term_there at q q.subject there (first_of_three (is_term q.subject q.subject) (is_term q.subject q.predicate) (is_term q.subject q.object) (is_itself q.subject));
        predicate = term_there at q q.predicate there (second_of_three (is_term q.predicate q.subject) (is_term q.predicate q.predicate) (is_term q.predicate q.object) (is_itself q.predicate));
        object = term_there at q q.object there (third_of_three (is_term q.object q.subject) (is_term q.object q.predicate) (is_term q.object q.object) (is_itself q.object));
      }

  -- the triples of a layer are of its terms
  pub content_terms : (at : Option ℕ) (q : TextTriple) → contains (content_at_parent history at) q ≡ true → IsTripleAt history at q
  content_terms None q there = absurd (true≢false (sym there ∙ contains-empty triple_cmp q))
  content_terms (Some k) q there = added_at (Some k) q (content_added (chain_of history k) q there)

  -- ---- a term that a layer mentions stands in a triple that it adds

  passing : (p : TextTriple → Bool) (xs : List TextTriple) → list_any p xs ≡ true → (i : ℕ) × (q : TextTriple) × (slice_get xs i ≡ Some q) × (p q ≡ true)
  passing p [] is = absurd (true≢false (sym is))
  passing p (x ∷ xs) is =
      elim (or_cases (p x) (list_any p xs) is) as (λ _. (i : ℕ) × (q : TextTriple) × (slice_get (x ∷ xs) i ≡ Some q) × (p q ≡ true)) [
        | inl here ↦ (0, x, refl, here)
        | inr later ↦ (let found = passing p xs later in (suc found.0, found.1, found.2, found.3))
      ]

  pub mentioned_in : (term : TextTerm) (j : ℕ) → mentions history term j ≡ true → (q : TextTriple) × (added j q ≡ true) × (has_term term q ≡ true)
  mentioned_in term j there =
      let found = passing (has_term term) (members (additions_at history j)) there in
      (found.1, among_at triple_cmp triple_cmp_total (members (additions_at history j)) found.0 found.1 found.2, found.3)

  pub term_stands : (q : TextTriple) (term : TextTerm) → has_term term q ≡ true → (term ≡ q.subject) ⊎ ((term ≡ q.predicate) ⊎ (term ≡ q.object))
  term_stands q term has =
      elim (or_cases (is_term term q.subject || is_term term q.predicate) (is_term term q.object) has) as (λ _. (term ≡ q.subject) ⊎ ((term ≡ q.predicate) ⊎ (term ≡ q.object))) [
        | inl first ↦ elim (or_cases (is_term term q.subject) (is_term term q.predicate) first) as (λ _. (term ≡ q.subject) ⊎ ((term ≡ q.predicate) ⊎ (term ≡ q.object))) [
          | inl subject ↦ inl (same_term term q.subject subject)
          | inr predicate ↦ inr (inl (same_term term q.predicate predicate))
        ]
        | inr object ↦ inr (inr (same_term term q.object object))
      ]

  is_term_of : (q : TextTriple) (term : TextTerm) → IsTriple q → has_term term q ≡ true → IsTerm term
  is_term_of q term is has =
      elim (term_stands q term has) as (λ _. IsTerm term) [
        | inl subject ↦ subst IsTerm (sym subject) is.1
        | inr (inl predicate) ↦ subst IsTerm (sym predicate) is.2
        | inr (inr object) ↦ subst IsTerm (sym object) is.3
      ]

  along : (term : TextTerm) (chain : List ℕ) → list_any (mentions history term) chain ≡ true → IsTerm term
  along term [] there = absurd (true≢false (sym there))
  along term (j ∷ chain) there =
      elim (or_cases (mentions history term j) (list_any (mentions history term) chain) there) as (λ _. IsTerm term) [
        | inl here ↦ (let found = mentioned_in term j here in is_term_of found.0 term (added_triple history kept j found.0 found.1) found.2)
        | inr later ↦ along term chain later
      ]

  -- the terms of a layer are canonical and within their limits
  pub term_at : (at : Option ℕ) (term : TextTerm) → IsTermAt history at term → IsTerm term
  term_at at term there = along term (chain_from history at) (sym (is_numbered history kept at term) ∙ there)
