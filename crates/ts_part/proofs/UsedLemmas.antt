-- The rules that facts keep together, by the lists of the plane of the triples that come.
use Rattle.std.proofs.Common.{◌≡◌, ℕ, ◌<◌, ◌≤◌, List, length, get_or, slice_index, refl, sym, ◌∙◌, subst, inl, inr, Contains, ◌⊎◌, ◌↔◌, All}
use Rattle.std.proofs.lemmas.List.{get_or_default}
use Rattle.std.proofs.lemmas.List.Elements.{All-contains}
use Rattle.ts_plane.specs.declared.triple.IdTriple.{IdTriple}
use Rattle.ts_plane.specs.Parts.{parts_of}
use Rattle.ts_plane.specs.Triple.{IsWithin}
use Rattle.ts_part.specs.Facts.{Facts, all_terms, all_predicates}
use Rattle.ts_part.specs.Merged.{HasEach}
use Rattle.ts_part.specs.Rules.{AreApart, PredicatesUsed, SubjectsAreNodes, TermsUsed}
use Rattle.ts_part.specs.Views.{IsNodeNumber}
use Rattle.ts_part.proofs.UseLemmas.{HasSubject, object_from, object_in, predicate_from, predicate_in, subject_from, subject_in}

pub iff_then : {A B C : Type 0} → (A ↔ B) → (B ↔ C) → (A ↔ C)
iff_then f g = (λ a. g.0 (f.0 a), λ c. f.1 (g.1 c))

-- each subject is a node's number, if it is new
pub nodes_each : (facts : Facts) (subjects : List ℕ) → subjects ≡ (parts_of facts.additions).subjects
    → ((k : ℕ) → k < length subjects → facts.terms_before < slice_index subjects k → IsNodeNumber facts (slice_index subjects k)) → SubjectsAreNodes facts
nodes_each facts subjects same each = λ triple there new.
    (let has = subst (λ (l : List ℕ). Contains l triple.s) (sym same) (subject_in facts.additions triple.s (triple, there, refl)) in
    let e : get_or subjects has.0 0 ≡ triple.s = sym (get_or_default subjects has.0 triple.s 0 has.1) ∙ has.2 in
    subst (IsNodeNumber facts) e (each has.0 has.1 (subst (λ n. facts.terms_before < n) (sym e) new)))

subject_at : (facts : Facts) (subjects : List ℕ) (k : ℕ) → subjects ≡ (parts_of facts.additions).subjects → k < length subjects
    → HasSubject facts.additions (slice_index subjects k)
subject_at facts subjects k same within =
    subject_from facts.additions (slice_index subjects k)
    (subst (λ (l : List ℕ). Contains l (slice_index subjects k)) same (k, within, get_or_default subjects k (get_or subjects k 0) 0 within))

pub each_node : (facts : Facts) (subjects : List ℕ) (k : ℕ) → subjects ≡ (parts_of facts.additions).subjects → k < length subjects → SubjectsAreNodes facts
    → facts.terms_before < slice_index subjects k → IsNodeNumber facts (slice_index subjects k)
each_node facts subjects k same within nodes new =
    let t = subject_at facts subjects k same within in
    subst (IsNodeNumber facts) t.2 (nodes t.0 t.1 (subst (λ n. facts.terms_before < n) (sym t.2) new))

pub subject_within : (facts : Facts) (subjects : List ℕ) (k terms predicates : ℕ) → subjects ≡ (parts_of facts.additions).subjects → k < length subjects
    → All (IsWithin terms predicates) facts.additions → slice_index subjects k ≤ terms
subject_within facts subjects k terms predicates same within all =
    let t = subject_at facts subjects k same within in
    subst (λ n. n ≤ terms) t.2 (All-contains (IsWithin terms predicates) facts.additions t.0 all t.1).subject

-- each new number in the subjects or the objects
pub terms_each : (facts : Facts) (subjects objects : List ℕ) (low high : ℕ) → subjects ≡ (parts_of facts.additions).subjects → objects ≡ (parts_of facts.additions).objects
    → facts.terms_before ≡ low → all_terms facts ≡ high → (HasEach (λ number. Contains subjects number ⊎ Contains objects number) low high) ↔ TermsUsed facts
terms_each facts subjects objects low high same_subjects same_objects begins ends = (
  λ each number above within. elim (each number (subst (λ n. n < number) begins above) (subst (λ n. number ≤ n) ends within)) [
    | inl a ↦ (let t = subject_from facts.additions number (subst (λ (l : List ℕ). Contains l number) same_subjects a) in (t.0, t.1, inl t.2))
    | inr b ↦ (let t = object_from facts.additions number (subst (λ (l : List ℕ). Contains l number) same_objects b) in (t.0, t.1, inr t.2))
  ],
  λ used number above within.
      (let t = used number (subst (λ n. n < number) (sym begins) above) (subst (λ n. number ≤ n) (sym ends) within) in
      elim t.2 [
        | inl e ↦ inl (subst (λ (l : List ℕ). Contains l number) (sym same_subjects) (subject_in facts.additions number (t.0, t.1, e)))
        | inr e ↦ inr (subst (λ (l : List ℕ). Contains l number) (sym same_objects) (object_in facts.additions number (t.0, t.1, e)))
      ]),
)

pub predicates_each : (facts : Facts) (predicates : List ℕ) (low high : ℕ) → predicates ≡ (parts_of facts.additions).pair_predicates
    → facts.predicates_before ≡ low → all_predicates facts ≡ high → (HasEach (Contains predicates) low high) ↔ PredicatesUsed facts
predicates_each facts predicates low high same begins ends = (
  λ each number above within.
      predicate_from facts.additions number (subst (λ (l : List ℕ). Contains l number) same
      (each number (subst (λ n. n < number) begins above) (subst (λ n. number ≤ n) ends within))),
  λ used number above within.
      subst (λ (l : List ℕ). Contains l number) (sym same)
      (predicate_in facts.additions number (used number (subst (λ n. n < number) (sym begins) above) (subst (λ n. number ≤ n) (sym ends) within))),
)

pub apart_turned : (these those : List IdTriple) → (AreApart these those) ↔ (AreApart those these)
apart_turned these those = (λ apart t a b. apart t b a, λ apart t a b. apart t b a)

pub same_apart : (these those these' those' : List IdTriple) → these ≡ these' → those ≡ those' → (AreApart these those) ↔ (AreApart these' those')
same_apart these those these' those' e f =
    subst (λ (l : List IdTriple). (AreApart these those) ↔ (AreApart l those')) e
    (subst (λ (l : List IdTriple). (AreApart these those) ↔ (AreApart these l)) f (λ h. h, λ h. h))
