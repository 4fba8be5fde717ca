-- What each chain keeps, and all that a walk over it gives.
use Rattle.std.proofs.Common.{◌≡◌, ℕ, ◌<◌, ◌≤◌, inl, inr, zero, suc, get_or, List, [], ◌∷◌, All, Contains, length, None, sym, ap, ◌∙◌, subst, arith}
use Rattle.std.specs.Prelude.{◌↔◌}
use Rattle.std.specs.List.Sorted.{IsStrictlySortedBy}
use Rattle.std.specs.Ordering.{nat_cmp}
use Rattle.std.proofs.lemmas.List.Elements.{All-contains, All-contains_itself, All-weaker, recursion_from_All}
use Rattle.std.proofs.lemmas.Map.Keys.{below_from_sorted}
use Rattle.ts_model.specs.Limits.{number_limit}
use Rattle.ts_plane.specs.declared.triple.IdTriple.{IdTriple}
use Rattle.ts_plane.specs.Triple.{IsPositive, IsWithin}
use Rattle.ts_part.specs.Facts.{Facts}
use Rattle.ts_part.specs.Rules.{KeepsRules}
use Rattle.ts_part.proofs.MergedLemmas.{walk_all}
use Rattle.ts_chain.specs.Chain.{IsChain, predicates_in, terms_in}
use Rattle.ts_chain.specs.Content.{triples_of}
use Rattle.ts_chain.specs.Views.{AreTriplesOf, IsPredicateId, IsTermId}
use Rattle.ts_chain.specs.Walks.{walked}
use Rattle.ts_squash.specs.NewNumbers.{AreDifferent, AreSameNumbers}
use Rattle.ts_squash.specs.Squashed.{ends_of, relations_of}
use Rattle.ts_squash.proofs.TermLists.{end_of, relation_of}

pub few_terms : (parts : List Facts) → IsChain parts → terms_in parts < number_limit
few_terms [] chain = absurd chain.linked
few_terms (part ∷ parts) chain = (recursion_from_All KeepsRules (part ∷ parts) chain.rules).0.lists.header.terms

pub few_predicates : (parts : List Facts) → IsChain parts → predicates_in parts < number_limit
few_predicates [] chain = absurd chain.linked
few_predicates (part ∷ parts) chain = (recursion_from_All KeepsRules (part ∷ parts) chain.rules).0.lists.header.predicates

-- a walk for each pattern gives all triples
pub walked_all : (parts : List Facts) → walked parts (record { s = None; p = None; o = None }) None ≡ triples_of parts
walked_all parts = walk_all (triples_of parts)

-- rising numbers from 1 to m are at most m
pub few_of : (xs : List ℕ) (m : ℕ) → IsStrictlySortedBy nat_cmp xs → ((i : ℕ) → i < length xs → (1 ≤ get_or xs i 0) × (get_or xs i 0 ≤ m)) → length xs ≤ m
few_of [] m rise each = omega arith
few_of (x ∷ xs) m rise each = (let last = at_least (length xs) (omega arith) in let within = (each (length xs) (omega arith)).1 in omega arith)
  where
    at_least : (i : ℕ) → i < length (x ∷ xs) → suc i ≤ get_or (x ∷ xs) i 0
    at_least zero below = (each zero below).0
    at_least (suc i) below = (let before = at_least i (omega arith) in let more = below_from_sorted (x ∷ xs) i (suc i) 0 rise (omega arith) below in omega arith)

-- the numbers that triples of a chain use are the chain's
pub used_terms_are : (parts : List Facts) (triples : List IdTriple) (used : List ℕ) → AreTriplesOf parts triples → AreDifferent (ends_of triples) used → All (IsTermId parts) used
used_terms_are parts triples used of different = All-weaker _ _ (λ id h. is id ((different.same id).1 h)) used (All-contains_itself used)
  where
    is : (id : ℕ) → Contains (ends_of triples) id → IsTermId parts id
    is id h =
        let end = end_of triples id h in
        let positive : IsPositive end.0 = All-contains IsPositive triples end.0 of.list.positive end.1 in
        let within : IsWithin (terms_in parts) (predicates_in parts) end.0 = All-contains (IsWithin (terms_in parts) (predicates_in parts)) triples end.0 of.within end.1 in
        elim end.2 as (λ _. IsTermId parts id) [
          | inl subject ↦ subst (IsTermId parts) subject (record { some = positive.subject; within = within.subject })
          | inr object ↦ subst (IsTermId parts) object (record { some = positive.object; within = within.object })
        ]

pub used_predicates_are : (parts : List Facts) (triples : List IdTriple) (used : List ℕ) → AreTriplesOf parts triples → AreDifferent (relations_of triples) used → All (IsPredicateId parts) used
used_predicates_are parts triples used of different = All-weaker _ _ (λ id h. is id ((different.same id).1 h)) used (All-contains_itself used)
  where
    is : (id : ℕ) → Contains (relations_of triples) id → IsPredicateId parts id
    is id h =
        let found = relation_of triples id h in
        let positive : IsPositive found.0 = All-contains IsPositive triples found.0 of.list.positive found.1 in
        let within : IsWithin (terms_in parts) (predicates_in parts) found.0 = All-contains (IsWithin (terms_in parts) (predicates_in parts)) triples found.0 of.within found.1 in
        subst (IsPredicateId parts) found.2 (record { some = positive.predicate; within = within.predicate })

pub few_used_terms : (parts : List Facts) (triples : List IdTriple) (used : List ℕ) → AreTriplesOf parts triples → AreDifferent (ends_of triples) used → length used ≤ terms_in parts
few_used_terms parts triples used of different =
    few_of used (terms_in parts) different.rise (λ i below. (let is = used_terms_are parts triples used of different i 0 below in (is.some, is.within)))

pub few_used_predicates : (parts : List Facts) (triples : List IdTriple) (used : List ℕ) → AreTriplesOf parts triples → AreDifferent (relations_of triples) used → length used ≤ predicates_in parts
few_used_predicates parts triples used of different =
    few_of used (predicates_in parts) different.rise (λ i below. (let is = used_predicates_are parts triples used of different i 0 below in (is.some, is.within)))

-- what a list that lends some numbers says of others, the numbers say themselves
pub same_numbers : (used lent ids : List ℕ) → lent ≡ used → ((id : ℕ) → Contains ids id ↔ Contains lent id) → length ids ≡ length lent → AreSameNumbers used ids
same_numbers used lent ids is among counted = record {
  has = λ id h. (among id).1 (subst (λ l. Contains l id) (sym is) h);
  counted = counted ∙ ap length is;
}
