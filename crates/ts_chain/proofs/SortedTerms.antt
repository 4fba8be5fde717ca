-- Terms of entries in their order: of one kind, canonical, and none before one that is greater.
use Rattle.std.proofs.Common.{◌≡◌, ℕ, ◌+◌, ◌<◌, false, List, All, length, sym, ◌∙◌, refl, subst, true≢false, arith}
use Rattle.std.specs.declared.cmp.Ordering.{Ordering}
use Rattle.std.specs.declared.cmp.Ordering.TheVariants.{Less, Equal, Greater}
use Rattle.std.specs.List.Sorted.{IsSorted}
use Rattle.std.specs.Ordering.{is_lt, ordering_then}
use Rattle.std.proofs.lemmas.List.{get_or-map, length-map}
use Rattle.std.proofs.lemmas.List.Elements.{All-map}
use Rattle.std.proofs.lemmas.List.Sorted.{All-permutation}
use Rattle.ts_model.specs.declared.term.TermKind.{TermKind}
use Rattle.ts_model.specs.Order.{term_cmp}
use Rattle.ts_model.specs.TextTerm.{TextTerm, IsTerm}
use Rattle.ts_chain.specs.declared.spelled.Entry.{Entry}
use Rattle.ts_chain.specs.Entries.{AreEntries, IsInOrder, entry_cmp, terms_of_entries}
use Rattle.ts_chain.specs.Spelled.{AreTerms}

-- what is not less by two orders is not less by the first
first_no_less : (a b : Ordering) → is_lt (ordering_then a b) ≡ false → is_lt a ≡ false
first_no_less Less b h = absurd (true≢false h)
first_no_less Equal b h = refl
first_no_less Greater b h = refl

sorted_terms : (entries : List Entry) → IsSorted entry_cmp entries → IsSorted term_cmp (terms_of_entries entries)
sorted_terms entries order = λ k d some within.
    let e : Entry = record { term = d; id = 0 } in
    let inside : k + 1 < length entries = omega (arith, within, length-map entries (λ (entry : Entry). entry.term)) in
    let here = get_or-map (λ (entry : Entry). entry.term) entries k e d (omega (arith, inside)) in
    let next = get_or-map (λ (entry : Entry). entry.term) entries (k + 1) e d inside in
    (λ i. is_lt (term_cmp (next i) (here i))) ∙ first_no_less _ _ (order k e some inside)

pub terms_are : (Names : ℕ → TextTerm → Type 0) (kind : TermKind) (entries : List Entry) → AreEntries Names kind entries → (terms : List TextTerm) (old new : List ℕ)
    → IsInOrder entries terms old new → AreTerms kind terms
terms_are Names kind entries named terms old new put =
    let all = All-permutation (λ entry. Names entry.id entry.term × (entry.term.kind ≡ kind) × IsTerm entry.term) entries put.sorted put.moved named in
    record {
      kinds = subst (All (λ term. term.kind ≡ kind)) (sym put.terms_are) (All-map (λ term. term.kind ≡ kind) (λ (entry : Entry). entry.term) put.sorted (λ k d h. (all k d h).1));
      canonical = subst (All IsTerm) (sym put.terms_are) (All-map IsTerm (λ (entry : Entry). entry.term) put.sorted (λ k d h. (all k d h).2));
      sorted = subst (IsSorted term_cmp) (sym put.terms_are) (sorted_terms put.sorted put.order);
    }
