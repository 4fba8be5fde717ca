-- What a walk over a chain gives is within the chain's numbers.
use Rattle.std.proofs.Common.{◌≡◌, Bool, true, false, true≢false, not, ◌&&◌, ◌||◌, List, [], ◌∷◌, All, Option, refl, sym, ap, ◌∙◌, subst, arith}
use Rattle.std.specs.Ordering.{eq_by_cmp, is_eq}
use Rattle.std.specs.Cmp.{tied_itself}
use Rattle.std.proofs.lemmas.List.Elements.{All-cons, All-head, All-nil, All-tail}
use Rattle.ts_plane.specs.declared.pattern.IdPattern.{IdPattern}
use Rattle.ts_plane.specs.declared.triple.IdTriple.{IdTriple}
use Rattle.ts_plane.specs.Triple.{IsPositive, IsWithin, triple_cmp}
use Rattle.ts_part.specs.Facts.{Facts, all_predicates, all_terms}
use Rattle.ts_part.specs.Rules.{KeepsRules}
use Rattle.ts_chain.specs.Chain.{AreLinked, GoesOnFrom, IsChain, predicates_in, terms_in}
use Rattle.ts_chain.specs.Content.{has, stands_in}
use Rattle.ts_chain.specs.Views.{AreTriplesOf}
use Rattle.ts_chain.specs.Walks.{walked}
use Rattle.ts_chain.proofs.Decided.{equal_is, triple_cmp_total, triple_cmp-IsAntisymmetric}
use Rattle.ts_chain.proofs.WalkedLemmas.{has-walked, is_asked, rising-walked}

second-true : (a b : Bool) → (a && b) ≡ true → b ≡ true
second-true true b e = e
second-true false b e = absurd (true≢false (sym e))

-- ---- what holds of each triple of a list

module _ (P : IdTriple → Type 0) where
  holds-of : (triples : List IdTriple) (t : IdTriple) → All P triples → has triples t ≡ true → P t
  holds-of [] t all there = absurd (true≢false (sym there))
  holds-of (x ∷ triples) t all there = elim (eq_by_cmp triple_cmp t x) as (λ b. eq_by_cmp triple_cmp t x ≡ b → (b || has triples t) ≡ true → P t) [
    | true ↦ λ e _. subst P (sym (triple_cmp-IsAntisymmetric t x (equal_is _ e))) (All-head P x triples all)
    | false ↦ λ e later. holds-of triples t (All-tail P x triples all) later
  ] refl there

  holds-of-each : (triples : List IdTriple) → ((t : IdTriple) → has triples t ≡ true → P t) → All P triples
  holds-of-each [] h = All-nil P
  holds-of-each (x ∷ triples) h = All-cons P x triples (h x (ap (λ b. b || has triples x) (ap is_eq (tied_itself triple_cmp_total x)))) (holds-of-each triples (λ t there. h t (either (eq_by_cmp triple_cmp t x) (has triples t) there)))
    where
      either : (a b : Bool) → b ≡ true → (a || b) ≡ true
      either true b e = refl
      either false b e = e

-- ---- what stands in a chain

-- a positive triple of the chain's numbers
record IsAmong (parts : List Facts) (t : IdTriple) : Type 0 where
  positive : IsPositive t
  within : IsWithin (terms_in parts) (predicates_in parts) t

-- the numbers of the part before are among those of a part that goes on from it
grown : (part next : Facts) (parts : List Facts) (t : IdTriple) → GoesOnFrom part next → IsAmong (next ∷ parts) t → IsAmong (part ∷ next ∷ parts) t
grown part next parts t goes among =
    let within = among.within in
    record {
      positive = among.positive;
      within = record {
        subject = omega (arith, within.subject, goes.terms);
        predicate = omega (arith, within.predicate, goes.predicates);
        object = omega (arith, within.object, goes.terms);
      };
    }

added : (part : Facts) (parts : List Facts) (t : IdTriple) → KeepsRules part → has part.additions t ≡ true → IsAmong (part ∷ parts) t
added part parts t rules there =
    let rule = rules.lists.additions in
    record { positive = holds-of IsPositive part.additions t rule.list.positive there; within = holds-of (IsWithin (all_terms part) (all_predicates part)) part.additions t rule.within there }

stands-later : (a r s : Bool) → a ≡ false → (a || (not r && s)) ≡ true → s ≡ true
stands-later true r s e h = absurd (true≢false e)
stands-later false r s e h = second-true (not r) s h

among-standing : (parts : List Facts) (t : IdTriple) → All KeepsRules parts → AreLinked parts → stands_in parts t ≡ true → IsAmong parts t
among-standing [] t rules linked stands = absurd linked
among-standing (part ∷ []) t rules linked stands = elim (has part.additions t) as (λ b. has part.additions t ≡ b → IsAmong (part ∷ []) t) [
  | true ↦ λ e. added part [] t (All-head KeepsRules part [] rules) e
  | false ↦ λ e. absurd (true≢false (sym (stands-later (has part.additions t) (has part.removals t) false e stands)))
] refl
among-standing (part ∷ next ∷ parts) t rules linked stands = elim (has part.additions t) as (λ b. has part.additions t ≡ b → IsAmong (part ∷ next ∷ parts) t) [
  | true ↦ λ e. added part (next ∷ parts) t (All-head KeepsRules part (next ∷ parts) rules) e
  | false ↦ λ e. grown part next parts t linked.0
      (among-standing (next ∷ parts) t (All-tail KeepsRules part (next ∷ parts) rules) linked.1 (stands-later (has part.additions t) (has part.removals t) (stands_in (next ∷ parts) t) e stands))
] refl

pub walk_bounds : (parts : List Facts) (pattern : IdPattern) (after : Option IdTriple) → IsChain parts → AreTriplesOf parts (walked parts pattern after)
walk_bounds parts pattern after chain =
    let among : (t : IdTriple) → has (walked parts pattern after) t ≡ true → IsAmong parts t =
    λ t there. among-standing parts t chain.rules chain.linked (second-true (is_asked pattern after t) (stands_in parts t) (sym (has-walked parts pattern after t) ∙ there)) in
    record {
      list = record { rising = rising-walked parts pattern after; positive = holds-of-each IsPositive (walked parts pattern after) (λ t there. (among t there).positive) };
      within = holds-of-each (IsWithin (terms_in parts) (predicates_in parts)) (walked parts pattern after) (λ t there. (among t there).within);
    }
