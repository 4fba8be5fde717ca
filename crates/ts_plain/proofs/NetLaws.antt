-- That the last lines of a body, filtered by what the layer below has, are the net change.
use Rattle.std.proofs.Common.{◌≡◌, Bool, true, false, not, ◌&&◌, List, map, filter, Some, All, refl, sym, ap, ◌∙◌, Bor}
use Rattle.std.proofs.lemmas.List.Elements.{All-weaker}
use Rattle.std.proofs.lemmas.List.Kept.{IsStrictlySortedBy-filter}
use Rattle.ts_model.specs.declared.signed.SignedTriple.{SignedTriple}
use Rattle.ts_model.specs.TextTriple.{TextTriple}
use Rattle.ts_model.specs.Order.{triple_cmp, triple_cmp_total, triple_cmp-IsAntisymmetric}
use Rattle.ts_model.specs.NetChange.{last_sign, is_added, is_removed, body_triples, added, removed, net_additions, net_removals}
use Rattle.ts_model.specs.Sets.{SetOf, contains, members, retain}
use Rattle.ts_model.proofs.SetLaws.{contains-members, contains-retain, members_are, IsStrictlySortedBy-members}
use Rattle.ts_model.proofs.SetAlgebra.{contains-difference}
use Rattle.ts_plain.proofs.AmongLaws.{among_filter, filter-by}

and_assoc : (a b c : Bool) → ((a && b) && c) ≡ (a && (b && c))
and_assoc true b c = refl
and_assoc false b c = refl

-- the members of a set that pass a test are the members of the set of these
filtered : (set kept : SetOf triple_cmp) (p : TextTriple → Bool) → ((q : TextTriple) → contains kept q ≡ (contains set q && p q)) → filter p (members set) ≡ members kept
filtered set kept p is =
    members_are triple_cmp triple_cmp_total triple_cmp-IsAntisymmetric kept (filter p (members set))
    (IsStrictlySortedBy-filter triple_cmp p (members set) (IsStrictlySortedBy-members triple_cmp set))
    (λ q. among_filter p (members set) q ∙ ap (λ b. b && p q) (sym (contains-members triple_cmp set q)) ∙ sym (is q))

-- a set that is filtered by a test
contains-kept : (set : SetOf triple_cmp) (p : TextTriple → Bool) (q : TextTriple) → contains (retain set p) q ≡ (contains set q && p q)
contains-kept set p q = contains-retain triple_cmp set p q (λ x e. ap p (sym (triple_cmp-IsAntisymmetric q x e)))

module _ (before : SetOf triple_cmp) (body : List SignedTriple) where
  abbrev to_add : TextTriple → Bool
  to_add q = is_added (last_sign body q) && not (contains before q)

  abbrev to_remove : TextTriple → Bool
  to_remove q = is_removed (last_sign body q) && contains before q

  contains-net_additions : (q : TextTriple) → contains (net_additions before body) q ≡ (contains (body_triples body) q && to_add q)
  contains-net_additions q =
      contains-difference triple_cmp triple_cmp_total triple_cmp-IsAntisymmetric (added body) before q
      ∙ ap (λ b. b && not (contains before q)) (contains-kept (body_triples body) (λ triple. is_added (last_sign body triple)) q)
      ∙ and_assoc (contains (body_triples body) q) (is_added (last_sign body q)) (not (contains before q))

  contains-net_removals : (q : TextTriple) → contains (net_removals before body) q ≡ (contains (body_triples body) q && to_remove q)
  contains-net_removals q =
      contains-kept (removed body) (contains before) q
      ∙ ap (λ b. b && contains before q) (contains-kept (body_triples body) (λ triple. is_removed (last_sign body triple)) q)
      ∙ and_assoc (contains (body_triples body) q) (is_removed (last_sign body q)) (contains before q)

  module _ (lines : List (Bor SignedTriple)) (triples : map (λ line. line.now.triple) lines ≡ members (body_triples body))
      (signs : All (λ line. last_sign body line.now.triple ≡ Some line.now.sign) lines) where
    pub additions_are : map (λ line. line.now.triple) (filter (λ line. is_added (Some line.now.sign) && not (contains before line.now.triple)) lines) ≡ members (net_additions before body)
    additions_are =
        filter-by (λ (line : Bor SignedTriple). line.now.triple) (λ line. is_added (Some line.now.sign) && not (contains before line.now.triple)) to_add lines
        (All-weaker (λ (line : Bor SignedTriple). last_sign body line.now.triple ≡ Some line.now.sign)
        (λ (line : Bor SignedTriple). (is_added (Some line.now.sign) && not (contains before line.now.triple)) ≡ to_add line.now.triple)
        (λ line sign. ap (λ s. is_added s && not (contains before line.now.triple)) (sym sign)) lines signs)
        ∙ ap (filter to_add) triples
        ∙ filtered (body_triples body) (net_additions before body) to_add contains-net_additions

    pub removals_are : map (λ line. line.now.triple) (filter (λ line. is_removed (Some line.now.sign) && contains before line.now.triple) lines) ≡ members (net_removals before body)
    removals_are =
        filter-by (λ (line : Bor SignedTriple). line.now.triple) (λ line. is_removed (Some line.now.sign) && contains before line.now.triple) to_remove lines
        (All-weaker (λ (line : Bor SignedTriple). last_sign body line.now.triple ≡ Some line.now.sign)
        (λ (line : Bor SignedTriple). (is_removed (Some line.now.sign) && contains before line.now.triple) ≡ to_remove line.now.triple)
        (λ line sign. ap (λ s. is_removed s && contains before line.now.triple) (sym sign)) lines signs)
        ∙ ap (filter to_remove) triples
        ∙ filtered (body_triples body) (net_removals before body) to_remove contains-net_removals

-- a net addition isn't there before, and a net removal is
pub addition_is_new : (before : SetOf triple_cmp) (body : List SignedTriple) (q : TextTriple) → contains (net_additions before body) q ≡ true → contains before q ≡ false
addition_is_new before body q is = turned (contains (added body) q) (contains before q) (sym (contains-difference triple_cmp triple_cmp_total triple_cmp-IsAntisymmetric (added body) before q) ∙ is)
  where
    turned : (a b : Bool) → (a && not b) ≡ true → b ≡ false
    turned true true e = sym e
    turned true false e = refl
    turned false b e = let none : ⊥ = cc in absurd none

pub removal_is_there : (before : SetOf triple_cmp) (body : List SignedTriple) (q : TextTriple) → contains (net_removals before body) q ≡ true → contains before q ≡ true
removal_is_there before body q is = second (contains (removed body) q) (contains before q) (sym (contains-kept (removed body) (contains before) q) ∙ is)
  where
    second : (a b : Bool) → (a && b) ≡ true → b ≡ true
    second true b e = e
    second false b e = let none : ⊥ = cc in absurd none
