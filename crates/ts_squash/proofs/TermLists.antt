-- Lists of terms by the rules of a part, and what stands in them.
use Rattle.std.proofs.Common.{◌≡◌, ◌≢◌, ◌⊎◌, inl, inr, ℕ, zero, suc, ◌<◌, Bool, true, List, [], ◌∷◌, map, length, get_or, slice_get, Contains, Some, refl, sym, ap, ◌∙◌, arith}
use Rattle.std.specs.Cmp.{Equal-is, nat_cmp_total, tied_itself}
use Rattle.std.specs.Cmp.Lexicographic.{slice_cmp}
use Rattle.std.specs.FinSet.{nat_cmp-IsAntisymmetric}
use Rattle.std.specs.declared.cmp.Ordering.TheVariants.{Less}
use Rattle.std.specs.List.{AllByRecursion}
use Rattle.std.specs.List.Sorted.{IsStrictlySortedBy}
use Rattle.std.specs.Ordering.{eq_by_cmp, is_eq, nat_cmp, ordering_then}
use Rattle.std.proofs.lemmas.List.Elements.{recursion_from_All}
use Rattle.std.proofs.lemmas.Option.{slice_get-get_or}
use Rattle.ts_model.specs.declared.term.TermKind.{TermKind}
use Rattle.ts_model.specs.declared.term.TermKind.TheVariants.{Node, Predicate, Value}
use Rattle.ts_model.specs.Order.{kind_place, term_cmp, term_cmp_total, term_cmp-IsAntisymmetric}
use Rattle.ts_model.specs.Sets.{from_list}
use Rattle.ts_model.specs.TextTerm.{TextTerm}
use Rattle.ts_model.proofs.SetAlgebra.{members-from_rising}
use Rattle.ts_model.proofs.SetLaws.{contains-from_list, members_are}
use Rattle.ts_plane.specs.declared.triple.IdTriple.{IdTriple}
use Rattle.ts_part.specs.Rules.{TermsRule}
use Rattle.ts_part.proofs.NewTerms.{is_in}
use Rattle.ts_part.proofs.Ranks.{each_at}
use Rattle.ts_squash.specs.Squashed.{ends_of, relations_of}

pub node_or_value : (kind : TermKind) → kind ≢ Predicate → (kind ≡ Node) ⊎ (kind ≡ Value)
node_or_value Node other = inl refl
node_or_value Predicate other = absurd (other refl)
node_or_value Value other = inr refl

-- ---- one number

abbrev pub same : ℕ → ℕ → Bool
same = eq_by_cmp nat_cmp

pub same_is : (x y : ℕ) → same x y ≡ true → x ≡ y
same_is x y e = nat_cmp-IsAntisymmetric x y ((Equal-is (nat_cmp x y)).0 e)

pub same_itself : (x : ℕ) → same x x ≡ true
same_itself x = ap is_eq (tied_itself nat_cmp_total x)

-- ---- lists of one kind are one where they have the same terms

by_spellings : (terms : List TextTerm) → IsStrictlySortedBy (slice_cmp nat_cmp) (map (λ term. term.spelling) terms) → IsStrictlySortedBy term_cmp terms
unfolding IsStrictlySortedBy
by_spellings [] rise = tt
by_spellings (x ∷ xs) rise = (above xs rise.0, by_spellings xs rise.1)
  where
    above : (ys : List TextTerm) → AllByRecursion (λ spelling. slice_cmp nat_cmp x.spelling spelling ≡ Less) (map (λ term. term.spelling) ys) → AllByRecursion (λ y. term_cmp x y ≡ Less) ys
    above [] each = tt
    above (y ∷ ys) each = (ap (λ r. ordering_then r (nat_cmp (kind_place x.kind) (kind_place y.kind))) each.0, above ys each.1)

pub same_list : (kind : TermKind) (xs ys : List TextTerm) → TermsRule kind xs → TermsRule kind ys → ((term : TextTerm) → is_in xs term ≡ is_in ys term) → xs ≡ ys
same_list kind xs ys one other is =
    members_are term_cmp term_cmp_total term_cmp-IsAntisymmetric (from_list ys) xs (by_spellings xs one.rising) (λ term. is term ∙ sym (contains-from_list term_cmp term_cmp_total ys term))
    ∙ members-from_rising term_cmp term_cmp_total term_cmp-IsAntisymmetric ys (by_spellings ys other.rising)

pub kind_at : (kind : TermKind) (xs : List TextTerm) (i : ℕ) (term : TextTerm) → TermsRule kind xs → slice_get xs i ≡ Some term → term.kind ≡ kind
kind_at kind xs i term rule at = each_at (λ term. term.kind ≡ kind) xs i term (recursion_from_All (λ term. term.kind ≡ kind) xs rule.kinds) at

-- ---- places

pub at_place : {X : Type 0} (xs : List X) (x : X) (h : Contains xs x) → slice_get xs h.0 ≡ Some x
at_place xs x h = slice_get-get_or xs h.0 x h.1 ∙ ap Some h.2

-- ---- the numbers of triples

pub end_of : (triples : List IdTriple) (id : ℕ) → Contains (ends_of triples) id → (t : IdTriple) × Contains triples t × ((t.s ≡ id) ⊎ (t.o ≡ id))
end_of triples id h = at triples h.0 h.1 h.2
  where
    later : (t : IdTriple) (ts : List IdTriple) → (u : IdTriple) × Contains ts u × ((u.s ≡ id) ⊎ (u.o ≡ id)) → (u : IdTriple) × Contains (t ∷ ts) u × ((u.s ≡ id) ⊎ (u.o ≡ id))
    later t ts found = (found.0, (suc found.1.0, omega (arith, found.1.1), found.1.2), found.2)

    at : (triples : List IdTriple) (i : ℕ) → i < length (ends_of triples) → get_or (ends_of triples) i id ≡ id → (t : IdTriple) × Contains triples t × ((t.s ≡ id) ⊎ (t.o ≡ id))
    at [] i below is = absurd (omega arith)
    at (t ∷ ts) zero below is = (t, (0, omega arith, refl), inl is)
    at (t ∷ ts) (suc zero) below is = (t, (0, omega arith, refl), inr is)
    at (t ∷ ts) (suc (suc i)) below is = later t ts (at ts i (omega arith) is)

pub ends_has : (triples : List IdTriple) (t : IdTriple) → Contains triples t → Contains (ends_of triples) t.s × Contains (ends_of triples) t.o
ends_has triples t h = at triples h.0 h.1 h.2
  where
    at : (triples : List IdTriple) (i : ℕ) → i < length triples → get_or triples i t ≡ t → Contains (ends_of triples) t.s × Contains (ends_of triples) t.o
    at [] i below is = absurd (omega arith)
    at (u ∷ us) zero below is = ((0, omega arith, ap (λ (t : IdTriple). t.s) is), (1, omega arith, ap (λ (t : IdTriple). t.o) is))
    at (u ∷ us) (suc i) below is =
        let rest = at us i (omega arith) is in
        ((suc (suc rest.0.0), omega (arith, rest.0.1), rest.0.2), (suc (suc rest.1.0), omega (arith, rest.1.1), rest.1.2))

pub relation_of : (triples : List IdTriple) (id : ℕ) → Contains (relations_of triples) id → (t : IdTriple) × Contains triples t × (t.p ≡ id)
relation_of triples id h = at triples h.0 h.1 h.2
  where
    at : (triples : List IdTriple) (i : ℕ) → i < length (relations_of triples) → get_or (relations_of triples) i id ≡ id → (t : IdTriple) × Contains triples t × (t.p ≡ id)
    at [] i below is = absurd (omega arith)
    at (t ∷ ts) zero below is = (t, (0, omega arith, refl), is)
    at (t ∷ ts) (suc i) below is =
        let found = at ts i (omega arith) is in
        (found.0, (suc found.1.0, omega (arith, found.1.1), found.1.2), found.2)

pub relations_have : (triples : List IdTriple) (t : IdTriple) → Contains triples t → Contains (relations_of triples) t.p
relations_have triples t h = at triples h.0 h.1 h.2
  where
    at : (triples : List IdTriple) (i : ℕ) → i < length triples → get_or triples i t ≡ t → Contains (relations_of triples) t.p
    at [] i below is = absurd (omega arith)
    at (u ∷ us) zero below is = (0, omega arith, ap (λ (t : IdTriple). t.p) is)
    at (u ∷ us) (suc i) below is = (let rest = at us i (omega arith) is in (suc rest.0, omega (arith, rest.1), rest.2))
