-- Which numbers stand in triples, by the lists of their plane.
use Rattle.std.proofs.Common.{◌≡◌, ℕ, ◌≤◌, List, [], ◌∷◌, length, map, eqb-true, eq-eqb, nat_eq, refl, sym, ◌∙◌, ap, subst, arith, inl, inr, Contains, IsTrue, true≢false, ◌↔◌, Option, None, Some}
use Rattle.std.specs.Option.{IfSome, IsNone, is_some}
use Rattle.std.specs.List.{count_by, dedup}
use Rattle.std.proofs.lemmas.List.{take_all}
use Rattle.std.proofs.lemmas.Option.{get_or_from_slice_get, slice_get_within}
use Rattle.ts_plane.specs.declared.triple.IdTriple.{IdTriple}
use Rattle.ts_plane.specs.Parts.{pair_of, pairs_of, parts_of, same_pair}
use Rattle.ts_plane.specs.Turned.{rising_of}
use Rattle.ts_plane.proofs.GroupMembers.{from_dedup, in_dedup}
use Rattle.ts_plane.proofs.Members.{In, IsMade, from_map, in_map}
use Rattle.ts_plane.proofs.Orders.{same_is}
use Rattle.ts_plane.proofs.PartLemmas.{second}
use Rattle.ts_plane.proofs.SortedLemmas.{contains_in, in_contains}
use Rattle.ts_plane.proofs.TurnedLemmas.{from_rising_of, in_rising_of}
use Rattle.ts_wavelet.specs.Sequence.{IsPlaceOf, occurrences}
use Rattle.ts_wavelet.proofs.Filters.{count-cons, count-cons_yes}

-- a triple with a number as its subject, as its predicate, as its object
abbrev pub HasSubject : List IdTriple → ℕ → Type 0
HasSubject triples number = (triple : IdTriple) × Contains triples triple × (triple.s ≡ number)

abbrev pub HasPredicateOf : List IdTriple → ℕ → Type 0
HasPredicateOf triples number = (triple : IdTriple) × Contains triples triple × (triple.p ≡ number)

abbrev pub HasObject : List IdTriple → ℕ → Type 0
HasObject triples number = (triple : IdTriple) × Contains triples triple × (triple.o ≡ number)

pub subject_from : (triples : List IdTriple) (x : ℕ) → Contains (parts_of triples).subjects x → HasSubject triples x
unfolding parts_of
subject_from triples x h =
    let made : IsMade (λ (t : IdTriple). t.s) triples x =
    from_map (λ (t : IdTriple). t.s) x triples (from_dedup nat_eq x (map (λ (t : IdTriple). t.s) triples) (contains_in (dedup nat_eq (map (λ (t : IdTriple). t.s) triples)) x h)) in
    (made.of, in_contains triples made.of made.inside, sym made.is)

pub subject_in : (triples : List IdTriple) (x : ℕ) → HasSubject triples x → Contains (parts_of triples).subjects x
unfolding parts_of
subject_in triples x h =
    subst (Contains (dedup nat_eq (map (λ (t : IdTriple). t.s) triples))) h.2
    (in_contains (dedup nat_eq (map (λ (t : IdTriple). t.s) triples)) h.0.s
    (in_dedup nat_eq eqb-true h.0.s (map (λ (t : IdTriple). t.s) triples) (in_map (λ (t : IdTriple). t.s) h.0 triples (contains_in triples h.0 h.1))))

pub object_from : (triples : List IdTriple) (x : ℕ) → Contains (parts_of triples).objects x → HasObject triples x
unfolding parts_of
object_from triples x h =
    let made : IsMade (λ (t : IdTriple). t.o) triples x =
    from_map (λ (t : IdTriple). t.o) x triples (from_rising_of x (map (λ (t : IdTriple). t.o) triples) (contains_in (rising_of (map (λ (t : IdTriple). t.o) triples)) x h)) in
    (made.of, in_contains triples made.of made.inside, sym made.is)

pub object_in : (triples : List IdTriple) (x : ℕ) → HasObject triples x → Contains (parts_of triples).objects x
unfolding parts_of
object_in triples x h =
    subst (Contains (rising_of (map (λ (t : IdTriple). t.o) triples))) h.2
    (in_contains (rising_of (map (λ (t : IdTriple). t.o) triples)) h.0.o
    (in_rising_of h.0.o (map (λ (t : IdTriple). t.o) triples) (in_map (λ (t : IdTriple). t.o) h.0 triples (contains_in triples h.0 h.1))))

pub predicate_from : (triples : List IdTriple) (x : ℕ) → Contains (parts_of triples).pair_predicates x → HasPredicateOf triples x
unfolding parts_of pairs_of
predicate_from triples x h =
    let made : IsMade second (dedup same_pair (map pair_of triples)) x =
    from_map second x (dedup same_pair (map pair_of triples)) (contains_in (map second (dedup same_pair (map pair_of triples))) x h) in
    let from : IsMade pair_of triples made.of = from_map pair_of made.of triples (from_dedup same_pair made.of (map pair_of triples) made.inside) in
    (from.of, in_contains triples from.of from.inside, sym (made.is ∙ ap second from.is))

pub predicate_in : (triples : List IdTriple) (x : ℕ) → HasPredicateOf triples x → Contains (parts_of triples).pair_predicates x
unfolding parts_of pairs_of
predicate_in triples x h =
    subst (Contains (map second (dedup same_pair (map pair_of triples)))) h.2
    (in_contains (map second (dedup same_pair (map pair_of triples))) h.0.p
    (in_map second (pair_of h.0) (dedup same_pair (map pair_of triples))
    (in_dedup same_pair same_is (pair_of h.0) (map pair_of triples) (in_map pair_of h.0 triples (contains_in triples h.0 h.1)))))

-- what is counted nowhere stands nowhere
counted_in : (p : ℕ) (xs : List ℕ) → In p xs → 1 ≤ count_by (λ x. nat_eq x p) xs
counted_in p [] h = absurd h
counted_in p (x ∷ xs) h = elim h [
  | inl e ↦ (let more = count-cons_yes (λ y. nat_eq y p) x xs (eq-eqb x p (sym e)) in omega arith)
  | inr later ↦ (let more = count-cons (λ y. nat_eq y p) x xs in let ih = counted_in p xs later in omega arith)
]

pub stands_counted : (p : ℕ) (xs : List ℕ) → Contains xs p → 1 ≤ occurrences xs p (length xs)
stands_counted p xs h =
    let all = ap (count_by (λ x. nat_eq x p)) (take_all (length xs) xs (omega arith)) in
    let some = counted_in p xs (contains_in xs p h) in
    omega arith

-- a place of a number is found where the number stands
pub found_iff : (found : Option ℕ) (p : ℕ) (xs : List ℕ) → (IsNone found) ↔ (occurrences xs p (length xs) ≤ 0) → IfSome found (IsPlaceOf xs p 0)
    → (IsTrue (is_some found)) ↔ (Contains xs p)
found_iff None p xs none some = (λ e. absurd (true≢false (sym e)), λ has. absurd (omega (arith, stands_counted p xs has, none.0 refl)))
found_iff (Some place) p xs none some =
    (λ _. (place, slice_get_within xs place p some.there, get_or_from_slice_get xs place p p some.there), λ _. refl)
