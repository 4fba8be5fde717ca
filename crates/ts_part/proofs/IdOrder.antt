-- The number triples of a layer's triples rise, and tell them apart.
use Rattle.std.proofs.Common.{◌≡◌, ℕ, zero, suc, ◌<◌, ◌⊎◌, inl, true, List, [], ◌∷◌, map, length, get_or, slice_get, Contains, All, Option, Some, refl, sym, ap, ◌∙◌, arith}
use Rattle.std.specs.Ordering.{eq_by_cmp, ordering_then}
use Rattle.std.specs.List.{AllByRecursion}
use Rattle.std.specs.List.Sorted.{IsPermutation}
use Rattle.std.proofs.lemmas.List.Elements.{All-from_recursion}
use Rattle.std.proofs.lemmas.List.Sorted.{list_any-IsPermutation}
use Rattle.ts_model.specs.declared.term.TermKind.TheVariants.{Node, Predicate, Value}
use Rattle.ts_model.specs.TextTerm.{TextTerm}
use Rattle.ts_model.specs.TextTriple.{TextTriple}
use Rattle.ts_model.specs.Order.{triple_cmp, triple_cmp_total, triple_cmp-IsAntisymmetric}
use Rattle.ts_model.specs.Sets.{SetOf, contains, from_list, members, size}
use Rattle.ts_model.specs.History.{History, IsWellKept}
use Rattle.ts_model.specs.Listing.{birth_cmp, in_birth_order}
use Rattle.ts_model.proofs.BirthOrder.{birth_cmp_total, birth_cmp-IsAntisymmetric}
use Rattle.ts_model.proofs.SetLaws.{IsStrictlySortedBy-members, contains-members}
use Rattle.ts_plane.specs.declared.triple.IdTriple.{IdTriple}
use Rattle.ts_plane.specs.Triple.{triple_cmp as id_cmp, IsPlaneList, IsPositive, IsWithin}
use Rattle.ts_part.specs.Numbers.{IsTermAt, id_triple, id_triples, numbered_with}
use Rattle.ts_part.proofs.Ranks.{among_at, each_among, moved_rising, place_of}
use Rattle.ts_part.proofs.RisingLists.{each-map, rises-map}
use Rattle.ts_part.proofs.Mentioned.{numbered_as_node}
use Rattle.ts_part.proofs.Places.{number-once, number-order, number-within}
use Rattle.ts_part.proofs.TripleTerms.{IsTripleAt}

-- ---- lists

-- what stands in a mapped list is mapped from an element
mapped_from : {X Y : Type 0} (f : X → Y) (xs : List X) (y : Y) → Contains (map f xs) y → (i : ℕ) × (x : X) × (slice_get xs i ≡ Some x) × (f x ≡ y)
mapped_from {X} {Y} f xs y h = at xs h.0 h.1 h.2
  where
    at : (xs : List X) (i : ℕ) → i < length (map f xs) → get_or (map f xs) i y ≡ y → (i : ℕ) × (x : X) × (slice_get xs i ≡ Some x) × (f x ≡ y)
    at [] i below is = absurd (omega arith)
    at (x ∷ xs) zero below is = (0, x, refl, is)
    at (x ∷ xs) (suc i) below is = let found = at xs i (omega arith) is in (suc found.0, found.1, found.2, found.3)

mapped_to : {X Y : Type 0} (f : X → Y) (xs : List X) (i : ℕ) (x : X) → slice_get xs i ≡ Some x → Contains (map f xs) (f x)
mapped_to f [] i x e = let none : ⊥ = cc in absurd none
mapped_to f (z ∷ zs) zero x e = (0, omega arith, (let same : z ≡ x = cc in ap f same))
mapped_to f (z ∷ zs) (suc i) x e = let found = mapped_to f zs i x e in (suc found.0, omega (arith, found.1), found.2)

module _ (history : History) (kept : IsWellKept history) where
  pub node_at : (at : Option ℕ) (term : TextTerm) → (term.kind ≡ Node) ⊎ (term.kind ≡ Value) → IsTermAt history at term → contains (numbered_with Node history at) term ≡ true
  node_at at term kind there = ap (λ set. contains set term) (sym (numbered_as_node history at term.kind kind)) ∙ there

  pub predicate_at : (at : Option ℕ) (term : TextTerm) → term.kind ≡ Predicate → IsTermAt history at term → contains (numbered_with Predicate history at) term ≡ true
  predicate_at at term is there = ap (λ kind. contains (numbered_with kind history at) term) (sym is) ∙ there

  module _ (k : ℕ) where
    abbrev Here : TextTriple → Type 0
    Here triple = IsTripleAt history (Some k) triple

    subject_at : (q : TextTriple) → Here q → contains (numbered_with Node history (Some k)) q.subject ≡ true
    subject_at q h = node_at (Some k) q.subject (inl h.is.0.0) h.subject

    relation_at : (q : TextTriple) → Here q → contains (numbered_with Predicate history (Some k)) q.predicate ≡ true
    relation_at q h = predicate_at (Some k) q.predicate h.is.0.1 h.predicate

    object_at : (q : TextTriple) → Here q → contains (numbered_with Node history (Some k)) q.object ≡ true
    object_at q h = node_at (Some k) q.object h.is.0.2 h.object

    -- triples compare as their numbers do
    pub id-order : (x y : TextTriple) → Here x → Here y → birth_cmp history k x y ≡ id_cmp (id_triple history k x) (id_triple history k y)
    unfolding id_triple
    id-order x y a b = λ i.
        ordering_then (number-order history kept k Node x.subject y.subject (subject_at x a) (subject_at y b) i)
        (ordering_then (number-order history kept k Predicate x.predicate y.predicate (relation_at x a) (relation_at y b) i)
        (number-order history kept k Node x.object y.object (object_at x a) (object_at y b) i))

    -- and are one where their numbers are
    pub id-once : (x y : TextTriple) → Here x → Here y → id_triple history k x ≡ id_triple history k y → x ≡ y
    unfolding id_triple
    id-once x y a b same =
        let subjects : x.subject ≡ y.subject = number-once history kept k Node x.subject y.subject (subject_at x a) (subject_at y b) (ap (λ (t : IdTriple). t.s) same) in
        let predicates : x.predicate ≡ y.predicate = number-once history kept k Predicate x.predicate y.predicate (relation_at x a) (relation_at y b) (ap (λ (t : IdTriple). t.p) same) in
        let objects : x.object ≡ y.object = number-once history kept k Node x.object y.object (object_at x a) (object_at y b) (ap (λ (t : IdTriple). t.o) same) in
        λ i. record { subject = subjects i; predicate = predicates i; object = objects i }

    id-positive : (q : TextTriple) → Here q → IsPositive (id_triple history k q)
    unfolding id_triple
    id-positive q h = record {
      subject = (number-within history kept k Node q.subject (subject_at q h)).0;
      predicate = (number-within history kept k Predicate q.predicate (relation_at q h)).0;
      object = (number-within history kept k Node q.object (object_at q h)).0;
    }

    pub id-within : (q : TextTriple) → Here q → IsWithin (size (numbered_with Node history (Some k))) (size (numbered_with Predicate history (Some k))) (id_triple history k q)
    unfolding id_triple
    id-within q h = record {
      subject = (number-within history kept k Node q.subject (subject_at q h)).1;
      predicate = (number-within history kept k Predicate q.predicate (relation_at q h)).1;
      object = (number-within history kept k Node q.object (object_at q h)).1;
    }

    -- ---- a set of triples

    module _ (set : SetOf triple_cmp) where
      pub only_order : IsPermutation (members set) (in_birth_order history k set)
      only_order = moved_rising (birth_cmp history k) (birth_cmp_total history k) (birth_cmp-IsAntisymmetric history k) triple_cmp triple_cmp_total (members set) (IsStrictlySortedBy-members triple_cmp set)

      pub in_set : (i : ℕ) (q : TextTriple) → slice_get (in_birth_order history k set) i ≡ Some q → contains set q ≡ true
      in_set i q at =
          let place = place_of (birth_cmp history k) (birth_cmp_total history k) (birth_cmp-IsAntisymmetric history k) (members set) q
          (list_any-IsPermutation (eq_by_cmp (birth_cmp history k) q) (members set) (in_birth_order history k set) only_order
          ∙ among_at (birth_cmp history k) (birth_cmp_total history k) (in_birth_order history k set) i q at) in
          contains-members triple_cmp set q ∙ among_at triple_cmp triple_cmp_total (members set) place.0 q place.1

      -- what stands among the number triples is that of a triple of the set
      pub from_set : (t : IdTriple) → Contains (id_triples history k set) t → (q : TextTriple) × (contains set q ≡ true) × (id_triple history k q ≡ t)
      unfolding id_triples
      from_set t there =
          let found = mapped_from (id_triple history k) (in_birth_order history k set) t there in
          (found.1, in_set found.0 found.1 found.2, found.3)

      pub to_set : (q : TextTriple) → contains set q ≡ true → Contains (id_triples history k set) (id_triple history k q)
      unfolding id_triples
      to_set q is =
          let place = place_of triple_cmp triple_cmp_total triple_cmp-IsAntisymmetric (members set) q (sym (contains-members triple_cmp set q) ∙ is) in
          let there = place_of (birth_cmp history k) (birth_cmp_total history k) (birth_cmp-IsAntisymmetric history k) (in_birth_order history k set) q
          (sym (list_any-IsPermutation (eq_by_cmp (birth_cmp history k) q) (members set) (in_birth_order history k set) only_order)
          ∙ among_at (birth_cmp history k) (birth_cmp_total history k) (members set) place.0 q place.1) in
          mapped_to (id_triple history k) (in_birth_order history k set) there.0 q there.1

      module _ (here : (q : TextTriple) → contains set q ≡ true → Here q) where
        each_here : AllByRecursion Here (in_birth_order history k set)
        each_here =
            each_among (birth_cmp history k) (birth_cmp_total history k) Here (in_birth_order history k set) (λ q there.
            let place = place_of (birth_cmp history k) (birth_cmp_total history k) (birth_cmp-IsAntisymmetric history k) (in_birth_order history k set) q there in
            here q (in_set place.0 q place.1))

        -- the number triples are those of a plane
        pub id_triples-plane : IsPlaneList (id_triples history k set)
        unfolding id_triples
        id_triples-plane = record {
          rising = rises-map (birth_cmp history k) id_cmp (id_triple history k) Here (λ x y a b less. sym (id-order x y a b) ∙ less) (in_birth_order history k set) each_here
              (IsStrictlySortedBy-members (birth_cmp history k) (from_list {R = birth_cmp history k} (members set)));
          positive = All-from_recursion IsPositive (map (id_triple history k) (in_birth_order history k set))
              (each-map (id_triple history k) Here IsPositive id-positive (in_birth_order history k set) each_here);
        }

        -- whatever holds of each triple's
        pub id_triples-each : (Q : IdTriple → Type 0) → ((q : TextTriple) → contains set q ≡ true → Q (id_triple history k q)) → All Q (id_triples history k set)
        unfolding id_triples
        id_triples-each Q gives =
            All-from_recursion Q (map (id_triple history k) (in_birth_order history k set))
            (each-map (id_triple history k) (λ q. contains set q ≡ true) Q gives (in_birth_order history k set)
            (each_among (birth_cmp history k) (birth_cmp_total history k) (λ q. contains set q ≡ true) (in_birth_order history k set) (λ q there.
            let place = place_of (birth_cmp history k) (birth_cmp_total history k) (birth_cmp-IsAntisymmetric history k) (in_birth_order history k set) q there in
            in_set place.0 q place.1)))
