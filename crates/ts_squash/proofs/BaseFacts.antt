-- What is made of the triples of a layer are the facts of a base layer with them.
use Rattle.std.proofs.Common.{◌≡◌, ◌⊎◌, inl, inr, ℕ, suc, ◌+◌, ◌<◌, ◌≤◌, true, false, ◌||◌, List, [], ◌∷◌, ◌++◌, map, length, length-append, slice_get, Option, None, Some, refl, sym, ap, ◌∙◌, subst, arith}
use Rattle.std.specs.Cmp.{both_ways}
use Rattle.std.specs.FinMap.{contains_key, empty}
use Rattle.std.specs.List.{AllByRecursion}
use Rattle.std.specs.List.Sorted.{IsPermutation, IsSorted, IsStrictlySortedBy}
use Rattle.std.specs.Ordering.{eq_by_cmp}
use Rattle.std.proofs.lemmas.Bool.{or_cases, or_left, or_right}
use Rattle.std.proofs.lemmas.List.Folds.{list_any-append}
use Rattle.std.proofs.lemmas.List.Sorted.{IsPermutation-map, IsPermutation-sym, IsPermutation-trans}
use Rattle.ts_model.specs.declared.term.TermKind.{TermKind}
use Rattle.ts_model.specs.declared.term.TermKind.TheVariants.{Node, Predicate, Value}
use Rattle.ts_model.specs.History.{History, content_at, parent_at}
use Rattle.ts_model.specs.Limits.{number_limit}
use Rattle.ts_model.specs.Listing.{birth_cmp, in_birth_order}
use Rattle.ts_model.specs.Order.{kind_place, term_cmp, term_cmp_total, term_cmp-IsAntisymmetric}
use Rattle.ts_model.specs.Sets.{contains, members, size}
use Rattle.ts_model.specs.TextTerm.{TextTerm}
use Rattle.ts_model.specs.TextTriple.{TextTriple}
use Rattle.ts_model.proofs.BirthOrder.{birth_cmp_total, birth_cmp-IsAntisymmetric}
use Rattle.ts_model.proofs.SetAlgebra.{members-from_rising}
use Rattle.ts_model.proofs.TripleSets.{members-empty}
use Rattle.ts_plane.specs.declared.triple.IdTriple.{IdTriple}
use Rattle.ts_plane.specs.Triple.{triple_cmp as id_cmp}
use Rattle.ts_part.specs.declared.header.PartKind.TheVariants.{Layer}
use Rattle.ts_part.specs.Facts.{Facts, HasPredicate, HasTerm, all_predicates, all_terms}
use Rattle.ts_part.specs.Header.{KeepsHeaderRules, header_of}
use Rattle.ts_part.specs.Numbers.{IsTermAt, id_triple, id_triples, number_of, numbered_with, totals_at}
use Rattle.ts_part.specs.Rules.{KeepsRules, TermsRule}
use Rattle.ts_part.specs.Step.{layer_facts, new_terms}
use Rattle.ts_part.proofs.IdOrder.{id_triples-plane, in_set, node_at, only_order, predicate_at}
use Rattle.ts_part.proofs.LayerStep.{layer_stands, layer_totals}
use Rattle.ts_part.proofs.NewTerms.{is_in, listed_is_new, new_is_listed}
use Rattle.ts_part.proofs.Numbered.{own_term}
use Rattle.ts_part.proofs.Ranks.{among_at, each_among, place_of}
use Rattle.ts_part.proofs.StepRules.{layer_rules}
use Rattle.ts_part.proofs.TermRules.{terms_keep}
use Rattle.ts_chain.specs.Spelled.{AreNamed}
use Rattle.ts_chain.specs.Stands.{StandsFor}
use Rattle.ts_chain.specs.Views.{NamesPredicate, NamesTerm}
use Rattle.ts_chain.proofs.ContentSize.{length-id_triples}
use Rattle.ts_chain.proofs.IdOrder.{triple_cmp_total, triple_cmp-IsAntisymmetric}
use Rattle.ts_squash.specs.NewNumbers.{AreDifferent, AreSameNumbers, new_number, new_triple}
use Rattle.ts_squash.specs.Squashed.{ends_of, relations_of, squashed}
use Rattle.ts_squash.proofs.BaseTerms.{additions_are, base_kept, base_there, base_triple, new_here, old_triple, over, parent_is, removals_are}
use Rattle.ts_squash.proofs.Entries.{entry_of, entry_there, new_is, predicate_user, predicate_uses, predicates_named, term_user, term_uses, terms_named}
use Rattle.ts_squash.proofs.Moved.{sorted_same}
use Rattle.ts_squash.proofs.TermLists.{kind_at, same_list}

-- the terms of the numbers that the triples of a layer use
pub record AreTermsOf (history : History) (k : ℕ) (parts : List Facts) (used ids : List ℕ) (nodes values : List TextTerm) : Type 0 where
  pub different : AreDifferent (ends_of (id_triples history k (content_at history k))) used
  pub same : AreSameNumbers used ids
  pub counted : length nodes + length values ≡ length used
  pub named : AreNamed (NamesTerm parts) ids (nodes ++ values)
  pub nodes_keep : TermsRule Node nodes
  pub values_keep : TermsRule Value values

pub record ArePredicatesOf (history : History) (k : ℕ) (parts : List Facts) (used ids : List ℕ) (predicates : List TextTerm) : Type 0 where
  pub different : AreDifferent (relations_of (id_triples history k (content_at history k))) used
  pub same : AreSameNumbers used ids
  pub counted : length predicates ≡ length used
  pub named : AreNamed (NamesPredicate parts) ids predicates
  pub keep : TermsRule Predicate predicates

no_members : size (empty {X = Unit {0}} {R = term_cmp}) ≡ 0
unfolding IsStrictlySortedBy
no_members = ap length (members-from_rising term_cmp term_cmp_total term_cmp-IsAntisymmetric [] tt)

no_elements : {X : Type 0} (xs : List X) → length xs ≡ 0 → [] ≡ xs
no_elements [] e = refl
no_elements (x ∷ xs) e = absurd (omega arith)

-- a mapped list, mapped again
map_twice : {X Y Z : Type 0} (f : Y → Z) (g : X → Y) (h : X → Z) (xs : List X) → AllByRecursion (λ x. f (g x) ≡ h x) xs → map f (map g xs) ≡ map h xs
map_twice f g h [] each = refl
map_twice f g h (x ∷ xs) each = λ i. each.0 i ∷ map_twice f g h xs each.1 i

module _ (history : History) (k n : ℕ) (positive : 1 ≤ n) (fits : n < number_limit) (fresh : contains_key history n ≡ false) (parts : List Facts) (stands : StandsFor parts history k) where
  abbrev base : History
  base = squashed history n k

  abbrev from : Option ℕ
  from = parent_at base n

  abbrev listed : TermKind → List TextTerm
  listed kind = new_terms kind base from n

  -- the list has the base's terms of a kind, where it has those of them that are in the base
  lists : (kind : TermKind) (terms : List TextTerm) → TermsRule kind terms
      → ((i : ℕ) (term : TextTerm) → slice_get terms i ≡ Some term → IsTermAt base (Some n) term)
      → ((term : TextTerm) → term.kind ≡ kind → IsTermAt base (Some n) term → is_in terms term ≡ true)
      → terms ≡ listed kind
  lists kind terms rule there has =
      let kept = base_kept history stands.kept k n positive fits fresh in
      let above = over history stands.kept k n positive fits fresh in
      same_list kind terms (listed kind) rule (terms_keep base kept from n above kind) (λ term.
      both_ways (is_in terms term) (is_in (listed kind) term)
      (λ is.
      let place = place_of term_cmp term_cmp_total term_cmp-IsAntisymmetric terms term is in
      new_is_listed base kept from n above kind term (kind_at kind terms place.0 term rule place.1)
      (new_here history stands.kept k n positive fits fresh term (there place.0 term place.1)))
      (λ is.
      let new = listed_is_new base kept from n above kind term is in
      has term new.0 new.1.there))

  -- ---- nodes and values

  module _ (used ids : List ℕ) (nodes values : List TextTerm) (are : AreTermsOf history k parts used ids nodes values) where
    abbrev entries : List TextTerm
    entries = nodes ++ values

    there_at : (p : ℕ) (term : TextTerm) → slice_get entries p ≡ Some term → contains (numbered_with Node base (Some n)) term ≡ true
    there_at =
        entry_there history stands.kept k n positive fits fresh Node used ids entries are.same are.different.rise (length-append nodes values ∙ are.counted)
        (terms_named history stands.kept k n positive fits fresh used are.different parts stands ids entries are.named)
        (term_user history stands.kept k n positive fits fresh used are.different)
        (term_uses history stands.kept k n positive fits fresh used are.different)

    place_in : (term : TextTerm) → contains (numbered_with Node base (Some n)) term ≡ true
        → (p : ℕ) × (slice_get entries p ≡ Some term) × (slice_get ids p ≡ Some (number_of history k term))
    place_in =
        entry_of history stands.kept k n positive fits fresh Node used ids entries are.same are.different.rise (length-append nodes values ∙ are.counted)
        (terms_named history stands.kept k n positive fits fresh used are.different parts stands ids entries are.named)
        (term_user history stands.kept k n positive fits fresh used are.different)
        (term_uses history stands.kept k n positive fits fresh used are.different)

    there_in : (term : TextTerm) → is_in entries term ≡ true → IsTermAt base (Some n) term
    there_in term is =
        let place = place_of term_cmp term_cmp_total term_cmp-IsAntisymmetric entries term is in
        own_term base (base_kept history stands.kept k n positive fits fresh) Node (Some n) term (there_at place.0 term place.1)

    in_either : (term : TextTerm) → (term.kind ≡ Node) ⊎ (term.kind ≡ Value) → IsTermAt base (Some n) term → (is_in nodes term || is_in values term) ≡ true
    in_either term kind there =
        let place = place_in term (node_at base (base_kept history stands.kept k n positive fits fresh) (Some n) term kind there) in
        sym (list_any-append (eq_by_cmp term_cmp term) nodes values) ∙ among_at term_cmp term_cmp_total entries place.0 term place.1

    of_kind : (kind : TermKind) (terms : List TextTerm) (term : TextTerm) → TermsRule kind terms → is_in terms term ≡ true → term.kind ≡ kind
    of_kind kind terms term rule is = (let place = place_of term_cmp term_cmp_total term_cmp-IsAntisymmetric terms term is in kind_at kind terms place.0 term rule place.1)

    pub nodes_are : nodes ≡ listed Node
    nodes_are = lists Node nodes are.nodes_keep
        (λ i term at. there_in term (list_any-append (eq_by_cmp term_cmp term) nodes values ∙ or_left (is_in nodes term) (is_in values term) (among_at term_cmp term_cmp_total nodes i term at)))
        (λ term kind there.
        elim (or_cases (is_in nodes term) (is_in values term) (in_either term (inl kind) there)) as (λ _. is_in nodes term ≡ true) [
          | inl here ↦ here
          | inr other ↦ (let places : kind_place Node ≡ kind_place Value = ap kind_place (sym kind ∙ of_kind Value values term are.values_keep other) in absurd (omega arith))
        ])

    pub values_are : values ≡ listed Value
    values_are = lists Value values are.values_keep
        (λ i term at. there_in term (list_any-append (eq_by_cmp term_cmp term) nodes values ∙ or_right (is_in nodes term) (is_in values term) (among_at term_cmp term_cmp_total values i term at)))
        (λ term kind there.
        elim (or_cases (is_in nodes term) (is_in values term) (in_either term (inr kind) there)) as (λ _. is_in values term ≡ true) [
          | inl other ↦ (let places : kind_place Value ≡ kind_place Node = ap kind_place (sym kind ∙ of_kind Node nodes term are.nodes_keep other) in absurd (omega arith))
          | inr here ↦ here
        ])

    -- the new number of a term's old number is that of the base
    pub new_term_number : (term : TextTerm) → (term.kind ≡ Node) ⊎ (term.kind ≡ Value) → IsTermAt base (Some n) term → new_number ids (number_of history k term) ≡ number_of base n term
    unfolding layer_facts
    new_term_number term kind there =
        let kept = base_kept history stands.kept k n positive fits fresh in
        let place = place_in term (node_at base kept (Some n) term kind there) in
        let before : (totals_at base from).0 ≡ 0 = ap (λ o. (totals_at base o).0) (parent_is history stands.kept k n positive fits fresh) ∙ no_members in
        let has : HasTerm (layer_facts base n) (suc place.0) term = record {
          entry = place.0;
          stands = (λ i. slice_get (sym nodes_are i ++ sym values_are i) place.0) ∙ place.1;
          numbered = omega arith;
        } in
        new_is history stands.kept k n positive fits fresh Node used ids entries are.same are.different.rise (length-append nodes values ∙ are.counted)
        (terms_named history stands.kept k n positive fits fresh used are.different parts stands ids entries are.named)
        (term_user history stands.kept k n positive fits fresh used are.different)
        (term_uses history stands.kept k n positive fits fresh used are.different)
        place.0 term place.2
        ∙ (((layer_stands base kept n (base_there history stands.kept k n positive fits fresh)).terms (suc place.0) term).0 has).2

  -- ---- predicates

  module _ (used ids : List ℕ) (predicates : List TextTerm) (are : ArePredicatesOf history k parts used ids predicates) where
    there_as : (p : ℕ) (term : TextTerm) → slice_get predicates p ≡ Some term → contains (numbered_with Predicate base (Some n)) term ≡ true
    there_as =
        entry_there history stands.kept k n positive fits fresh Predicate used ids predicates are.same are.different.rise are.counted
        (predicates_named history stands.kept k n positive fits fresh used are.different parts stands ids predicates are.named)
        (predicate_user history stands.kept k n positive fits fresh used are.different)
        (predicate_uses history stands.kept k n positive fits fresh used are.different)

    place_as : (term : TextTerm) → contains (numbered_with Predicate base (Some n)) term ≡ true
        → (p : ℕ) × (slice_get predicates p ≡ Some term) × (slice_get ids p ≡ Some (number_of history k term))
    place_as =
        entry_of history stands.kept k n positive fits fresh Predicate used ids predicates are.same are.different.rise are.counted
        (predicates_named history stands.kept k n positive fits fresh used are.different parts stands ids predicates are.named)
        (predicate_user history stands.kept k n positive fits fresh used are.different)
        (predicate_uses history stands.kept k n positive fits fresh used are.different)

    pub predicates_are : predicates ≡ listed Predicate
    predicates_are = lists Predicate predicates are.keep
        (λ i term at. own_term base (base_kept history stands.kept k n positive fits fresh) Predicate (Some n) term (there_as i term at))
        (λ term kind there.
        let place = place_as term (predicate_at base (base_kept history stands.kept k n positive fits fresh) (Some n) term kind there) in
        among_at term_cmp term_cmp_total predicates place.0 term place.1)

    pub new_predicate_number : (term : TextTerm) → term.kind ≡ Predicate → IsTermAt base (Some n) term → new_number ids (number_of history k term) ≡ number_of base n term
    unfolding layer_facts
    new_predicate_number term kind there =
        let kept = base_kept history stands.kept k n positive fits fresh in
        let place = place_as term (predicate_at base kept (Some n) term kind there) in
        let before : (totals_at base from).1 ≡ 0 = ap (λ o. (totals_at base o).1) (parent_is history stands.kept k n positive fits fresh) ∙ no_members in
        let has : HasPredicate (layer_facts base n) (suc place.0) term = record {
          entry = place.0;
          stands = ap (λ l. slice_get l place.0) (sym predicates_are) ∙ place.1;
          numbered = omega arith;
        } in
        new_is history stands.kept k n positive fits fresh Predicate used ids predicates are.same are.different.rise are.counted
        (predicates_named history stands.kept k n positive fits fresh used are.different parts stands ids predicates are.named)
        (predicate_user history stands.kept k n positive fits fresh used are.different)
        (predicate_uses history stands.kept k n positive fits fresh used are.different)
        place.0 term place.2
        ∙ (((layer_stands base kept n (base_there history stands.kept k n positive fits fresh)).predicates (suc place.0) term).0 has).2

  -- ---- the triples, and all facts

  module _ (used ids : List ℕ) (nodes values : List TextTerm) (are : AreTermsOf history k parts used ids nodes values) (used_too others : List ℕ) (predicates : List TextTerm)
      (are_too : ArePredicatesOf history k parts used_too others predicates) where
    abbrev renumber : IdTriple → IdTriple
    renumber = new_triple ids others

    new_id : (q : TextTriple) → contains (content_at history k) q ≡ true → renumber (id_triple history k q) ≡ id_triple base n q
    unfolding id_triple
    new_id q there =
        let is = (old_triple history stands.kept k n positive fits fresh q there).is in
        let now = base_triple history stands.kept k n positive fits fresh q there in
        λ i. record {
          s = new_term_number used ids nodes values are q.subject (inl is.0.0) now.subject i;
          p = new_predicate_number used_too others predicates are_too q.predicate is.0.1 now.predicate i;
          o = new_term_number used ids nodes values are q.object is.0.2 now.object i;
        }

    new_ids : map renumber (id_triples history k (content_at history k)) ≡ map (id_triple base n) (in_birth_order history k (content_at history k))
    unfolding id_triples
    new_ids =
        let listing : List TextTriple = in_birth_order history k (content_at history k) in
        map_twice renumber (id_triple history k) (id_triple base n) listing
        (each_among (birth_cmp history k) (birth_cmp_total history k) (λ q. renumber (id_triple history k q) ≡ id_triple base n q) listing (λ q is.
        let place = place_of (birth_cmp history k) (birth_cmp_total history k) (birth_cmp-IsAntisymmetric history k) listing q is in
        new_id q (in_set history stands.kept k (content_at history k) place.0 q place.1)))

    new_moved : IsPermutation (id_triples base n (content_at history k)) (map renumber (id_triples history k (content_at history k)))
    unfolding id_triples
    new_moved =
        let listing : List TextTriple = in_birth_order history k (content_at history k) in
        let now : List TextTriple = in_birth_order base n (content_at history k) in
        let one = only_order history stands.kept k (content_at history k) in
        let other = only_order base (base_kept history stands.kept k n positive fits fresh) n (content_at history k) in
        subst (IsPermutation (map (id_triple base n) now)) (sym new_ids)
        (IsPermutation-map (id_triple base n) now listing
        (IsPermutation-trans now (members (content_at history k)) listing (IsPermutation-sym (members (content_at history k)) now other) one))

    additions_is : (additions : List IdTriple) → IsPermutation (map renumber (id_triples history k (content_at history k))) additions → IsSorted id_cmp additions
        → additions ≡ id_triples base n (content_at history k)
    additions_is additions moved up =
        sorted_same id_cmp triple_cmp_total triple_cmp-IsAntisymmetric (record { s = 0; p = 0; o = 0 }) (id_triples base n (content_at history k)) additions
        (id_triples-plane base (base_kept history stands.kept k n positive fits fresh) n (content_at history k) (λ q there. base_triple history stands.kept k n positive fits fresh q there)).rising
        (IsPermutation-trans (id_triples base n (content_at history k)) (map renumber (id_triples history k (content_at history k))) additions new_moved moved) up

    nothing_goes : [] ≡ id_triples base n empty
    nothing_goes = no_elements (id_triples base n empty) (length-id_triples base (base_kept history stands.kept k n positive fits fresh) n empty ∙ ap length members-empty)

    pub base_facts : (additions : List IdTriple) → IsPermutation (map renumber (id_triples history k (content_at history k))) additions → IsSorted id_cmp additions
        → record {
          kind = Layer;
          number = n;
          parent = None;
          terms_before = 0;
          predicates_before = 0;
          nodes = nodes;
          predicates = predicates;
          values = values;
          additions = additions;
          removals = [];
          term_map = [];
          predicate_map = [];
        } ≡ layer_facts base n
    unfolding layer_facts
    base_facts additions moved up =
        let none = parent_is history stands.kept k n positive fits fresh in
        λ i. record {
          kind = Layer;
          number = n;
          parent = sym none i;
          terms_before = (sym no_members ∙ ap (λ o. (totals_at base o).0) (sym none)) i;
          predicates_before = (sym no_members ∙ ap (λ o. (totals_at base o).1) (sym none)) i;
          nodes = nodes_are used ids nodes values are i;
          predicates = predicates_are used_too others predicates are_too i;
          values = values_are used ids nodes values are i;
          additions = (additions_is additions moved up ∙ ap (id_triples base n) (sym (additions_are history stands.kept k n positive fits fresh))) i;
          removals = (nothing_goes ∙ ap (id_triples base n) (sym (removals_are history stands.kept k n positive fits fresh))) i;
          term_map = [];
          predicate_map = [];
        }

  -- they keep all rules
  pub base_rules : (facts : Facts) → facts ≡ layer_facts base n → KeepsHeaderRules (header_of facts 0) → KeepsRules facts
  base_rules facts is header =
      let kept = base_kept history stands.kept k n positive fits fresh in
      let there = base_there history stands.kept k n positive fits fresh in
      let totals = (ap (λ f. (all_terms f, all_predicates f)) is) ∙ layer_totals base kept n there in
      subst KeepsRules (sym is)
      (layer_rules base kept n there
      (subst (λ m. m < number_limit) (ap (λ (t : ℕ × ℕ). t.0) totals) header.terms)
      (subst (λ m. m < number_limit) (ap (λ (t : ℕ × ℕ). t.1) totals) header.predicates))
