-- What a lookup says of the terms that a chain lacks.
use Rattle.std.proofs.Common.{◌≡◌, ℕ, ◌+◌, ◌<◌, ◌≤◌, ◌⊎◌, Bor, inl, inr, Bool, true, false, cond, ◌||◌, List, [], ◌∷◌, ◌++◌, map, flat_map, filter, length, get_or, All, Option, None, Some, refl, sym, ap, ◌∙◌, subst, true≢false, arith}
use Rattle.std.specs.List.{list_any}
use Rattle.std.specs.Option.{is_none}
use Rattle.std.proofs.lemmas.Bool.{or_cases}
use Rattle.std.proofs.lemmas.Option.{slice_get-get_or}
use Rattle.std.proofs.lemmas.List.{get_or-map, length-map}
use Rattle.std.proofs.lemmas.List.Elements.{All-append, All-filter, All-head, All-map, All-tail, All-weaker}
use Rattle.std.proofs.lemmas.List.Folds.{list_any-append}
use Rattle.ts_model.specs.declared.term.TermKind.{TermKind}
use Rattle.ts_model.specs.declared.term.TermKind.TheVariants.{Node, Predicate, Value}
use Rattle.ts_model.specs.Birth.{is_term}
use Rattle.ts_model.specs.Order.{kind_place, term_cmp, term_cmp_total, term_cmp-IsAntisymmetric}
use Rattle.ts_model.specs.Sets.{from_list, members}
use Rattle.ts_model.specs.TextTerm.{TextTerm}
use Rattle.ts_model.specs.TextTriple.{IsTriple, TextTriple}
use Rattle.ts_model.proofs.SetLaws.{IsStrictlySortedBy-members, contains-from_list, contains-members, members_are}
use Rattle.ts_part.specs.Facts.{Facts}
use Rattle.ts_part.specs.Step.{is_of_kind}
use Rattle.ts_part.proofs.Mentioned.{same_term}
use Rattle.ts_part.proofs.Ranks.{among_at}
use Rattle.ts_chain.specs.Holds.{Holds}
use Rattle.ts_chain.specs.Ids.{HasId}
use Rattle.ts_chain.proofs.TermSets.{filtered_members}
use Rattle.ts_builder.specs.declared.terms.Found.{Found}
use Rattle.ts_builder.specs.declared.terms.Lookup.{Lookup}
use Rattle.ts_builder.specs.declared.terms.Occurrences.{Occurrences}
use Rattle.ts_builder.specs.Lookups.{AreFound, IsIdOrNone, IsLookup, found_terms, lacked}
use Rattle.ts_builder.specs.NewTerms.{is_new_to, new_predicates_of, new_terms_of}
use Rattle.ts_builder.specs.Numbering.{AreNew, made_of, new_of_kind}
use Rattle.ts_builder.proofs.NumberLemmas.{of_its_kind}
use Rattle.ts_builder.proofs.TermLemmas.{known_is_not_new, new_where_lacked, not_both}

-- ---- the terms of triples, in another order

abbrev pub ends_of : List TextTriple → List TextTerm
ends_of triples = map (λ (triple : TextTriple). triple.subject) triples ++ map (λ (triple : TextTriple). triple.object) triples

abbrev in_turn : List TextTriple → List TextTerm
in_turn triples = flat_map (λ (triple : TextTriple). triple.subject ∷ triple.object ∷ []) triples

moved_or : (s a o b : Bool) → (s || a) || (o || b) ≡ s || (o || (a || b))
moved_or true a o b = refl
moved_or false true true b = refl
moved_or false true false b = refl
moved_or false false o b = refl

among_ends : (triples : List TextTriple) (q : TextTerm) → list_any (is_term q) (ends_of triples) ≡ list_any (is_term q) (in_turn triples)
among_ends [] q = refl
among_ends (t ∷ ts) q =
    let subjects = map (λ (triple : TextTriple). triple.subject) ts in
    let objects = map (λ (triple : TextTriple). triple.object) ts in
    list_any-append (is_term q) (t.subject ∷ subjects) (t.object ∷ objects)
    ∙ moved_or (is_term q t.subject) (list_any (is_term q) subjects) (is_term q t.object) (list_any (is_term q) objects)
    ∙ ap (λ b. is_term q t.subject || (is_term q t.object || b)) (sym (list_any-append (is_term q) subjects objects) ∙ among_ends ts q)

same_ends : (triples : List TextTriple) → members (from_list {R = term_cmp} (ends_of triples)) ≡ members (from_list {R = term_cmp} (in_turn triples))
same_ends triples =
    members_are term_cmp term_cmp_total term_cmp-IsAntisymmetric (from_list (in_turn triples)) (members (from_list {R = term_cmp} (ends_of triples)))
    (IsStrictlySortedBy-members term_cmp (from_list (ends_of triples)))
    (λ q. sym (contains-members term_cmp (from_list (ends_of triples)) q) ∙ contains-from_list term_cmp term_cmp_total (ends_of triples) q ∙ among_ends triples q
    ∙ sym (contains-from_list term_cmp term_cmp_total (in_turn triples) q))

-- ---- what is true of the terms of a list

among_all : (P : TextTerm → Type 0) (terms : List TextTerm) (term : TextTerm) → All P terms → list_any (is_term term) terms ≡ true → P term
among_all P [] term all is = absurd (true≢false (sym is))
among_all P (x ∷ xs) term all is =
    elim (or_cases (is_term term x) (list_any (is_term term) xs) is) as (λ _. P term) [
      | inl here ↦ subst P (sym (same_term term x here)) (All-head P x xs all)
      | inr later ↦ among_all P xs term (All-tail P x xs all) later
    ]

members_all : (P : TextTerm → Type 0) (terms : List TextTerm) → All P terms → All P (members (from_list {R = term_cmp} terms))
members_all P terms all = λ k d below.
    let each = members (from_list {R = term_cmp} terms) in
    among_all P terms (get_or each k d) all
    (sym (contains-from_list term_cmp term_cmp_total terms (get_or each k d)) ∙ contains-members term_cmp (from_list terms) (get_or each k d)
    ∙ among_at term_cmp term_cmp_total each k (get_or each k d) (slice_get-get_or each k d below))

-- ---- what is found

lacked_new : (parts : List Facts) (found : List Found) → All (λ (one : Found). IsIdOrNone parts one.term.now one.id) found → lacked found ≡ filter (is_new_to parts) (found_terms found)
lacked_new parts [] ids = refl
lacked_new parts (x ∷ xs) ids =
    let rest = lacked_new parts xs (All-tail (λ (one : Found). IsIdOrNone parts one.term.now one.id) x xs ids) in
    out (is_none x.id) ∙ (λ i. cond (by x.id (All-head (λ (one : Found). IsIdOrNone parts one.term.now one.id) x xs ids) i) (x.term.now ∷ rest i) (rest i))
  where
    out : (b : Bool) → found_terms (cond b (x ∷ filter (λ (one : Found). is_none one.id) xs) (filter (λ (one : Found). is_none one.id) xs)) ≡ cond b (x.term.now ∷ lacked xs) (lacked xs)
    out true = refl
    out false = refl

    by : (id : Option ℕ) → IsIdOrNone parts x.term.now id → is_none id ≡ is_new_to parts x.term.now
    by None lacks = sym (new_where_lacked parts x.term.now lacks)
    by (Some id) has = sym (known_is_not_new parts x.term.now id has)

module _ (parts : List Facts) (occurrences : List TextTerm) (terms : Occurrences) (are : AreFound parts occurrences terms) where
  lacked_members : lacked terms.found.items ≡ filter (is_new_to parts) (members (from_list {R = term_cmp} occurrences))
  lacked_members = lacked_new parts terms.found.items are.ids ∙ ap (filter (is_new_to parts)) are.distinct

  found_all : (P : TextTerm → Type 0) → All P occurrences → All (λ (one : Found). P one.term.now) terms.found.items
  found_all P all = λ k d below.
      subst P (get_or-map (λ (one : Found). one.term.now) terms.found.items k d d.term.now below)
      (subst (All P) (sym are.distinct) (members_all P occurrences all) k d.term.now (subst (λ n. k < n) (sym (length-map terms.found.items (λ (one : Found). one.term.now))) below))

-- ---- additions

of_one_kind : (kind : TermKind) (terms : List TextTerm) → All (λ term. term.kind ≡ kind) terms → filter (is_of_kind kind) terms ≡ terms
of_one_kind kind [] kinds = refl
of_one_kind kind (x ∷ xs) kinds =
    let rest = of_one_kind kind xs (All-tail (λ (term : TextTerm). term.kind ≡ kind) x xs kinds) in
    ap (λ b. cond b (x ∷ filter (is_of_kind kind) xs) (filter (is_of_kind kind) xs)) (of_its_kind kind x (All-head (λ (term : TextTerm). term.kind ≡ kind) x xs kinds)) ∙ ap (λ terms. x ∷ terms) rest

module _ (parts : List Facts) (triples : List TextTriple) (terms : Lookup) (are : IsLookup parts triples terms) where
  pub new_terms_are : lacked terms.ends.found.items ≡ members (new_terms_of parts triples)
  new_terms_are =
      lacked_members parts (ends_of triples) terms.ends are.ends ∙ ap (filter (is_new_to parts)) (same_ends triples) ∙ filtered_members (is_new_to parts) (from_list (in_turn triples))

  pub new_predicates_are : lacked terms.relations.found.items ≡ members (new_predicates_of parts triples)
  new_predicates_are =
      lacked_members parts (map (λ (triple : TextTriple). triple.predicate) triples) terms.relations are.relations
      ∙ filtered_members (is_new_to parts) (from_list (map (λ (triple : TextTriple). triple.predicate) triples))

  module _ (kinds : All IsTriple triples) where
    pub added_ends : AreNew (made_of parts triples) terms.ends.found.items
    added_ends = λ k d below none.
        let one = get_or terms.ends.found.items k d in
        by one.term.now.kind (found_all parts (ends_of triples) terms.ends are.ends (λ term. (term.kind ≡ Node) ⊎ (term.kind ≡ Value))
        (All-append (λ (term : TextTerm). (term.kind ≡ Node) ⊎ (term.kind ≡ Value)) (map (λ (triple : TextTriple). triple.subject) triples) (map (λ (triple : TextTriple). triple.object) triples)
        (All-map (λ (term : TextTerm). (term.kind ≡ Node) ⊎ (term.kind ≡ Value)) (λ (triple : TextTriple). triple.subject) triples
        (All-weaker IsTriple (λ (triple : TextTriple). (triple.subject.kind ≡ Node) ⊎ (triple.subject.kind ≡ Value)) (λ triple is. inl is.0.0) triples kinds))
        (All-map (λ (term : TextTerm). (term.kind ≡ Node) ⊎ (term.kind ≡ Value)) (λ (triple : TextTriple). triple.object) triples
        (All-weaker IsTriple (λ (triple : TextTriple). (triple.object.kind ≡ Node) ⊎ (triple.object.kind ≡ Value)) (λ triple is. is.0.2) triples kinds))) k d below)
      where
        no_relation : (Predicate ≡ Node) ⊎ (Predicate ≡ Value) → ⊥
        no_relation (inl e) = let places : kind_place Predicate ≡ kind_place Node = ap kind_place e in absurd (omega arith)
        no_relation (inr e) = let places : kind_place Predicate ≡ kind_place Value = ap kind_place e in absurd (omega arith)

        by : (kind : TermKind) → (kind ≡ Node) ⊎ (kind ≡ Value) → filter (is_of_kind kind) (lacked terms.ends.found.items) ≡ new_of_kind kind (made_of parts triples)
        by Node is = ap (filter (is_of_kind Node)) new_terms_are
        by Predicate is = absurd (no_relation is)
        by Value is = ap (filter (is_of_kind Value)) new_terms_are

    pub added_relations : AreNew (made_of parts triples) terms.relations.found.items
    added_relations = λ k d below none.
        subst (λ kind. filter (is_of_kind kind) (lacked terms.relations.found.items) ≡ new_of_kind kind (made_of parts triples)) (sym (kind_at k d below))
        (ap (filter (is_of_kind Predicate)) new_predicates_are
        ∙ of_one_kind Predicate (members (new_predicates_of parts triples)) (subst (All (λ (term : TextTerm). term.kind ≡ Predicate)) (sym (lacked_members parts relations terms.relations are.relations) ∙ new_predicates_are)
        (All-filter (is_new_to parts) (λ (term : TextTerm). term.kind ≡ Predicate) (members (from_list {R = term_cmp} relations)) (members_all (λ (term : TextTerm). term.kind ≡ Predicate) relations relation_kinds))))
      where
        relations : List TextTerm
        relations = map (λ (triple : TextTriple). triple.predicate) triples

        relation_kinds : All (λ (term : TextTerm). term.kind ≡ Predicate) (map (λ (triple : TextTriple). triple.predicate) triples)
        relation_kinds = All-map (λ (term : TextTerm). term.kind ≡ Predicate) (λ (triple : TextTriple). triple.predicate) triples
            (All-weaker IsTriple (λ (triple : TextTriple). triple.predicate.kind ≡ Predicate) (λ triple is. is.0.1) triples kinds)

        kind_at : All (λ (one : Found). one.term.now.kind ≡ Predicate) terms.relations.found.items
        kind_at = found_all parts (map (λ (triple : TextTriple). triple.predicate) triples) terms.relations are.relations (λ term. term.kind ≡ Predicate) relation_kinds

  -- ---- removals: the chain has each term of what it holds

  module _ (held : All (Holds parts) triples) where
    abbrev IsKnown : TextTerm → Type 0
    IsKnown term = (id : ℕ) × HasId parts term id

    none_lacked : (new : Facts) (occurrences : List TextTerm) (terms : Occurrences) → AreFound parts occurrences terms → All IsKnown occurrences → AreNew new terms.found.items
    none_lacked new occurrences terms are known = λ k d below none.
        let one = get_or terms.found.items k d in
        let has = found_all parts occurrences terms are IsKnown known k d below in
        absurd (not_both parts one.term.now has.0 has.1 (subst (IsIdOrNone parts one.term.now) none (are.ids k d below)))

    pub removed_ends : (new : Facts) → AreNew new terms.ends.found.items
    removed_ends new = none_lacked new (ends_of triples) terms.ends are.ends
        (All-append IsKnown (map (λ (triple : TextTriple). triple.subject) triples) (map (λ (triple : TextTriple). triple.object) triples)
        (All-map IsKnown (λ (triple : TextTriple). triple.subject) triples (All-weaker (Holds parts) (λ (triple : TextTriple). IsKnown triple.subject) (λ triple holds. (holds.ids.s, holds.has.subject)) triples held))
        (All-map IsKnown (λ (triple : TextTriple). triple.object) triples (All-weaker (Holds parts) (λ (triple : TextTriple). IsKnown triple.object) (λ triple holds. (holds.ids.o, holds.has.object)) triples held)))

    pub removed_relations : (new : Facts) → AreNew new terms.relations.found.items
    removed_relations new = none_lacked new (map (λ (triple : TextTriple). triple.predicate) triples) terms.relations are.relations
        (All-map IsKnown (λ (triple : TextTriple). triple.predicate) triples (All-weaker (Holds parts) (λ (triple : TextTriple). IsKnown triple.predicate) (λ triple holds. (holds.ids.p, holds.has.predicate)) triples held))

-- ---- how many there are

pub counted : (terms : List (Bor TextTerm)) (found : List TextTerm) (before count many : ℕ) → map (λ (term : Bor TextTerm). term.now) terms ≡ found → before ≡ count → many ≡ length terms
    → before + many ≡ count + length found
counted terms found before count many is from all = (λ i. from i + (all ∙ sym (length-map terms (λ (term : Bor TextTerm). term.now)) ∙ ap length is) i)

pub over_same : (limit a b x y : ℕ) → a ≡ x → b ≡ y → (limit ≤ a) ⊎ (limit ≤ b) → (limit ≤ x) ⊎ (limit ≤ y)
over_same limit a b x y terms predicates (inl over) = inl (subst (λ n. limit ≤ n) terms over)
over_same limit a b x y terms predicates (inr over) = inr (subst (λ n. limit ≤ n) predicates over)
