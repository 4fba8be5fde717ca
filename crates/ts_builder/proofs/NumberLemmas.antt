-- The numbers of terms, counted as they come.
use Rattle.std.proofs.Common.{◌≡◌, ℕ, zero, suc, ◌+◌, ◌<◌, inl, inr, true, false, cond, List, [], ◌∷◌, ◌++◌, map, filter, length, get_or, take, slice_get, slice_index, Option, None, Some, IfNone, IfSome, refl, sym, ap, ◌∙◌, subst, arith}
use Rattle.std.specs.List.{AllZip}
use Rattle.std.specs.Option.{is_none}
use Rattle.std.proofs.lemmas.Option.{slice_get_within}
use Rattle.std.proofs.lemmas.List.{get_or-append-add, get_or_append_left, get_or-map, length-append, length-map, map-append, take_more}
use Rattle.std.proofs.lemmas.List.Elements.{filter-append}
use Rattle.ts_model.specs.declared.term.TermKind.{TermKind}
use Rattle.ts_model.specs.declared.term.TermKind.TheVariants.{Node, Predicate, Value}
use Rattle.ts_model.specs.Limits.{number_limit}
use Rattle.ts_model.specs.TextTerm.{TextTerm}
use Rattle.ts_model.specs.TextTriple.{TextTriple}
use Rattle.ts_plane.specs.declared.triple.IdTriple.{IdTriple}
use Rattle.ts_part.specs.declared.header.PartKind.TheVariants.{Layer}
use Rattle.ts_part.specs.Facts.{Facts, outer_number}
use Rattle.ts_part.specs.Step.{is_of_kind}
use Rattle.ts_part.proofs.EntryLemmas.{second_entry}
use Rattle.ts_chain.specs.Ids.{HasId, HasOfKind}
use Rattle.ts_builder.specs.declared.terms.Found.{Found}
use Rattle.ts_builder.specs.declared.terms.Lookup.{Lookup}
use Rattle.ts_builder.specs.declared.terms.Occurrences.{Occurrences}
use Rattle.ts_builder.specs.declared.numbers.Numbered.{Numbered}
use Rattle.ts_builder.specs.Counting.{number_before}
use Rattle.ts_builder.specs.Lookups.{AreFound, IsIdOrNone, IsLookup, IsSomeLookup, found_terms, lacked}
use Rattle.ts_builder.specs.Numbering.{AreNew, AreNumbersBy, AreNumbersOf, IsNumberBy, IsNumberOf, IsNumbering, new_of_kind}
use Rattle.ts_builder.proofs.RankLemmas.{still_there}
use Rattle.ts_builder.proofs.ZipLemmas.{zip_at, zip_by_index, zip_length}

-- ---- how many of a kind stand before

abbrev pub of_kind : TermKind → List Found → List TextTerm
of_kind kind found = filter (is_of_kind kind) (lacked found)

lacked-append : (xs ys : List Found) → lacked (xs ++ ys) ≡ lacked xs ++ lacked ys
lacked-append xs ys =
    ap found_terms (filter-append (λ (one : Found). is_none one.id) xs ys)
    ∙ map-append (λ (one : Found). one.term.now) (filter (λ (one : Found). is_none one.id) xs) (filter (λ (one : Found). is_none one.id) ys)

pub count_more : (kind : TermKind) (found : List Found) (i : ℕ) (one : Found) → i < length found → one ≡ get_or found i one
    → length (of_kind kind (take (i + 1) found)) ≡ length (of_kind kind (take i found)) + length (of_kind kind (one ∷ []))
count_more kind found i one below is =
    ap (λ xs. length (of_kind kind xs)) (take_more found i one below ∙ ap (λ x. take i found ++ x ∷ []) (sym is))
    ∙ ap (λ xs. length (filter (is_of_kind kind) xs)) (lacked-append (take i found) (one ∷ []))
    ∙ ap length (filter-append (is_of_kind kind) (lacked (take i found)) (lacked (one ∷ [])))
    ∙ length-append (of_kind kind (take i found)) (of_kind kind (one ∷ []))

pub of_its_kind : (kind : TermKind) (term : TextTerm) → term.kind ≡ kind → is_of_kind kind term ≡ true
of_its_kind kind term is = ap (λ k. is_of_kind kind (record { kind = k; spelling = term.spelling })) is ∙ by kind
  where
    by : (kind : TermKind) → is_of_kind kind (record { kind = kind; spelling = term.spelling }) ≡ true
    by Node = refl
    by Predicate = refl
    by Value = refl

-- a term that the chain lacks stands behind those of its kind that come before
place_at : (kind : TermKind) (found : List Found) (i : ℕ) (one : Found) → i < length found → one ≡ get_or found i one → one.id ≡ None → one.term.now.kind ≡ kind
    → slice_get (of_kind kind found) (length (of_kind kind (take i found))) ≡ Some one.term.now
place_at kind [] i one below is none own = absurd (omega arith)
place_at kind (x ∷ xs) zero one below is none own =
    ap (λ b. slice_get (filter (is_of_kind kind) (found_terms (cond b (x ∷ filter (λ (one : Found). is_none one.id) xs) (filter (λ (one : Found). is_none one.id) xs)))) 0) (ap (λ (one : Found). is_none one.id) (sym is) ∙ ap is_none none)
    ∙ ap (λ b. slice_get (cond b (x.term.now ∷ of_kind kind xs) (of_kind kind xs)) 0) (of_its_kind kind x.term.now (ap (λ (one : Found). one.term.now.kind) (sym is) ∙ own))
    ∙ ap (λ (one : Found). Some one.term.now) (sym is)
place_at kind (x ∷ xs) (suc i) one below is none own =
    elim (is_none x.id) as (λ a. slice_get (filter (is_of_kind kind) (found_terms (cond a (x ∷ filter (λ (one : Found). is_none one.id) xs) (filter (λ (one : Found). is_none one.id) xs))))
    (length (filter (is_of_kind kind) (found_terms (cond a (x ∷ filter (λ (one : Found). is_none one.id) (take i xs)) (filter (λ (one : Found). is_none one.id) (take i xs)))))) ≡ Some one.term.now) [
      | true ↦ elim (is_of_kind kind x.term.now) as (λ b. slice_get (cond b (x.term.now ∷ of_kind kind xs) (of_kind kind xs))
          (length (cond b (x.term.now ∷ of_kind kind (take i xs)) (of_kind kind (take i xs)))) ≡ Some one.term.now) [
            | true ↦ place_at kind xs i one (omega arith) is none own
            | false ↦ place_at kind xs i one (omega arith) is none own
          ]
      | false ↦ place_at kind xs i one (omega arith) is none own
    ]

-- ---- the number of one

new_number : (kind : TermKind) (new : Facts) (term : TextTerm) (place number : ℕ) → new.kind ≡ Layer → slice_get (new_of_kind kind new) place ≡ Some term → number ≡ number_before kind new + place + 1
    → HasOfKind kind new number term
new_number Node new term place number layer there is = record {
  entry = place;
  stands = still_there new.nodes new.values place term there;
  numbered = subst (λ k. number ≡ new.terms_before + 1 + outer_number k new.term_map place) (sym layer) (omega arith);
}
new_number Predicate new term place number layer there is = record {
  entry = place;
  stands = there;
  numbered = subst (λ k. number ≡ new.predicates_before + 1 + outer_number k new.predicate_map place) (sym layer) (omega arith);
}
new_number Value new term place number layer there is = record {
  entry = length new.nodes + place;
  stands = second_entry new.nodes new.values place (slice_get_within new.values place term there) ∙ there;
  numbered = subst (λ k. number ≡ new.terms_before + 1 + outer_number k new.term_map (length new.nodes + place)) (sym layer) (omega arith);
}

new_below : (kind : TermKind) (new : Facts) (place : ℕ) → IsNumbering new → place < length (new_of_kind kind new) → number_before kind new + place < number_limit
new_below Node new place fits below = let few = fits.terms_fit in omega arith
new_below Predicate new place fits below = let few = fits.predicates_fit in omega arith
new_below Value new place fits below = let few = fits.terms_fit in omega arith

new_place : (new : Facts) (found : List Found) (i : ℕ) (one : Found) → AreNew new found → i < length found → one ≡ get_or found i one → one.id ≡ None
    → slice_get (new_of_kind one.term.now.kind new) (length (of_kind one.term.now.kind (take i found))) ≡ Some one.term.now
new_place new found i one news below is none =
    let kind = one.term.now.kind in
    ap (λ terms. slice_get terms (length (of_kind kind (take i found))))
    (sym (subst (λ (one : Found). one.id ≡ None → of_kind one.term.now.kind found ≡ new_of_kind one.term.now.kind new) (sym is) (news i one below) none))
    ∙ place_at kind found i one below is none refl

pub count_below : (new : Facts) (found : List Found) (i : ℕ) (one : Found) (count : ℕ) → IsNumbering new → AreNew new found → i < length found → one ≡ get_or found i one
    → count ≡ number_before one.term.now.kind new + length (of_kind one.term.now.kind (take i found)) → IfNone one.id (count < number_limit)
count_below new found i one count fits news below is counted = by one.id refl
  where
    by : (id : Option ℕ) → one.id ≡ id → IfNone id (count < number_limit)
    by (Some id) e = tt
    by None e =
        let kind = one.term.now.kind in
        subst (λ n. n < number_limit) (sym counted)
        (new_below kind new (length (of_kind kind (take i found))) fits (slice_get_within (new_of_kind kind new) (length (of_kind kind (take i found))) one.term.now (new_place new found i one news below is e)))

pub number_is : (new : Facts) (found : List Found) (i : ℕ) (one : Found) (number count : ℕ) → new.kind ≡ Layer → AreNew new found → i < length found → one ≡ get_or found i one
    → count ≡ number_before one.term.now.kind new + length (of_kind one.term.now.kind (take i found)) → IfSome one.id (λ id. number ≡ id) → IfNone one.id (number ≡ count + 1)
    → IsNumberOf new one.term.now one.id number
number_is new found i one number count layer news below is counted known next = by one.id refl known next
  where
    by : (id : Option ℕ) → one.id ≡ id → IfSome id (λ id. number ≡ id) → IfNone id (number ≡ count + 1) → IsNumberOf new one.term.now id number
    by (Some id) e known next = known
    by None e known next =
        let kind = one.term.now.kind in
        new_number kind new one.term.now (length (of_kind kind (take i found))) number layer
        (new_place new found i one news below is e) (omega arith)

-- ---- the number of each occurrence

by_chain : (parts : List Facts) (new : Facts) (term : TextTerm) (id : Option ℕ) (number : ℕ) → IsIdOrNone parts term id → IsNumberOf new term id number → IsNumberBy parts new term number
by_chain parts new term None number lacks is = inr (lacks, λ _. is)
by_chain parts new term (Some id) number has is = inl (subst (HasId parts term) (sym is) has)

found_at : (found : List Found) (i : ℕ) (term : TextTerm) → slice_get (found_terms found) i ≡ Some term → (one : Found) × (get_or found i one ≡ one) × (one.term.now ≡ term)
found_at [] i term e = let none : ⊥ = cc in absurd none
found_at (x ∷ xs) zero term e = let same : x.term.now ≡ term = cc in (x, refl, same)
found_at (x ∷ xs) (suc i) term e = found_at xs i term e

no_term : TextTerm
no_term = record { kind = Node; spelling = [] }

module _ (parts : List Facts) (new : Facts) (occurrences : List TextTerm) (terms : Occurrences) (are : AreFound parts occurrences terms) where
  stands : (i : ℕ) (d : TextTerm) → i < length occurrences → slice_get (found_terms terms.found.items) (slice_index terms.places.items i) ≡ Some (get_or occurrences i d)
  stands i d below = zip_at (λ (term : TextTerm) (place : ℕ). slice_get (found_terms terms.found.items) place ≡ Some term) occurrences terms.places.items i d 0 are.places below

  pub within : (i : ℕ) → i < length occurrences → slice_index terms.places.items i < length terms.found.items
  within i below = subst (λ n. slice_index terms.places.items i < n) (length-map terms.found.items (λ (one : Found). one.term.now)) (slice_get_within (found_terms terms.found.items) (slice_index terms.places.items i) _ (stands i no_term below))

  pub number_at : (numbers : List ℕ) → AreNumbersOf new terms.found.items numbers → (i : ℕ) (d : TextTerm) → i < length occurrences
      → IsNumberBy parts new (get_or occurrences i d) (slice_index numbers (slice_index terms.places.items i))
  number_at numbers numbered i d below =
      let place = slice_index terms.places.items i in
      let found = found_at terms.found.items place (get_or occurrences i d) (stands i d below) in
      let number = slice_index numbers place in
      let is : IsNumberOf new found.0.term.now found.0.id number =
      subst (λ (one : Found). IsNumberOf new one.term.now one.id number) found.1 (zip_at (λ (one : Found) (number : ℕ). IsNumberOf new one.term.now one.id number) terms.found.items numbers place found.0 0 numbered (within i below)) in
      let id : IsIdOrNone parts found.0.term.now found.0.id =
      subst (λ (one : Found). IsIdOrNone parts one.term.now one.id) found.1 (are.ids place found.0 (within i below)) in
      subst (λ term. IsNumberBy parts new term number) found.2 (by_chain parts new found.0.term.now found.0.id number id is)

-- ---- triples by their numbers

abbrev pub number_of : Numbered → ℕ → ℕ
number_of numbered i = slice_index numbered.numbers.items (slice_index numbered.places.items i)

abbrev pub id_of : Numbered → Numbered → ℕ → ℕ → IdTriple
id_of ends relations count i = record { s = number_of ends i; p = number_of relations i; o = number_of ends (count + i) }

abbrev Subject : TextTriple → TextTerm
Subject triple = triple.subject

abbrev Predicate_of : TextTriple → TextTerm
Predicate_of triple = triple.predicate

abbrev Object : TextTriple → TextTerm
Object triple = triple.object

-- the numbers of the terms of some occurrences
pub record AreNumbered (new : Facts) (terms : Occurrences) (numbered : Numbered) : Type 0 where
  pub numbers : AreNumbersOf new terms.found.items numbered.numbers.items
  pub places : numbered.places.items ≡ terms.places.items

module _ (parts : List Facts) (new : Facts) (occurrences : List TextTerm) (terms : Occurrences) (are : AreFound parts occurrences terms) (numbered : Numbered) (by : AreNumbered new terms numbered) where
  pub many_places : length numbered.places.items ≡ length occurrences
  many_places = ap length by.places ∙ sym (zip_length (λ (term : TextTerm) (place : ℕ). slice_get (found_terms terms.found.items) place ≡ Some term) occurrences terms.places.items are.places)

  pub place_within : (i : ℕ) → i < length occurrences → slice_index numbered.places.items i < length numbered.numbers.items
  place_within i below =
      subst (λ n. slice_index numbered.places.items i < n) (zip_length (λ (one : Found) (number : ℕ). IsNumberOf new one.term.now one.id number) terms.found.items numbered.numbers.items by.numbers)
      (subst (λ places. slice_index places i < length terms.found.items) (sym by.places) (within parts new occurrences terms are i below))

  pub numbered_at : (i : ℕ) (d : TextTerm) → i < length occurrences → IsNumberBy parts new (get_or occurrences i d) (number_of numbered i)
  numbered_at i d below =
      subst (λ places. IsNumberBy parts new (get_or occurrences i d) (slice_index numbered.numbers.items (slice_index places i))) (sym by.places)
      (number_at parts new occurrences terms are numbered.numbers.items by.numbers i d below)

module _ (parts : List Facts) (new : Facts) (triples : List TextTriple) (terms : Lookup) (are : IsLookup parts triples terms) (ends relations : Numbered)
    (by_ends : AreNumbered new terms.ends ends) (by_relations : AreNumbered new terms.relations relations) where
  abbrev Ends : List TextTerm
  Ends = map Subject triples ++ map Object triples

  many_ends : length Ends ≡ length triples + length triples
  many_ends = length-append (map Subject triples) (map Object triples) ∙ (λ i. length-map triples Subject i + length-map triples Object i)

  pub count_is : length relations.places.items ≡ length triples
  count_is = many_places parts new (map Predicate_of triples) terms.relations are.relations relations by_relations ∙ length-map triples Predicate_of

  pub ends_places : length ends.places.items ≡ length triples + length triples
  ends_places = many_places parts new Ends terms.ends are.ends ends by_ends ∙ many_ends

  pub ends_within : (i : ℕ) → i < length triples + length triples → slice_index ends.places.items i < length ends.numbers.items
  ends_within i below = place_within parts new Ends terms.ends are.ends ends by_ends i (subst (λ n. i < n) (sym many_ends) below)

  pub relations_within : (i : ℕ) → i < length triples → slice_index relations.places.items i < length relations.numbers.items
  relations_within i below =
      place_within parts new (map Predicate_of triples) terms.relations are.relations relations by_relations i (subst (λ n. i < n) (sym (length-map triples Predicate_of)) below)

  each_by : (count i : ℕ) (d : TextTriple) → count ≡ length triples → i < length triples → AreNumbersBy parts new (get_or triples i d) (id_of ends relations count i)
  each_by count i d many below = record {
    subject = subst (λ term. IsNumberBy parts new term (number_of ends i))
        (get_or_append_left (map Subject triples) (map Object triples) d.subject i (subst (λ n. i < n) (sym (length-map triples Subject)) below) ∙ get_or-map Subject triples i d d.subject below)
        (numbered_at parts new Ends terms.ends are.ends ends by_ends i d.subject (subst (λ n. i < n) (sym many_ends) (omega arith)));
    predicate = subst (λ term. IsNumberBy parts new term (number_of relations i)) (get_or-map Predicate_of triples i d d.predicate below)
        (numbered_at parts new (map Predicate_of triples) terms.relations are.relations relations by_relations i d.predicate (subst (λ n. i < n) (sym (length-map triples Predicate_of)) below));
    object = subst (λ term. IsNumberBy parts new term (number_of ends (count + i)))
        (ap (λ n. get_or Ends n d.object) (ap (λ n. n + i) (many ∙ sym (length-map triples Subject))) ∙ get_or-append-add (map Subject triples) (map Object triples) i d.object
        ∙ get_or-map Object triples i d d.object below)
        (numbered_at parts new Ends terms.ends are.ends ends by_ends (count + i) d.object (subst (λ n. count + i < n) (sym many_ends) (omega arith)));
  }

  pub ids_by : (given : List IdTriple) (count : ℕ) → count ≡ length triples → length given ≡ count → ((i : ℕ) (t : IdTriple) → i < count → get_or given i t ≡ id_of ends relations count i)
      → AllZip (AreNumbersBy parts new) triples given
  ids_by given count many made each = zip_by_index (AreNumbersBy parts new) triples given (sym many ∙ sym made) (λ i d e below.
      subst (AreNumbersBy parts new (get_or triples i d)) (sym (each i e (omega arith))) (each_by count i d many below))

-- ---- where the numbers of a triple stand

pub record IsWithin (ends relations : Numbered) (count i : ℕ) : Type 0 where
  pub subject : i < length ends.places.items
  pub subject_number : slice_index ends.places.items i < length ends.numbers.items
  pub predicate_number : slice_index relations.places.items i < length relations.numbers.items
  pub object : count + i < length ends.places.items
  pub object_number : slice_index ends.places.items (count + i) < length ends.numbers.items

pub within_all : (new : Facts) (terms : Lookup) → IsSomeLookup terms → (ends relations : Numbered) → AreNumbered new terms.ends ends → AreNumbered new terms.relations relations
    → (count i : ℕ) → count ≡ length relations.places.items → i < count → IsWithin ends relations count i
within_all new terms of ends relations by_ends by_relations count i counts below =
    let many = count_is of.0 new of.1 terms of.2 ends relations by_ends by_relations in
    let all = ends_places of.0 new of.1 terms of.2 ends relations by_ends by_relations in
    record {
      subject = omega arith;
      subject_number = ends_within of.0 new of.1 terms of.2 ends relations by_ends by_relations i (omega arith);
      predicate_number = relations_within of.0 new of.1 terms of.2 ends relations by_ends by_relations i (omega arith);
      object = omega arith;
      object_number = ends_within of.0 new of.1 terms of.2 ends relations by_ends by_relations (count + i) (omega arith);
    }
