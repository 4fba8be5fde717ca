-- A rollup has as many nodes, values and predicates as are new in the parts that it stands for.
use Rattle.std.proofs.Common.{◌≡◌, ◌≢◌, ℕ, ◌+◌, ◌-◌, ◌<◌, ◌≤◌, inl, inr, List, [], ◌∷◌, ◌++◌, All, Contains, IfSome, None, Some, get_or, length, map, slice_get, sum, refl, sym, ap, ◌∙◌, subst, arith, length-append}
use Rattle.std.specs.Bool.{⊤}
use Rattle.std.proofs.lemmas.Bool.{cases_lt}
use Rattle.std.proofs.lemmas.List.Elements.{All-contains, Contains-append_cases, Contains-append_left}
use Rattle.std.proofs.lemmas.List.Sums.{sum_by-cons}
use Rattle.std.proofs.lemmas.Option.{get_or_from_slice_get, slice_get-get_or, slice_get_within}
use Rattle.ts_model.specs.declared.term.TermKind.{TermKind}
use Rattle.ts_model.specs.declared.term.TermKind.TheVariants.{Node, Value}
use Rattle.ts_model.specs.TextTerm.{TextTerm}
use Rattle.ts_part.specs.Facts.{Facts, HasTerm, all_terms, entries_of, outer_number}
use Rattle.ts_part.specs.Part.{HasKinds}
use Rattle.ts_part.specs.Rules.{KeepsRules}
use Rattle.ts_part.proofs.EntryLemmas.{first_entry, kind_of, map_rule, node_entry, one_entry, second_entry, term_within, value_entry}
use Rattle.ts_chain.specs.Chain.{AreLinked, IsChain, terms_in}
use Rattle.ts_chain.specs.Views.{NamesTerm}
use Rattle.ts_chain.proofs.Elements.{contains_first, contains_head, contains_rest}
use Rattle.ts_chain.proofs.Naming.{term_id}
use Rattle.ts_chain.proofs.OneName.{one_term}
use Rattle.ts_rollup.specs.Rolled.{AreNumbered}
use Rattle.ts_rollup.proofs.NumberedTerms.{get_of, got}
use Rattle.ts_rollup.proofs.OnceEach.{IsValueFrom, OnceEach, among_values, length-values_from, no_longer, once_append, once_values, value_from, values_from}

-- ---- numbers fall from part to part

abbrev Fall : List Facts → Type 0
Fall [] = ⊤
Fall (part ∷ parts) = ((other : Facts) → Contains parts other → all_terms other ≤ part.terms_before) × Fall parts

up_to : (parts : List Facts) → AreLinked parts → (other : Facts) → Contains parts other → all_terms other ≤ terms_in parts
up_to [] linked other among = absurd linked
up_to (newest ∷ []) linked other among = elim (contains_first newest [] other among) as (λ _. all_terms other ≤ terms_in (newest ∷ [])) [
  | inl is ↦ omega (arith, ap all_terms is)
  | inr later ↦ absurd (omega (arith, later.1))
]
up_to (newest ∷ next ∷ parts) linked other among = elim (contains_first newest (next ∷ parts) other among) as (λ _. all_terms other ≤ terms_in (newest ∷ next ∷ parts)) [
  | inl is ↦ omega (arith, ap all_terms is)
  | inr later ↦ omega (arith, up_to (next ∷ parts) linked.1 other later, linked.0.terms)
]

fall : (parts : List Facts) → AreLinked parts → Fall parts
fall [] linked = tt
fall (part ∷ []) linked = (λ other among. absurd (omega (arith, among.1)), tt)
fall (part ∷ next ∷ parts) linked = (λ other among. omega (arith, up_to (next ∷ parts) linked.1 other among, linked.0.terms), fall (next ∷ parts) linked.1)

fall_front : (newer below : List Facts) → Fall (newer ++ below) → Fall newer
fall_front [] below falls = tt
fall_front (part ∷ newer) below falls = (λ other among. falls.0 other (Contains-append_left newer below other among), fall_front newer below falls.1)

behind : (next : Facts) (rest front : List Facts) → Contains (front ++ next ∷ rest) next
behind next rest [] = contains_head next rest
behind next rest (part ∷ front) = contains_rest part (front ++ next ∷ rest) next (behind next rest front)

begins : (part : Facts) (newer below : List Facts) → Fall (part ∷ newer ++ below) → terms_in below ≤ part.terms_before
begins part newer [] falls = omega arith
begins part newer (next ∷ rest) falls = falls.0 next (behind next rest newer)

-- newer parts have their numbers above those of the parts below
above_all : (newer below : List Facts) → Fall (newer ++ below) → (part : Facts) → Contains newer part → terms_in below ≤ part.terms_before
above_all [] below falls part among = absurd (omega (arith, among.1))
above_all (newest ∷ newer) below falls part among = elim (contains_first newest newer part among) as (λ _. terms_in below ≤ part.terms_before) [
  | inl is ↦ omega (arith, begins newest newer below falls, ap (λ (facts : Facts). facts.terms_before) is)
  | inr later ↦ above_all newer below falls.1 part later
]

-- ---- numbers of some entries of each part

no_term : TextTerm
no_term = record { kind = Node; spelling = [] }

abbrev number_at : Facts → ℕ → ℕ
number_at part entry = part.terms_before + 1 + outer_number part.kind part.term_map entry

abbrev entries_in : Facts → ℕ
entries_in part = length part.nodes + length part.values

module _ (first count : Facts → ℕ) (fit : (part : Facts) → first part + count part ≤ entries_in part) where
  abbrev own : Facts → List ℕ
  own part = values_from (number_at part) (first part) (count part)

  abbrev all_own : List Facts → List ℕ
  all_own [] = []
  all_own (part ∷ parts) = own part ++ all_own parts

  length-all : (parts : List Facts) → length (all_own parts) ≡ sum (map count parts)
  length-all [] = refl
  length-all (part ∷ parts) =
      let front = length-append (own part) (all_own parts) in
      let here = length-values_from (number_at part) (first part) (count part) in
      let rest = length-all parts in
      let more = sum_by-cons (λ n. n) (count part) (map count parts) in
      omega (arith, front, here, rest, more)

  pub record IsOwn (parts : List Facts) (id : ℕ) : Type 0 where
    pub part : Facts
    pub among : Contains parts part
    pub entry : ℕ
    pub least : first part ≤ entry
    pub most : entry < first part + count part
    pub term : TextTerm
    pub stands : slice_get (entries_of part) entry ≡ Some term
    pub has : HasTerm part id term

  of_part : (parts : List Facts) (part : Facts) (id : ℕ) → Contains parts part → Contains (own part) id → IsOwn parts id
  of_part parts part id among there =
      let found = value_from (number_at part) (first part) (count part) id there in
      let at = got (entries_of part) found.at (omega (arith, found.most, fit part, length-append part.nodes part.values)) in
      record {
        part = part;
        among = among;
        entry = found.at;
        least = found.least;
        most = found.most;
        term = at.0;
        stands = at.1;
        has = record { entry = found.at; stands = at.1; numbered = found.is };
      }

  own_in : (parts : List Facts) (id : ℕ) → Contains (all_own parts) id → IsOwn parts id
  own_in [] id there = absurd (omega (arith, there.1))
  own_in (part ∷ parts) id there = elim (Contains-append_cases (own part) (all_own parts) id there) as (λ _. IsOwn (part ∷ parts) id) [
    | inl here ↦ of_part (part ∷ parts) part id (contains_head part parts) here
    | inr later ↦ (let found = own_in parts id later in
        record {
          part = found.part;
          among = contains_rest part parts found.part found.among;
          entry = found.entry;
          least = found.least;
          most = found.most;
          term = found.term;
          stands = found.stands;
          has = found.has;
        })
  ]

  once_own : (part : Facts) → KeepsRules part → OnceEach (own part)
  once_own part rules =
      once_values (number_at part) (first part) (count part) (entries_in part) (fit part) (λ a b low high same.
      one_entry part.kind part.term_map (entries_in part) a b (map_rule part rules.lists.maps) low high (omega (arith, same)))

  once_all : (parts : List Facts) → ((part : Facts) → Contains parts part → KeepsRules part) → Fall parts → OnceEach (all_own parts)
  once_all [] rules falls = tt
  once_all (part ∷ parts) rules falls =
      once_append (own part) (all_own parts) (once_own part (rules part (contains_head part parts)))
      (once_all parts (λ other among. rules other (contains_rest part parts other among)) falls.1) (λ x y in_own in_all same.
      let here = value_from (number_at part) (first part) (count part) x in_own in
      let there = own_in parts y in_all in
      let below = term_within there.part y there.term (rules there.part (contains_rest part parts there.part there.among)).lists.maps there.has in
      omega (arith, here.is, below.within, falls.0 there.part there.among, same))

  -- each of these numbers is that of an entry of the rollup, from one on
  module _ (upper newer below : List Facts) (chain : IsChain upper) (parts : upper ≡ newer ++ below) (terms : List TextTerm) (places : List ℕ)
      (numbered : AreNumbered (NamesTerm upper) (terms_in below) (terms_in upper) terms places) (from many : ℕ)
      (at : (i : ℕ) (term : TextTerm) → slice_get terms i ≡ Some term → (found : (id : ℕ) × IsOwn newer id) → found.1.term ≡ term → (from ≤ i) × (i < from + many)) where
    falls : Fall (newer ++ below)
    falls = subst Fall parts (fall upper chain.linked)

    in_upper : (part : Facts) → Contains newer part → Contains upper part
    in_upper part among = subst (λ l. Contains l part) (sym parts) (Contains-append_left newer below part among)

    rules_in : (part : Facts) → Contains newer part → KeepsRules part
    rules_in part among = All-contains KeepsRules upper part chain.rules (in_upper part among)

    abbrev theirs : List ℕ
    theirs = values_from (λ i. terms_in below + 1 + get_or places i 0) from many

    is_theirs : (id : ℕ) → Contains (all_own newer) id → Contains theirs id
    is_theirs id there =
        let own = own_in newer id there in
        let range = term_within own.part id own.term (rules_in own.part own.among).lists.maps own.has in
        let above : terms_in below < id = omega (arith, range.above, above_all newer below falls own.part own.among) in
        let within = (term_id upper chain own.part id own.term (in_upper own.part own.among) own.has).within in
        let place = id - terms_in below - 1 in
        let spot = get_of places place (numbered.each place (omega (arith, above, within, numbered.as_many))) in
        let low : spot.0 < length terms = omega (arith, slice_get_within places spot.0 place spot.1, numbered.placed) in
        let bears = got terms spot.0 low in
        let named : NamesTerm upper (terms_in below + 1 + place) bears.0 = numbered.named spot.0 place bears.0 spot.1 bears.1 in
        let number : terms_in below + 1 + place ≡ id = omega (arith, above) in
        let same : own.term ≡ bears.0 =
        one_term upper chain id own.term bears.0 (record { part = own.part; among = in_upper own.part own.among; has = own.has }) (subst (λ n. NamesTerm upper n bears.0) number named) in
        let where_at = at spot.0 bears.0 bears.1 (id, own) same in
        let is : get_or places spot.0 0 ≡ place = get_or_from_slice_get places spot.0 place 0 spot.1 in
        subst (λ n. Contains theirs n) (ap (λ n. terms_in below + 1 + n) is ∙ number)
        (among_values (λ i. terms_in below + 1 + get_or places i 0) from many spot.0 where_at.0 where_at.1)

    pub no_more : sum (map count newer) ≤ many
    no_more =
        let most = no_longer (all_own newer) theirs (once_all newer rules_in (fall_front newer below falls)) is_theirs in
        omega (arith, most, length-all newer, length-values_from (λ i. terms_in below + 1 + get_or places i 0) from many)
