-- Terms that bear the numbers between two totals are the new ones of a layer.
use Rattle.std.proofs.Common.{◌≡◌, ℕ, zero, suc, ◌+◌, ◌-◌, ◌<◌, true, List, [], ◌∷◌, map, length, Contains, Option, Some, refl, sym, ap, ◌∙◌, arith}
use Rattle.std.specs.Prelude.{slice_get}
use Rattle.std.proofs.lemmas.Option.{slice_get-get_or, slice_get_within}
use Rattle.ts_model.specs.declared.term.TermKind.{TermKind}
use Rattle.ts_model.specs.TextTerm.{TextTerm}
use Rattle.ts_model.specs.Order.{term_cmp, term_cmp_total}
use Rattle.ts_model.specs.Sets.{contains, size}
use Rattle.ts_model.specs.History.{History, IsWellKept}
use Rattle.ts_part.specs.Numbers.{IsTermAt, numbered_with, number_of}
use Rattle.ts_part.specs.Step.{IsNewTerm, number_after}
use Rattle.ts_part.proofs.Births.{IsOver}
use Rattle.ts_part.proofs.NewNumbers.{beyond_is_new, new_beyond}
use Rattle.ts_part.proofs.NewTerms.{is_in}
use Rattle.ts_part.proofs.Places.{number-once, number-within}
use Rattle.ts_part.proofs.Ranks.{among_at}
use Rattle.ts_rollup.specs.Rolled.{AreNumbered}

-- there is an element at each place within
pub got : {X : Type 0} (xs : List X) (i : ℕ) → i < length xs → (x : X) × (slice_get xs i ≡ Some x)
got [] i below = absurd (omega arith)
got (y ∷ ys) zero below = (y, refl)
got (y ∷ ys) (suc i) below = got ys i (omega arith)

pub get_of : {X : Type 0} (xs : List X) (x : X) → Contains xs x → (i : ℕ) × (slice_get xs i ≡ Some x)
get_of xs x h = (h.0, slice_get-get_or xs h.0 x h.1 ∙ ap (λ y. Some y) h.2)

-- a list that is a function of another, place by place, is its map
pub mapped_by : {X Y : Type 0} (f : X → Y) (ys : List Y) (xs : List X) → length ys ≡ length xs
    → ((i : ℕ) (y : Y) (x : X) → slice_get ys i ≡ Some y → slice_get xs i ≡ Some x → y ≡ f x) → ys ≡ map f xs
mapped_by f [] [] long each = refl
mapped_by f [] (x ∷ xs) long each = absurd (omega arith)
mapped_by f (y ∷ ys) [] long each = absurd (omega arith)
mapped_by f (y ∷ ys) (x ∷ xs) long each =
    λ i. each 0 y x refl refl i ∷ mapped_by f ys xs (omega arith) (λ j z w a b. each (suc j) z w a b) i

module _ (history : History) (kept : IsWellKept history) (from : Option ℕ) (k : ℕ) (over : IsOver history from k)
    (kind : TermKind) (Names : ℕ → TextTerm → Type 0) where
  -- the term of a number is one of the layer's, numbered with the terms of the kind
  pub record IsNamed (id : ℕ) (term : TextTerm) : Type 0 where
    pub there : IsTermAt history (Some k) term
    pub number : number_of history k term ≡ id
    pub together : (layer : Option ℕ) → numbered_with term.kind history layer ≡ numbered_with kind history layer

  module _ (low high : ℕ) (terms : List TextTerm) (places : List ℕ) (numbered : AreNumbered Names low high terms places)
      (named : (id : ℕ) (term : TextTerm) → Names id term → IsNamed id term)
      (low_is : low ≡ size (numbered_with kind history from)) (high_is : high ≡ size (numbered_with kind history (Some k))) where
    abbrev low_of : TextTerm → Type 0
    low_of term = low ≡ size (numbered_with term.kind history from)

    is_named : (i place : ℕ) (term : TextTerm) → slice_get places i ≡ Some place → slice_get terms i ≡ Some term → IsNamed (low + 1 + place) term
    is_named i place term at here = named (low + 1 + place) term (numbered.named i place term at here)

    low_with : (id : ℕ) (term : TextTerm) → IsNamed id term → low ≡ size (numbered_with term.kind history from)
    low_with id term is = low_is ∙ ap size (sym (is.together from))

    place_at : (i : ℕ) (term : TextTerm) → slice_get terms i ≡ Some term → (place : ℕ) × (slice_get places i ≡ Some place)
    place_at i term here = let below : i < length terms = slice_get_within terms i term here in let long = numbered.placed in got places i (omega arith)

    -- each entry is a new term
    pub entry_new : (i : ℕ) (term : TextTerm) → slice_get terms i ≡ Some term → IsNewTerm history from k term
    entry_new i term here =
        let place = place_at i term here in
        let is = is_named i place.0 term place.1 here in
        let number_is = is.number in
        let low_too = low_with (low + 1 + place.0) term is in
        beyond_is_new history kept from k over term is.there (omega arith)

    -- its place is its number after the lower total
    pub entry_place : (i place : ℕ) (term : TextTerm) → slice_get places i ≡ Some place → slice_get terms i ≡ Some term → place ≡ number_after low history k term
    entry_place i place term at here = let is = (is_named i place term at here).number in omega arith

    pub places_are : places ≡ map (number_after low history k) terms
    places_are = mapped_by (number_after low history k) places terms numbered.placed entry_place

    -- and each new term is an entry
    pub new_entry : (term : TextTerm) → ((layer : Option ℕ) → numbered_with term.kind history layer ≡ numbered_with kind history layer) → IsNewTerm history from k term → is_in terms term ≡ true
    new_entry term together new =
        let beyond = new_beyond history kept from k over term new in
        let within = (number-within history kept k term.kind term new.there).1 in
        let low_too : low ≡ size (numbered_with term.kind history from) = low_is ∙ ap size (sym (together from)) in
        let high_too : high ≡ size (numbered_with term.kind history (Some k)) = high_is ∙ ap size (sym (together (Some k))) in
        let many = numbered.as_many in
        let place : ℕ = number_of history k term - low - 1 in
        let there = get_of places place (numbered.each place (omega arith)) in
        let below : there.0 < length places = slice_get_within places there.0 place there.1 in
        let long = numbered.placed in
        let other = got terms there.0 (omega arith) in
        let is = is_named there.0 place other.0 there.1 other.1 in
        let number_is = is.number in
        let of_kind : (t : TextTerm) → ((layer : Option ℕ) → numbered_with t.kind history layer ≡ numbered_with kind history layer) → IsTermAt history (Some k) t → contains (numbered_with kind history (Some k)) t ≡ true =
        λ t with_kind at_k. ap (λ set. contains set t) (sym (with_kind (Some k))) ∙ at_k in
        let same : other.0 ≡ term =
        number-once history kept k kind other.0 term (of_kind other.0 is.together is.there) (of_kind term together new.there) (omega arith) in
        among_at term_cmp term_cmp_total terms there.0 term (other.1 ∙ ap (λ t. Some t) same)
