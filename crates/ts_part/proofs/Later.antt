-- In birth order at a layer the terms of an ancestor come first, in the order that they have there.
use Rattle.std.proofs.Common.{◌≡◌, ℕ, ◌+◌, ◌<◌, ◌≤◌, Bool, true, false, ◌==◌, cond, [], ◌∷◌, length, reverse, unwrap_or, Option, Some, None, refl, sym, ap, ◌∙◌, subst, true≢false, arith}
use Rattle.std.specs.Option.{is_some, option_map}
use Rattle.std.specs.declared.cmp.Ordering.TheVariants.{Less, Equal, Greater}
use Rattle.std.specs.Ordering.{is_lt, nat_cmp, ordering_then, ordering_reverse}
use Rattle.std.specs.Cmp.Lexicographic.{slice_cmp}
use Rattle.std.proofs.lemmas.Bool.{lt-ltb}
use Rattle.std.proofs.lemmas.List.{reverse-append, length-reverse}
use Rattle.std.proofs.lemmas.List.Sorted.{list_any-IsPermutation, IsPermutation-reverse}
use Rattle.ts_model.specs.TextTerm.{TextTerm}
use Rattle.ts_model.specs.Order.{kind_place}
use Rattle.ts_model.specs.Sets.{contains}
use Rattle.ts_model.specs.History.{History, IsWellKept}
use Rattle.ts_model.specs.Birth.{mentions, first_place, birth_of}
use Rattle.ts_model.specs.Listing.{key_cmp}
use Rattle.ts_model.proofs.BirthOrder.{key_cmp_total}
use Rattle.ts_model.proofs.HistoryLaws.{chain_from}
use Rattle.ts_part.specs.Numbers.{IsTermAt, numbered_with}
use Rattle.ts_part.proofs.Births.{IsOver, after, first_place-append, first_place-below, is_some-first_place}
use Rattle.ts_part.proofs.Mentioned.{is_numbered}

-- the birth of a term at a layer; at none it has none
abbrev pub birth_from : History → Option ℕ → TextTerm → Option ℕ
birth_from history from term = first_place (mentions history term) (reverse (chain_from history from))

-- the birth as a number
abbrev pub key_from : History → Option ℕ → TextTerm → ℕ
key_from history from term = unwrap_or (birth_from history from term) 0

-- how many layers a chain has
abbrev pub layers_from : History → Option ℕ → ℕ
layers_from history from = length (chain_from history from)

abbrev pub IsNotTermOf : History → Option ℕ → TextTerm → Type 0
IsNotTermOf history from term = contains (numbered_with term.kind history from) term ≡ false

pub nat_less : (a b : ℕ) → a < b → nat_cmp a b ≡ Less
nat_less a b below = ap (λ t. cond t Less (cond (a == b) Equal Greater)) (lt-ltb a b below)

-- a lesser birth comes first
pub key_cmp-born : (history : History) (k : ℕ) (x y : TextTerm) → key_from history (Some k) x < key_from history (Some k) y → key_cmp history k x y ≡ Less
key_cmp-born history k x y below =
    ap (λ r. ordering_then r (ordering_then (nat_cmp (kind_place x.kind) (kind_place y.kind)) (slice_cmp nat_cmp x.spelling y.spelling)))
    (nat_less (key_from history (Some k) x) (key_from history (Some k) y) below)

module _ (history : History) (kept : IsWellKept history) where
  -- a term of a layer has a birth there
  pub has_birth : (from : Option ℕ) (term : TextTerm) → is_some (birth_from history from term) ≡ contains (numbered_with term.kind history from) term
  has_birth from term =
      is_some-first_place (mentions history term) (reverse (chain_from history from))
      ∙ sym (list_any-IsPermutation (mentions history term) (chain_from history from) (reverse (chain_from history from)) (IsPermutation-reverse (chain_from history from)))
      ∙ sym (is_numbered history kept from term)

  module _ (from : Option ℕ) (k : ℕ) (over : IsOver history from k) where
    abbrev in_front : TextTerm → Option ℕ
    in_front term = first_place (mentions history term) (reverse over.front)

    birth_is : (term : TextTerm) → birth_of history k term ≡ after (layers_from history from) (birth_from history from term) (in_front term)
    birth_is term =
        ap (λ chain. first_place (mentions history term) (reverse chain)) over.chain
        ∙ ap (first_place (mentions history term)) (reverse-append over.front (chain_from history from))
        ∙ first_place-append (mentions history term) (reverse (chain_from history from)) (reverse over.front)
        ∙ ap (λ n. after n (birth_from history from term) (in_front term)) (length-reverse (chain_from history from))

    none_where_not : (o : Option ℕ) → is_some o ≡ false → o ≡ None
    none_where_not None e = refl
    none_where_not (Some i) e = absurd (true≢false e)

    stays : (n : ℕ) (a b : Option ℕ) → is_some a ≡ true → after n a b ≡ a
    stays n None b is = absurd (true≢false (sym is))
    stays n (Some i) b is = refl

    -- the terms of an ancestor keep their births
    pub birth_stays : (term : TextTerm) → IsTermAt history from term → birth_of history k term ≡ birth_from history from term
    birth_stays term old = birth_is term ∙ stays (layers_from history from) (birth_from history from term) (in_front term) (has_birth from term ∙ old)

    -- which are less than the number of its layers
    pub born_before : (term : TextTerm) → IsTermAt history from term → key_from history (Some k) term < layers_from history from
    born_before term old = subst (λ o. unwrap_or o 0 < layers_from history from) (sym (birth_stays term old)) (small (birth_from history from term) refl (has_birth from term ∙ old))
      where
        small : (o : Option ℕ) → birth_from history from term ≡ o → is_some o ≡ true → unwrap_or o 0 < layers_from history from
        small None e is = absurd (true≢false (sym is))
        small (Some i) e is =
            let below : i < length (reverse (chain_from history from)) = first_place-below (mentions history term) (reverse (chain_from history from)) i e in
            let long : length (reverse (chain_from history from)) ≡ layers_from history from = length-reverse (chain_from history from) in
            omega arith

    new_birth : (term : TextTerm) → IsNotTermOf history from term → birth_of history k term ≡ option_map (λ j. layers_from history from + j) (in_front term)
    new_birth term new = birth_is term ∙ ap (λ o. after (layers_from history from) o (in_front term)) (none_where_not (birth_from history from term) (has_birth from term ∙ new))

    -- the births of other terms are not
    pub born_after : (term : TextTerm) → IsTermAt history (Some k) term → IsNotTermOf history from term → layers_from history from ≤ key_from history (Some k) term
    born_after term there new =
        subst (λ o. layers_from history from ≤ unwrap_or o 0) (sym (new_birth term new)) (large (in_front term) (ap is_some (sym (new_birth term new)) ∙ has_birth (Some k) term ∙ there))
      where
        large : (o : Option ℕ) → is_some (option_map (λ j. layers_from history from + j) o) ≡ true → layers_from history from ≤ unwrap_or (option_map (λ j. layers_from history from + j) o) 0
        large None is = absurd (true≢false (sym is))
        large (Some j) is = omega arith

    -- and one layer above it they are all that number
    pub born_next : (top : ℕ) → over.front ≡ top ∷ [] → (term : TextTerm) → IsTermAt history (Some k) term → IsNotTermOf history from term
        → key_from history (Some k) term ≡ layers_from history from
    born_next top one term there new =
        ap (λ o. unwrap_or o 0) is ∙ next (mentions history term top) (ap is_some (sym is) ∙ has_birth (Some k) term ∙ there)
      where
        is : birth_of history k term ≡ option_map (λ j. layers_from history from + j) (cond (mentions history term top) (Some 0) None)
        is = new_birth term new ∙ ap (λ front. option_map (λ j. layers_from history from + j) (first_place (mentions history term) (reverse front))) one

        next : (b : Bool) → is_some (option_map (λ j. layers_from history from + j) (cond b (Some 0) None)) ≡ true
            → unwrap_or (option_map (λ j. layers_from history from + j) (cond b (Some 0) None)) 0 ≡ layers_from history from
        next true some = omega arith
        next false some = absurd (true≢false (sym some))

    -- so a term of the ancestor comes before every other
    pub old_first : (old new : TextTerm) → IsTermAt history from old → IsTermAt history (Some k) new → IsNotTermOf history from new → key_cmp history k old new ≡ Less
    old_first old new was there is_new =
        let below : key_from history (Some k) old < layers_from history from = born_before old was in
        let above : layers_from history from ≤ key_from history (Some k) new = born_after new there is_new in
        key_cmp-born history k old new (omega arith)

    pub new_not_first : (old new : TextTerm) → IsTermAt history from old → IsTermAt history (Some k) new → IsNotTermOf history from new → is_lt (key_cmp history k new old) ≡ false
    new_not_first old new was there is_new =
        ap is_lt ((key_cmp_total history k).antisymm new old ∙ ap ordering_reverse (old_first old new was there is_new))

  -- and the terms of an ancestor stand as they do there
  pub old_order : (a k : ℕ) → IsOver history (Some a) k → (x y : TextTerm) → IsTermAt history (Some a) x → IsTermAt history (Some a) y → key_cmp history k x y ≡ key_cmp history a x y
  old_order a k over x y first second = λ i.
      ordering_then (nat_cmp (unwrap_or (birth_stays (Some a) k over x first i) 0) (unwrap_or (birth_stays (Some a) k over y second i) 0))
      (ordering_then (nat_cmp (kind_place x.kind) (kind_place y.kind)) (slice_cmp nat_cmp x.spelling y.spelling))
