-- What layers that are a chain hold and bear is what the history says.
use Rattle.std.proofs.Common.{◌≡◌, ◌<◌, ℕ, suc, ◌+◌, IsTrue, true≢false, cond, IfSome, IfNone, Bool, false, not, ◌&&◌, ◌||◌, List, [], ◌∷◌, ◌++◌, map, reverse, Option, Some, None, All, refl, sym, ap, ◌∙◌, subst}
use Rattle.std.specs.List.{list_any}
use Rattle.std.specs.Option.{option_map, is_some}
use Rattle.std.specs.FinMap.{empty, get, contains_key}
use Rattle.std.proofs.lemmas.List.{reverse-append, reverse-reverse, map-append, append_assoc, append-nil}
use Rattle.std.proofs.lemmas.List.Sums.{fold_push}
use Rattle.std.proofs.lemmas.List.Elements.{All-head, All-tail, All-map}
use Rattle.std.specs.List.Sorted.{IsPermutation}
use denote.Ref.{Bor}
use Rattle.std.proofs.lemmas.List.Sorted.{All-permutation, IsPermutation-reverse}
use Rattle.ts_model.specs.TextTerm.{TextTerm}
use Rattle.ts_model.specs.TextTriple.{TextTriple}
use Rattle.ts_model.specs.Birth.{has_term, mentions, first_place, birth_of}
use Rattle.ts_model.specs.Order.{triple_cmp, triple_cmp_total, triple_cmp-IsAntisymmetric}
use Rattle.ts_model.specs.Sets.{members, from_list, union, difference}
use Rattle.ts_model.specs.History.{History, chain_of, content_of, content_at, additions_at, removals_at, set_or_none, IsWellKept}
use Rattle.ts_model.proofs.HistoryLaws.{chain_from, chain_of-parent}
use Rattle.ts_model.proofs.SetLaws.{contains-from_list, same_set}
use Rattle.ts_model.proofs.SetAlgebra.{contains-empty, members-from_rising}
use Rattle.ts_plain.specs.declared.write.PlainLayer.{PlainLayer}
use Rattle.ts_plain.specs.Chain.{content_above, content_over, is_mentioned, birth_over, StandsIn, IsChain}
use Rattle.ts_plain.specs.History.{record_of}
use Rattle.ts_plain.proofs.LayerLaws.{is_among, contains-content_above}

map-reverse : {A B : Type 0} (f : A → B) (xs : List A) → map f (reverse xs) ≡ reverse (map f xs)
map-reverse f [] = refl
map-reverse f (x ∷ xs) =
    ap (map f) (reverse-append (x ∷ []) xs)
    ∙ map-append f (reverse xs) (x ∷ [])
    ∙ ap (λ l. l ++ f x ∷ []) (map-reverse f xs)
    ∙ sym (reverse-append (f x ∷ []) (map f xs))

abbrev pub number_of : Option (Bor PlainLayer) → Option ℕ
number_of None = None
number_of (Some layer) = Some layer.now.number

-- numbers fall towards the base, so that a climb ends
abbrev pub left : Option (Bor PlainLayer) → ℕ
left None = 0
left (Some layer) = layer.now.number + 1

module _ (history : History) where
  added : (layer : PlainLayer) → StandsIn history layer → additions_at history layer.number ≡ from_list layer.additions.items
  added layer stands = ap (λ o. set_or_none (option_map (λ layer. layer.additions) o)) stands.recorded

  removed : (layer : PlainLayer) → StandsIn history layer → removals_at history layer.number ≡ from_list layer.removals.items
  removed layer stands = ap (λ o. set_or_none (option_map (λ layer. layer.removals) o)) stands.recorded

  nothing_left : (gone : Bool) (here : Bool) → ((false && not gone) || here) ≡ here
  nothing_left gone here = refl

  -- a base holds its additions
  alone : (layer : PlainLayer) → content_above empty layer ≡ from_list layer.additions.items
  alone layer = same_set triple_cmp triple_cmp_total triple_cmp-IsAntisymmetric (content_above empty layer) (from_list layer.additions.items) (λ triple.
      contains-content_above empty layer triple
      ∙ ap (λ b. (b && not (is_among layer.removals.items triple)) || is_among layer.additions.items triple) (contains-empty triple_cmp triple)
      ∙ sym (contains-from_list triple_cmp triple_cmp_total layer.additions.items triple))

  above : (layer : PlainLayer) (layers : List PlainLayer) → StandsIn history layer
      → content_above (content_of history (map (λ layer. layer.number) layers)) layer ≡ content_of history (layer.number ∷ map (λ layer. layer.number) layers)
  above layer [] stands = alone layer ∙ sym (added layer stands)
  above layer (parent ∷ layers) stands =
      let below = content_of history (parent.number ∷ map (λ layer. layer.number) layers) in
      λ i. union (difference below (sym (removed layer stands) i)) (sym (added layer stands) i)

  over_reversed : (layers : List PlainLayer) → All (StandsIn history) layers → content_over (reverse layers) ≡ content_of history (map (λ layer. layer.number) layers)
  over_reversed [] stand = refl
  over_reversed (layer ∷ layers) stand =
      ap content_over (reverse-append (layer ∷ []) layers)
      ∙ fold_push content_above empty (reverse layers) layer
      ∙ ap (λ below. content_above below layer) (over_reversed layers (All-tail (StandsIn history) layer layers stand))
      ∙ above layer layers (All-head (StandsIn history) layer layers stand)

  -- a layer bears the terms that it mentions
  is_mentioned-in : (term : TextTerm) (layer : PlainLayer) → StandsIn history layer → is_mentioned term layer ≡ mentions history term layer.number
  is_mentioned-in term layer stands =
      let rising = members-from_rising triple_cmp triple_cmp_total triple_cmp-IsAntisymmetric layer.additions.items stands.rules.additions_rise in
      sym (ap (list_any (has_term term)) (ap members (added layer stands) ∙ rising))

  first_same : (term : TextTerm) (layers : List PlainLayer) → All (StandsIn history) layers
      → first_place (is_mentioned term) layers ≡ first_place (mentions history term) (map (λ layer. layer.number) layers)
  first_same term [] stand = refl
  first_same term (layer ∷ layers) stand =
      let here = is_mentioned-in term layer (All-head (StandsIn history) layer layers stand) in
      let later = first_same term layers (All-tail (StandsIn history) layer layers stand) in
      λ i. cond (here i) (Some 0) (option_map suc (later i))

  module _ (number : ℕ) (layers : List PlainLayer) (chain : IsChain history number layers) where
    pub content_over-chain : content_over layers ≡ content_at history number
    content_over-chain =
        ap content_over (sym (reverse-reverse layers))
        ∙ over_reversed (reverse layers) (All-permutation (StandsIn history) layers (reverse layers) (IsPermutation-reverse layers) chain.stand)
        ∙ ap (content_of history) (map-reverse (λ (layer : PlainLayer). layer.number) layers ∙ ap reverse chain.numbers ∙ reverse-reverse (chain_of history number))

    pub birth_over-chain : (term : TextTerm) → birth_over layers term ≡ birth_of history number term
    birth_over-chain term = first_same term layers chain.stand ∙ ap (first_place (mentions history term)) chain.numbers

  -- what a chain that was lent holds
  pub members-chain : (number : ℕ) (chain lent : List (Bor PlainLayer)) (content : List (Bor TextTriple)) → IsChain history number (map (λ layer. layer.now) chain) → lent ≡ chain
      → map (λ triple. triple.now) content ≡ members (content_over (map (λ layer. layer.now) lent)) → map (λ triple. triple.now) content ≡ members (content_at history number)
  members-chain number chain lent content is same held =
      held
      ∙ ap (λ layers. members (content_over (map (λ layer. layer.now) layers))) same
      ∙ ap members (content_over-chain number (map (λ layer. layer.now) chain) is)

  -- the parent of a layer stands
  pub IfSome-parent : IsWellKept history → (layer : PlainLayer) → StandsIn history layer → IfSome layer.parent (λ p. IsTrue (contains_key history p))
  IfSome-parent kept layer stands = there layer.parent (kept layer.number (record_of layer) stands.recorded).parent
    where
      there : (o : Option ℕ) → IfSome o (λ p. (p < layer.number) × IsTrue (contains_key history p)) → IfSome o (λ p. IsTrue (contains_key history p))
      there None h = tt
      there (Some p) h = h.1

  -- a layer that stands is found
  pub IfNone-standing : (number : Option ℕ) (k : ℕ) → IfSome number (λ k. IsTrue (contains_key history k)) → number ≡ Some k
      → (found : Option (Bor PlainLayer)) → IfNone found (get history k ≡ None) → IfNone found (number ≡ None)
  IfNone-standing number k stands is None none =
      let there : IsTrue (contains_key history k) = subst (λ o. IfSome o (λ k. IsTrue (contains_key history k))) is stands in
      absurd (true≢false (sym there ∙ ap is_some none))
  IfNone-standing number k stands is (Some found) none = tt

  pub parent_stands : (parent : Option ℕ) (o : Option (Bor PlainLayer)) → IfSome o (λ p. (parent ≡ Some p.now.number) × StandsIn history p.now) → IfSome o (λ p. StandsIn history p.now)
  parent_stands parent None h = tt
  parent_stands parent (Some p) h = h.1

  -- the parent, as it was looked up
  pub number-of_parent : (o : Option (Bor PlainLayer)) (parent : Option ℕ) → IfSome o (λ p. (parent ≡ Some p.now.number) × StandsIn history p.now) → IfNone o (parent ≡ None)
      → number_of o ≡ parent
  number-of_parent None parent some none = sym none
  number-of_parent (Some p) parent some none = sym some.0

  -- ---- the way up, one layer at a time

  module _ (kept : IsWellKept history) (number : ℕ) (items : List (Bor PlainLayer)) where
    abbrev climbed : List (Bor PlainLayer) → List ℕ
    climbed layers = map (λ layer. layer.now.number) layers

    pub climb : (layer : Bor PlainLayer) (o next : Option (Bor PlainLayer)) → o ≡ Some layer → StandsIn history layer.now
        → IfSome next (λ p. (layer.now.parent ≡ Some p.now.number) × StandsIn history p.now) → IfNone next (layer.now.parent ≡ None)
        → climbed items ++ chain_from history (number_of o) ≡ chain_of history number
        → climbed (items ++ layer ∷ []) ++ chain_from history (number_of next) ≡ chain_of history number
    climb layer o next is stands some none so_far =
        ap (λ l. l ++ chain_from history (number_of next)) (map-append (λ (layer : Bor PlainLayer). layer.now.number) items (layer ∷ []))
        ∙ append_assoc (climbed items) (layer.now.number ∷ []) (chain_from history (number_of next))
        ∙ ap (λ parent. climbed items ++ layer.now.number ∷ chain_from history parent) (number-of_parent next layer.now.parent some none)
        ∙ ap (λ l. climbed items ++ l) (sym (chain_of-parent history kept layer.now.number (record_of layer.now) stands.recorded))
        ∙ ap (λ o. climbed items ++ chain_from history (number_of o)) (sym is)
        ∙ so_far

    map_now : (layers : List (Bor PlainLayer)) → map (λ (layer : PlainLayer). layer.number) (map (λ (layer : Bor PlainLayer). layer.now) layers) ≡ climbed layers
    map_now [] = refl
    map_now (layer ∷ layers) = ap (λ l. layer.now.number ∷ l) (map_now layers)

    -- at the base, the layers that were passed are the chain
    pub IsChain-from_climb : (turned : List (Bor PlainLayer)) (o : Option (Bor PlainLayer)) → o ≡ None → turned ≡ reverse items
        → climbed items ++ chain_from history (number_of o) ≡ chain_of history number → All (λ layer. StandsIn history layer.now) items
        → IsChain history number (map (λ layer. layer.now) turned)
    IsChain-from_climb turned o none is passed stand = record {
      numbers =
          ap (λ l. map (λ (layer : PlainLayer). layer.number) (map (λ (layer : Bor PlainLayer). layer.now) l)) is
          ∙ map_now (reverse items)
          ∙ map-reverse (λ (layer : Bor PlainLayer). layer.now.number) items
          ∙ ap reverse (sym (append-nil (climbed items)) ∙ ap (λ o. climbed items ++ chain_from history (number_of o)) (sym none) ∙ passed);
      stand = All-map (StandsIn history) (λ (layer : Bor PlainLayer). layer.now) turned
          (All-permutation (λ (layer : Bor PlainLayer). StandsIn history layer.now) items turned (subst (IsPermutation items) (sym is) (IsPermutation-reverse items)) stand);
    }
