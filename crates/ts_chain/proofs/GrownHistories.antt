-- A history with one layer more, under a number that no layer has.
use Rattle.std.proofs.Common.{◌≡◌, ℕ, zero, suc, ◌<◌, ◌≤◌, true, false, cond, List, [], ◌∷◌, ◌++◌, flat_map, length, reverse, Option, Some, None, IfSome, IsTrue, true≢false, refl, sym, ap, ◌∙◌, subst, arith}
use Rattle.std.specs.Option.{is_some, option_map, option_and_then, unwrap_or}
use Rattle.std.specs.Ordering.{nat_cmp, eq_by_cmp, is_eq, is_lt, on, then_cmp}
use Rattle.std.specs.Cmp.{nat_cmp_total, tied_itself, Equal-is}
use Rattle.std.specs.Cmp.Lexicographic.{slice_cmp}
use Rattle.std.specs.List.{AllByRecursion, count_by, list_any}
use Rattle.std.specs.FinMap.{empty, get, insert, contains_key, get-insert, nat_cmp-IsAntisymmetric}
use Rattle.std.proofs.lemmas.List.{reverse-append}
use Rattle.ts_model.specs.declared.term.TermKind.{TermKind}
use Rattle.ts_model.specs.declared.term.TermKind.TheVariants.{Node, Predicate, Value}
use Rattle.ts_model.specs.TextTerm.{TextTerm}
use Rattle.ts_model.specs.TextTriple.{TextTriple, IsTriple}
use Rattle.ts_model.specs.Order.{kind_place}
use Rattle.ts_model.specs.Sets.{contains, members, union, difference}
use Rattle.ts_model.specs.Birth.{first_place, has_term, mentions, birth_of}
use Rattle.ts_model.specs.Limits.{number_limit}
use Rattle.ts_model.specs.Listing.{key_cmp}
use Rattle.ts_model.specs.Totals.{terms_of, predicates_of}
use Rattle.ts_model.specs.History.{LayerRecord, History, IsWellKept, IsLayerKept, parent_at, additions_at, removals_at, set_or_none, chain_within, chain_of, content_at, content_of, content_at_parent, content_below}
use Rattle.ts_model.specs.ChainTotals.{added_along}
use Rattle.ts_model.proofs.HistoryLaws.{chain_from, chain_within-none, Found, found, same_within}
use Rattle.ts_part.specs.Numbers.{number_of, numbered_with, totals_at}
use Rattle.ts_part.proofs.Births.{first_place-append, after}

abbrev StandsAt : History → ℕ → Type 0
StandsAt history k = IsTrue (contains_key history k)

abbrev pub ParentStands : History → Option ℕ → Type 0
ParentStands history parent = IfSome parent (StandsAt history)

-- what the layers of a chain add, the newest first
abbrev pub added_from : History → Option ℕ → List TextTriple
added_from history o = flat_map (λ j. members (additions_at history j)) (chain_from history o)

module _ (history : History) (kept : IsWellKept history) where
  -- the parent of a layer that stands does too
  pub parent_of_standing : (k : ℕ) → StandsAt history k → ParentStands history (parent_at history k)
  parent_of_standing k h =
      let it : Found history k = found history k h in
      subst (ParentStands history) (sym (ap (option_and_then (λ (layer : LayerRecord). layer.parent)) it.1)) (stands_too it.0.parent (kept k it.0 it.1).parent)
    where
      stands_too : (o : Option ℕ) → IfSome o (λ p. (p < k) × StandsAt history p) → ParentStands history o
      stands_too None h = tt
      stands_too (Some p) h = h.1

  -- the layers of a chain stand
  pub chain_stands : (most : ℕ) (o : Option ℕ) → ParentStands history o → AllByRecursion (StandsAt history) (chain_within most history o)
  chain_stands zero None h = tt
  chain_stands (suc most) None h = tt
  chain_stands zero (Some k) h = tt
  chain_stands (suc most) (Some k) h = (h, chain_stands most (parent_at history k) (parent_of_standing k h))

  -- enough of a parent's chain is all of it
  whole_chain : (n : ℕ) (o : Option ℕ) → ParentStands history o → IfSome o (λ p. p ≤ n) → chain_within n history o ≡ chain_from history o
  whole_chain n None stands small = chain_within-none n history
  whole_chain n (Some p) stands small = same_within history kept n p p small (omega arith) (found history p stands)

  pub content_along : (o : Option ℕ) → content_of history (chain_from history o) ≡ content_at_parent history o
  content_along None = refl
  content_along (Some p) = refl

  module _ (n : ℕ) (fresh : contains_key history n ≡ false) (layer : LayerRecord) where
    abbrev pub grown : History
    grown = insert history n layer

    other : (k : ℕ) → StandsAt history k → eq_by_cmp nat_cmp k n ≡ false
    other k stands =
        elim (eq_by_cmp nat_cmp k n) as (λ b. eq_by_cmp nat_cmp k n ≡ b → b ≡ false) [
          | true ↦ λ e.
              let same : k ≡ n = nat_cmp-IsAntisymmetric k n ((Equal-is (nat_cmp k n)).0 e) in
              absurd (true≢false (sym stands ∙ ap (contains_key history) same ∙ fresh))
          | false ↦ λ e. refl
        ] refl

    -- the new layer is found, and the others are as they were
    pub get-new : get grown n ≡ Some layer
    get-new = get-insert nat_cmp_total history n layer n ∙ ap (λ r. cond (is_eq r) (Some layer) (get history n)) (tied_itself nat_cmp_total n)

    pub get-old : (k : ℕ) → StandsAt history k → get grown k ≡ get history k
    get-old k stands = get-insert nat_cmp_total history n layer k ∙ ap (λ b. cond b (Some layer) (get history k)) (other k stands)

    pub stands_still : (k : ℕ) → StandsAt history k → StandsAt grown k
    stands_still k stands = ap is_some (get-old k stands) ∙ stands

    -- the chains that stood are as they were
    same_chain : (most : ℕ) (o : Option ℕ) → ParentStands history o → chain_within most grown o ≡ chain_within most history o
    same_chain zero None h = refl
    same_chain (suc most) None h = refl
    same_chain zero (Some k) h = refl
    same_chain (suc most) (Some k) h =
        ap (λ c. k ∷ c) (
        ap (λ o. chain_within most grown (option_and_then (λ (layer : LayerRecord). layer.parent) o)) (get-old k h)
        ∙ same_chain most (parent_at history k) (parent_of_standing k h)
        )

    pub same_chain_of : (k : ℕ) → StandsAt history k → chain_of grown k ≡ chain_of history k
    same_chain_of k stands = same_chain k (Some k) stands

    same_additions : (k : ℕ) → StandsAt history k → additions_at grown k ≡ additions_at history k
    same_additions k stands = ap (λ o. set_or_none (option_map (λ (layer : LayerRecord). layer.additions) o)) (get-old k stands)

    same_removals : (k : ℕ) → StandsAt history k → removals_at grown k ≡ removals_at history k
    same_removals k stands = ap (λ o. set_or_none (option_map (λ (layer : LayerRecord). layer.removals) o)) (get-old k stands)

    same_content : (chain : List ℕ) → AllByRecursion (StandsAt history) chain → content_of grown chain ≡ content_of history chain
    same_content [] h = refl
    same_content (k ∷ []) h = same_additions k h.0
    same_content (k ∷ below ∷ chain) h = λ i. union (difference (same_content (below ∷ chain) h.1 i) (same_removals k h.0 i)) (same_additions k h.0 i)

    pub same_content_at : (k : ℕ) → StandsAt history k → content_at grown k ≡ content_at history k
    same_content_at k stands = ap (content_of grown) (same_chain_of k stands) ∙ same_content (chain_of history k) (chain_stands k (Some k) stands)

    pub same_content_at_parent : (o : Option ℕ) → ParentStands history o → content_at_parent grown o ≡ content_at_parent history o
    same_content_at_parent None h = refl
    same_content_at_parent (Some k) h = same_content_at k h

    same_added : (chain : List ℕ) → AllByRecursion (StandsAt history) chain → flat_map (λ j. members (additions_at grown j)) chain ≡ flat_map (λ j. members (additions_at history j)) chain
    same_added [] h = refl
    same_added (k ∷ chain) h = λ i. members (same_additions k h.0 i) ++ same_added chain h.1 i

    same_added_along : (k : ℕ) → StandsAt history k → added_along grown k ≡ added_along history k
    same_added_along k stands = ap (flat_map (λ j. members (additions_at grown j))) (same_chain_of k stands) ∙ same_added (chain_of history k) (chain_stands k (Some k) stands)

    -- so are the terms of a layer that stood, their births and their numbers
    pub same_terms : (kind : TermKind) (o : Option ℕ) → ParentStands history o → numbered_with kind grown o ≡ numbered_with kind history o
    same_terms Node None h = refl
    same_terms Predicate None h = refl
    same_terms Value None h = refl
    same_terms Node (Some k) h = ap terms_of (same_added_along k h)
    same_terms Predicate (Some k) h = ap predicates_of (same_added_along k h)
    same_terms Value (Some k) h = ap terms_of (same_added_along k h)

    pub same_totals : (o : Option ℕ) → ParentStands history o → totals_at grown o ≡ totals_at history o
    same_totals None h = refl
    same_totals (Some k) h = λ i. (length (members (same_terms Node (Some k) h i)), length (members (same_terms Predicate (Some k) h i)))

    same_mentions : (term : TextTerm) (k : ℕ) → StandsAt history k → mentions grown term k ≡ mentions history term k
    same_mentions term k stands = ap (λ set. list_any (has_term term) (members set)) (same_additions k stands)

    same_places : (term : TextTerm) (chain : List ℕ) → AllByRecursion (StandsAt history) chain
        → first_place (mentions grown term) (reverse chain) ≡ first_place (mentions history term) (reverse chain)
    same_places term [] h = refl
    same_places term (k ∷ chain) h =
        ap (first_place (mentions grown term)) (reverse-append (k ∷ []) chain)
        ∙ first_place-append (mentions grown term) (reverse chain) (k ∷ [])
        ∙ (λ i. after (length (reverse chain)) (same_places term chain h.1 i) (cond (same_mentions term k h.0 i) (Some 0) None))
        ∙ sym (ap (first_place (mentions history term)) (reverse-append (k ∷ []) chain) ∙ first_place-append (mentions history term) (reverse chain) (k ∷ []))

    pub same_births : (k : ℕ) (term : TextTerm) → StandsAt history k → birth_of grown k term ≡ birth_of history k term
    same_births k term stands =
        ap (λ chain. first_place (mentions grown term) (reverse chain)) (same_chain_of k stands)
        ∙ same_places term (chain_of history k) (chain_stands k (Some k) stands)

    pub same_keys : (k : ℕ) → StandsAt history k → key_cmp grown k ≡ key_cmp history k
    same_keys k stands = λ i.
        then_cmp (on (λ term. unwrap_or (same_births k term stands i) 0) nat_cmp)
        (then_cmp (on (λ term. kind_place term.kind) nat_cmp) (on (λ term. term.spelling) (slice_cmp nat_cmp)))

    pub same_numbers : (k : ℕ) (term : TextTerm) → StandsAt history k → number_of grown k term ≡ number_of history k term
    unfolding number_of
    same_numbers k term stands = λ i.
        suc (count_by (λ other. is_lt (same_keys k stands i other term)) (members (same_terms term.kind (Some k) stands i)))

    -- what is below a layer that stood already
    same_below : (k : ℕ) → StandsAt history k → content_below grown k ≡ content_below history k
    same_below k stands =
        let parent = parent_of_standing k stands in
        ap (λ o. content_of grown (chain_within k grown (option_and_then (λ (layer : LayerRecord). layer.parent) o))) (get-old k stands)
        ∙ ap (content_of grown) (same_chain k (parent_at history k) parent)
        ∙ same_content (chain_within k history (parent_at history k)) (chain_stands k (parent_at history k) parent)

    module _ (positive : 1 ≤ n) (above : IfSome layer.parent (λ p. p < n)) (stands : ParentStands history layer.parent) where
      chain_below : (m : ℕ) → n ≤ suc m → chain_within m grown layer.parent ≡ chain_from history layer.parent
      chain_below m most = same_chain m layer.parent stands ∙ whole_chain m layer.parent stands (small layer.parent above)
        where
          small : (o : Option ℕ) → IfSome o (λ p. p < n) → IfSome o (λ p. p ≤ m)
          small None h = tt
          small (Some p) h = omega arith

      all_stand : AllByRecursion (StandsAt history) (chain_from history layer.parent)
      all_stand = from layer.parent stands
        where
          from : (o : Option ℕ) → ParentStands history o → AllByRecursion (StandsAt history) (chain_from history o)
          from None h = tt
          from (Some p) h = chain_stands p (Some p) h

      -- what is below the new layer
      pub below_new : content_below grown n ≡ content_at_parent history layer.parent
      below_new =
          ap (λ o. content_of grown (chain_within n grown (option_and_then (λ (layer : LayerRecord). layer.parent) o))) get-new
          ∙ ap (content_of grown) (chain_below n (omega arith))
          ∙ same_content (chain_from history layer.parent) all_stand
          ∙ content_along layer.parent

      -- what the layers of the new layer's chain add
      pub added_along-new : added_along grown n ≡ members layer.additions ++ added_from history layer.parent
      added_along-new = from n refl
        where
          from : (k : ℕ) → k ≡ n → flat_map (λ j. members (additions_at grown j)) (chain_within k grown (Some n))
              ≡ members layer.additions ++ added_from history layer.parent
          from zero e = absurd (omega arith)
          from (suc m) e =
              ap (λ o. members (set_or_none (option_map (λ (layer : LayerRecord). layer.additions) o)) ++ flat_map (λ j. members (additions_at grown j)) (chain_within m grown (option_and_then (λ (layer : LayerRecord). layer.parent) o))) get-new
              ∙ ap (λ c. members layer.additions ++ flat_map (λ j. members (additions_at grown j)) c) (chain_below m (omega arith))
              ∙ ap (λ c. members layer.additions ++ c) (same_added (chain_from history layer.parent) all_stand)

      -- the new layer is kept where it is kept over its parent
      pub IsLayerKept-new : n < number_limit
          → ((triple : TextTriple) → IsTrue (contains layer.additions triple) → IsTriple triple)
          → (layer.parent ≡ None → layer.removals ≡ empty)
          → ((triple : TextTriple) → IsTrue (contains layer.removals triple) → IsTrue (contains (content_at_parent history layer.parent) triple))
          → ((triple : TextTriple) → IsTrue (contains layer.additions triple) → contains (content_at_parent history layer.parent) triple ≡ false)
          → IsLayerKept grown n layer
      IsLayerKept-new fits triples base removed added = record {
        number = (positive, fits);
        triples = triples;
        parent = new_parent layer.parent stands above;
        base = base;
        removed = λ q h. ap (λ set. contains set q) below_new ∙ removed q h;
        added = λ q h. ap (λ set. contains set q) below_new ∙ added q h;
      }
        where
          new_parent : (o : Option ℕ) → ParentStands history o → IfSome o (λ p. p < n) → IfSome o (λ p. (p < n) × StandsAt grown p)
          new_parent None h below = tt
          new_parent (Some p) h below = (below, stands_still p h)

    -- the other layers are kept as they were, so the new history is well kept where the new layer is kept
    pub IsWellKept-grown : IsLayerKept grown n layer → IsWellKept grown
    IsWellKept-grown new_kept k record_of_k is =
        elim (eq_by_cmp nat_cmp k n) as (λ b. eq_by_cmp nat_cmp k n ≡ b → IsLayerKept grown k record_of_k) [
          | true ↦ λ e.
              let same : k ≡ n = nat_cmp-IsAntisymmetric k n ((Equal-is (nat_cmp k n)).0 e) in
              let here : record_of_k ≡ layer = some_same (sym is ∙ ap (get grown) same ∙ get-new) in
              subst (λ k. IsLayerKept grown k record_of_k) (sym same) (subst (IsLayerKept grown n) (sym here) new_kept)
          | false ↦ λ e.
              let old : get history k ≡ Some record_of_k = sym (get-insert nat_cmp_total history n layer k ∙ ap (λ b. cond b (Some layer) (get history k)) e) ∙ is in
              let stood : StandsAt history k = ap is_some old in
              let was = kept k record_of_k old in
              record {
                number = was.number;
                triples = was.triples;
                parent = old_parent k record_of_k.parent was.parent;
                base = was.base;
                removed = λ q h. ap (λ set. contains set q) (same_below k stood) ∙ was.removed q h;
                added = λ q h. ap (λ set. contains set q) (same_below k stood) ∙ was.added q h;
              }
        ] refl
      where
        some_same : {x y : LayerRecord} → Some x ≡ Some y → x ≡ y
        some_same {x} e = ap (λ o. unwrap_or o x) e

        old_parent : (k : ℕ) (o : Option ℕ) → IfSome o (λ p. (p < k) × StandsAt history p) → IfSome o (λ p. (p < k) × StandsAt grown p)
        old_parent k None h = tt
        old_parent k (Some p) h = (h.0, stands_still p h.1)
