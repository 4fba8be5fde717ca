-- Histories that have the same layers in the same files are one.
use Rattle.std.proofs.Common.{◌≡◌, ℕ, zero, suc, ◌<◌, ◌≤◌, Bool, true, false, not, true≢false, ◌&&◌, List, [], ◌∷◌, map, Contains, Option, None, Some, IfSome, IsTrue, refl, sym, ap, ◌∙◌, subst, arith}
use Rattle.std.specs.Cmp.{nat_cmp_total}
use Rattle.std.specs.Option.{is_some, option_and_then, option_map}
use Rattle.std.specs.FinMap.{contains_key, get, nat_cmp-IsAntisymmetric, same_map}
use Rattle.ts_model.specs.Order.{triple_cmp, triple_cmp_total, triple_cmp-IsAntisymmetric}
use Rattle.ts_model.specs.Sets.{SetOf, contains, difference}
use Rattle.ts_model.specs.TextTriple.{TextTriple}
use Rattle.ts_model.specs.History.{History, IsProperAncestor, IsWellKept, LayerRecord, additions_at, chain_of, chain_within, content_at, content_at_parent, parent_at, removals_at, set_or_none}
use Rattle.ts_model.proofs.HistoryLaws.{Found, found}
use Rattle.ts_model.proofs.SetLaws.{same_set}
use Rattle.ts_plane.specs.declared.triple.IdTriple.{IdTriple}
use Rattle.ts_part.specs.Facts.{Facts, all_predicates, all_terms}
use Rattle.ts_part.specs.Numbers.{id_triple, id_triples, totals_at}
use Rattle.ts_part.specs.Step.{StandsForStep, gained, layer_facts, lost}
use Rattle.ts_part.proofs.Births.{parent_is_ancestor}
use Rattle.ts_part.proofs.ContentStep.{additions_gained, removals_lost}
use Rattle.ts_part.proofs.FactsRead.{one_facts}
use Rattle.ts_part.proofs.IdOrder.{from_set, to_set}
use Rattle.ts_part.proofs.LayerStep.{layer_stands, layer_totals}
use Rattle.ts_chain.specs.Laws.{HaveOneFile}
use Rattle.ts_chain.specs.Stands.{AreStepsTo, IsStepTo, StandsFor}
use Rattle.ts_chain.specs.Views.{NamesPredicate, NamesTerm}
use Rattle.ts_chain.proofs.StepsContent.{steps_content}
use Rattle.ts_chain.proofs.Strangers.{content_named, one_predicate, one_term}

-- ---- the parts of a history's layers

abbrev pub parts_from : ℕ → History → Option ℕ → List Facts
parts_from most history at = map (layer_facts history) (chain_within most history at)

module _ (history : History) (kept : IsWellKept history) where
  -- the layer stands, and is no more than a number
  abbrev IsUpTo : ℕ → Option ℕ → Type 0
  IsUpTo most at = IfSome at (λ k. IsTrue (contains_key history k) × (k ≤ most))

  parent_of : (k : ℕ) (layer : LayerRecord) → get history k ≡ Some layer → parent_at history k ≡ layer.parent
  parent_of k layer is = ap (option_and_then (λ (layer : LayerRecord). layer.parent)) is

  pub parent_up_to : (most k : ℕ) → IsTrue (contains_key history k) → k ≤ suc most → IsUpTo most (parent_at history k)
  parent_up_to most k there low =
      let it : Found history k = found history k there in
      subst (IsUpTo most) (sym (parent_of k it.0 it.1)) (by it.0.parent (kept k it.0 it.1).parent)
    where
      by : (parent : Option ℕ) → IfSome parent (λ p. (p < k) × IsTrue (contains_key history p)) → IsUpTo most parent
      by None h = tt
      by (Some p) h = (h.1, omega (arith, h.0, low))

  pub parent_proper : (k : ℕ) → IsTrue (contains_key history k) → IfSome (parent_at history k) (λ a. IsProperAncestor history a k)
  parent_proper k there =
      let it : Found history k = found history k there in
      subst (λ parent. IfSome parent (λ a. IsProperAncestor history a k)) (sym (parent_of k it.0 it.1)) (by it.0 it.1 it.0.parent refl (kept k it.0 it.1).parent)
    where
      by : (layer : LayerRecord) → get history k ≡ Some layer → (parent : Option ℕ) → layer.parent ≡ parent → IfSome parent (λ p. (p < k) × IsTrue (contains_key history p))
          → IfSome parent (λ a. IsProperAncestor history a k)
      by layer is None e h = tt
      by layer is (Some p) e h = (parent_is_ancestor history kept k p layer is e h.1, λ same. (let less = h.0 in omega (arith, same)))

  layer_step : (k : ℕ) → IsTrue (contains_key history k) → IsStepTo history k (layer_facts history k)
  unfolding layer_facts
  layer_step k there = record { from = parent_proper k there; step = layer_stands history kept k there; totals = layer_totals history kept k there }

  steps : (most : ℕ) (at : Option ℕ) → IsUpTo most at → AreStepsTo history at (parts_from most history at)
  unfolding layer_facts
  steps zero None up = tt
  steps (suc most) None up = tt
  steps zero (Some k) up = (let it : Found history k = found history k up.0 in let some = (kept k it.0 it.1).number.0 in absurd (omega (arith, up.1, some)))
  steps (suc most) (Some k) up = (layer_step k up.0, steps most (parent_at history k) (parent_up_to most k up.0 up.1))

  pub layers_stand : (k : ℕ) → IsTrue (contains_key history k) → StandsFor (parts_from k history (Some k)) history k
  layers_stand k there = record { kept = kept; there = there; steps = steps k (Some k) (there, omega arith) }

-- ---- what stands for two histories

-- a triple of the one is one of the other where the same parts stand for both
one_way : (history other : History) (k : ℕ) (parts : List Facts) → StandsFor parts history k → StandsFor parts other k → (triple : TextTriple) → contains (content_at history k) triple ≡ true
    → contains (content_at other k) triple ≡ true
one_way history other k parts stands stands_other triple there =
    let id = id_triple history k triple in
    let named = content_named history k parts triple stands there in
    let among : Contains (id_triples other k (content_at other k)) id =
    subst (λ l. Contains l id) (sym (steps_content history k parts stands) ∙ steps_content other k parts stands_other) (to_set history stands.kept k (content_at history k) triple there) in
    let found = from_set other stands_other.kept k (content_at other k) id among in
    let named_other = content_named other k parts found.0 stands_other found.1 in
    let ids : id_triple other k found.0 ≡ id = found.2 in
    let subject : found.0.subject ≡ triple.subject =
    one_term other k parts id.s found.0.subject triple.subject stands_other (subst (λ (t : IdTriple). NamesTerm parts t.s found.0.subject) ids named_other.subject) named.subject in
    let predicate : found.0.predicate ≡ triple.predicate =
    one_predicate other k parts id.p found.0.predicate triple.predicate stands_other (subst (λ (t : IdTriple). NamesPredicate parts t.p found.0.predicate) ids named_other.predicate) named.predicate in
    let object : found.0.object ≡ triple.object =
    one_term other k parts id.o found.0.object triple.object stands_other (subst (λ (t : IdTriple). NamesTerm parts t.o found.0.object) ids named_other.object) named.object in
    let same : found.0 ≡ triple = λ i. record { subject = subject i; predicate = predicate i; object = object i } in
    subst (λ (t : TextTriple). contains (content_at other k) t ≡ true) same found.1

same_bool : (a b : Bool) → (a ≡ true → b ≡ true) → (b ≡ true → a ≡ true) → a ≡ b
same_bool true b there back = sym (there refl)
same_bool false true there back = back refl
same_bool false false there back = refl

-- ---- one history

module _ (history other : History) (kept : IsWellKept history) (kept_other : IsWellKept other) (keys : (k : ℕ) → contains_key history k ≡ contains_key other k)
    (files : (k : ℕ) → IsTrue (contains_key history k) → HaveOneFile history other k) where
  facts_same : (k : ℕ) → IsTrue (contains_key history k) → layer_facts history k ≡ layer_facts other k
  facts_same k there = let one = files k there in one_facts one.file (layer_facts history k) (layer_facts other k) one.says one.says_other

  parent_same : (k : ℕ) → IsTrue (contains_key history k) → parent_at history k ≡ parent_at other k
  unfolding layer_facts
  parent_same k there = ap (λ (facts : Facts). facts.parent) (facts_same k there)

  parts_same : (most : ℕ) (at : Option ℕ) → IsUpTo history kept most at → parts_from most history at ≡ parts_from most other at
  parts_same zero None up = refl
  parts_same (suc most) None up = refl
  parts_same zero (Some k) up = refl
  parts_same (suc most) (Some k) up =
      let rest : parts_from most history (parent_at history k) ≡ parts_from most other (parent_at other k) =
      parts_same most (parent_at history k) (parent_up_to history kept most k up.0 up.1) ∙ ap (parts_from most other) (parent_same k up.0) in
      λ i. facts_same k up.0 i ∷ rest i

  content_same : (k : ℕ) → IsTrue (contains_key history k) → content_at history k ≡ content_at other k
  content_same k there =
      let parts = parts_from k history (Some k) in
      let stands : StandsFor parts history k = layers_stand history kept k there in
      let stands_other : StandsFor parts other k =
      subst (λ l. StandsFor l other k) (sym (parts_same k (Some k) (there, omega arith))) (layers_stand other kept_other k (sym (keys k) ∙ there)) in
      same_set triple_cmp triple_cmp_total triple_cmp-IsAntisymmetric (content_at history k) (content_at other k) (λ triple.
      same_bool (contains (content_at history k) triple) (contains (content_at other k) triple)
      (one_way history other k parts stands stands_other triple) (one_way other history k parts stands_other stands triple))

  content_same_at : (at : Option ℕ) → IfSome at (λ k. IsTrue (contains_key history k)) → content_at_parent history at ≡ content_at_parent other at
  content_same_at None there = refl
  content_same_at (Some k) there = content_same k there

  parent_there : (k : ℕ) → IsTrue (contains_key history k) → IfSome (parent_at history k) (λ p. IsTrue (contains_key history p))
  parent_there k there = by (parent_at history k) (parent_up_to history kept k k there (omega arith))
    where
      by : (at : Option ℕ) → IsUpTo history kept k at → IfSome at (λ p. IsTrue (contains_key history p))
      by None up = tt
      by (Some p) up = up.0

  module _ (k : ℕ) (layer layer_other : LayerRecord) (is : get history k ≡ Some layer) (is_other : get other k ≡ Some layer_other) where
    there : IsTrue (contains_key history k)
    there = ap is_some is

    now : content_at history k ≡ content_at other k
    now = content_same k there

    before : content_at_parent history (parent_at history k) ≡ content_at_parent other (parent_at other k)
    before = content_same_at (parent_at history k) (parent_there k there) ∙ ap (content_at_parent other) (parent_same k there)

    additions_same : additions_at history k ≡ additions_at other k
    additions_same =
        additions_gained history kept k layer is
        ∙ (λ i. difference (now i) (before i))
        ∙ sym (additions_gained other kept_other k layer_other is_other)

    removals_same : removals_at history k ≡ removals_at other k
    removals_same =
        removals_lost history kept k layer is
        ∙ (λ i. difference (before i) (now i))
        ∙ sym (removals_lost other kept_other k layer_other is_other)

    layer_same : layer ≡ layer_other
    layer_same =
        let parents = sym (parent_of history kept k layer is) ∙ parent_same k there ∙ parent_of other kept_other k layer_other is_other in
        let of_additions : Option LayerRecord → SetOf triple_cmp = λ o. set_or_none (option_map (λ (layer : LayerRecord). layer.additions) o) in
        let of_removals : Option LayerRecord → SetOf triple_cmp = λ o. set_or_none (option_map (λ (layer : LayerRecord). layer.removals) o) in
        let additions = sym (ap of_additions is) ∙ additions_same ∙ ap of_additions is_other in
        let removals = sym (ap of_removals is) ∙ removals_same ∙ ap of_removals is_other in
        λ i. record { parent = parents i; additions = additions i; removals = removals i }

  layers_same : (k : ℕ) → get history k ≡ get other k
  layers_same k = by (get history k) (get other k) refl refl (keys k)
    where
      by : (one two : Option LayerRecord) → get history k ≡ one → get other k ≡ two → is_some (get history k) ≡ is_some (get other k) → get history k ≡ get other k
      by None None is is_other same = is ∙ sym is_other
      by (Some layer) (Some layer_other) is is_other same = is ∙ ap Some (layer_same k layer layer_other is is_other) ∙ sym is_other
      by None (Some layer_other) is is_other same = absurd (true≢false (sym (sym (ap is_some is) ∙ same ∙ ap is_some is_other)))
      by (Some layer) None is is_other same = absurd (true≢false (sym (ap is_some is) ∙ same ∙ ap is_some is_other))

  pub one_history : history ≡ other
  one_history = same_map nat_cmp_total nat_cmp-IsAntisymmetric history other layers_same
