-- A layer that can be the next one of a history, and the layers that are made so.
use Rattle.std.proofs.Common.{◌≡◌, ℕ, ◌<◌, ◌^◌, ◌&&◌, nat_lt, List, [], ◌∷◌, ◌++◌, Option, Some, None, All, IsTrue, false, arith, refl, sym, ap, ◌∙◌, subst}
use Rattle.std.specs.FinMap.{empty, insert}
use Rattle.std.proofs.lemmas.List.Elements.{All-nil}
use Rattle.ts_model.specs.declared.signed.SignedTriple.{SignedTriple}
use Rattle.ts_model.specs.TextTriple.{TextTriple, IsTriple}
use Rattle.ts_model.specs.ChainTotals.{terms_at, predicates_at}
use Rattle.ts_model.specs.Order.{triple_cmp, triple_cmp_total, triple_cmp-IsAntisymmetric}
use Rattle.ts_model.specs.Sets.{contains, members, from_list}
use Rattle.ts_model.specs.History.{History, LayerRecord, IsWellKept, content_at, content_at_parent}
use Rattle.ts_model.specs.NetChange.{net_additions, net_removals}
use Rattle.ts_model.proofs.SetAlgebra.{contains-empty, members-from_rising}
use Rattle.ts_model.proofs.TripleSets.{from_list-members, members-empty}
use Rattle.ts_plain.specs.declared.write.PlainLayer.{PlainLayer}
use Rattle.ts_plain.specs.History.{AreHistory, history_of, record_of}
use Rattle.ts_plain.specs.NewLayer.{IsNewLayer, IsNewNumber}
use Rattle.ts_plain.specs.PlainRules.{FitsParent, KeepsPlainRules}
use Rattle.ts_plain.proofs.AmongLaws.{all_among}
use Rattle.ts_plain.proofs.GrowthLaws.{ParentStands}
use Rattle.ts_plain.proofs.MadeLaws.{KeepsPlainRules-net_change}
use Rattle.ts_plain.proofs.PlaceLaws.{AreHistory-push, HasAll, HasAll-net_removals, HasNone, HasNone-net_additions, IsAbove, history_of-push, record_of-net_change}
use Rattle.ts_plain.proofs.RuleLaws.{KeepsPlainRules-of_base}
use Rattle.ts_store.specs.Makes.{is_counted_at, next_number, squashed_layer, with_layer}
use Rattle.ts_store.specs.Store.{changed_layer, IsNextLayer}
use Rattle.ts_store.proofs.NumberLaws.{next_is_new, next_rises}

-- ---- a next layer

module _ (layers : List PlainLayer) (history : AreHistory layers) (layer : PlainLayer) (next : IsNextLayer (history_of layers) layer) where
  above : IsAbove layers layer.number
  above = subst (IsAbove layers) (sym next.number) (next_rises layers history)

  -- it makes a longer history, once its triples are known to be triples
  pub AreHistory-next : All IsTriple layer.additions.items → AreHistory (layers ++ layer ∷ [])
  AreHistory-next triples = AreHistory-push layers history layer next.rules next.fits triples above next.parent_stands next.removed next.added

  -- namely this one
  pub history_of-next : history_of (layers ++ layer ∷ []) ≡ with_layer (history_of layers) (record_of layer)
  history_of-next = history_of-push layers layer above ∙ ap (λ n. insert (history_of layers) n (record_of layer)) next.number

  IsNewLayer-next : IsNewLayer (history_of layers) layer.number (record_of layer) layer.parent layer.additions.items
  IsNewLayer-next = record {
    number_is_new = subst (IsNewNumber (history_of layers)) (sym next.number) (next_is_new (history_of layers));
    parent_is = refl;
    additions_are = members-from_rising triple_cmp triple_cmp_total triple_cmp-IsAntisymmetric layer.additions.items next.rules.additions_rise;
  }

  -- its terms and predicates are counted by the totals of a new layer with its additions
  pub counted-next : (terms predicates : ℕ) (shown : List TextTriple) → shown ≡ layer.additions.items
      → ((number : ℕ) (made : LayerRecord) → IsNewLayer (history_of layers) number made layer.parent shown → terms ≡ terms_at (insert (history_of layers) number made) number)
      → ((number : ℕ) (made : LayerRecord) → IsNewLayer (history_of layers) number made layer.parent shown → predicates ≡ predicates_at (insert (history_of layers) number made) number)
      → is_counted_at (with_layer (history_of layers) (record_of layer)) layer.number ≡ (nat_lt terms (2 ^ 32) && nat_lt predicates (2 ^ 32))
  counted-next terms predicates shown lent terms_are predicates_are =
      let new = subst (IsNewLayer (history_of layers) layer.number (record_of layer) layer.parent) (sym lent) IsNewLayer-next in
      ap (λ n. is_counted_at (insert (history_of layers) n (record_of layer)) layer.number) (sym next.number)
      ∙ (λ i. nat_lt (sym (terms_are layer.number (record_of layer) new) i) (2 ^ 32) && nat_lt (sym (predicates_are layer.number (record_of layer) new) i) (2 ^ 32))

-- ---- the layer of a body's net change

same_rules : (n : ℕ) (p q : Option ℕ) (a b r s : List TextTriple) → p ≡ q → a ≡ b → r ≡ s → KeepsPlainRules n p a r → KeepsPlainRules n q b s
same_rules n p q a b r s e f g h = subst (λ p. KeepsPlainRules n p b s) e (subst (λ a. KeepsPlainRules n p a s) f (subst (λ r. KeepsPlainRules n p a r) g h))

no_triples : (triples : List TextTriple) → triples ≡ [] → from_list {R = triple_cmp} triples ≡ empty
no_triples triples none = ap from_list (none ∙ sym members-empty) ∙ from_list-members empty

module _ (history : History) (kept : IsWellKept history) (parent : Option ℕ) (stands : ParentStands history parent) (body : List SignedTriple) (layer : PlainLayer)
    (number : layer.number ≡ next_number history) (parent_is : layer.parent ≡ parent)
    (additions_are : layer.additions.items ≡ members (net_additions (content_at_parent history parent) body))
    (removals_are : layer.removals.items ≡ members (net_removals (content_at_parent history parent) body)) where
  abbrev added : List TextTriple
  added = members (net_additions (content_at_parent history parent) body)

  abbrev removed : List TextTriple
  removed = members (net_removals (content_at_parent history parent) body)

  rules_of_change : KeepsPlainRules layer.number parent added removed
  rules_of_change = KeepsPlainRules-net_change history kept layer.number (subst (IsNewNumber history) (sym number) (next_is_new history)) parent stands body

  pub IsNextLayer-changed : layer.number < 2 ^ 32 → IsNextLayer history layer
  IsNextLayer-changed fits = record {
    number = number;
    fits = fits;
    rules = same_rules layer.number parent layer.parent added layer.additions.items removed layer.removals.items (sym parent_is) (sym additions_are) (sym removals_are) rules_of_change;
    parent_stands = subst (ParentStands history) (sym parent_is) stands;
    removed = subst (λ p. HasAll history p layer.removals.items) (sym parent_is) (HasAll-net_removals history parent body layer.additions.items layer.removals.items additions_are removals_are);
    added = subst (λ p. HasNone history p layer.additions.items) (sym parent_is) (HasNone-net_additions history parent body layer.additions.items layer.removals.items additions_are removals_are);
  }

  pub record_of-changed : record_of layer ≡ changed_layer history parent body
  record_of-changed =
      record_of-net_change history parent body layer.additions.items layer.removals.items additions_are removals_are layer parent_is refl refl
      ∙ changed_is parent rules_of_change.parent_fits
    where
      changed_is : (o : Option ℕ) → FitsParent layer.number o (members (net_removals (content_at_parent history o) body))
          → ◌≡◌ {A = LayerRecord} (record { parent = o; additions = net_additions (content_at_parent history o) body; removals = net_removals (content_at_parent history o) body }) (changed_layer history o body)
      changed_is None fits =
          let none : net_removals empty body ≡ empty = sym (from_list-members (net_removals empty body)) ∙ no_triples (members (net_removals empty body)) fits in
          λ i. record { parent = None; additions = net_additions empty body; removals = none i }
      changed_is (Some k) fits = refl

-- ---- the layer of another one's triples

module _ (history : History) (from : ℕ) (layer : PlainLayer) (parent_is : layer.parent ≡ None)
    (additions_are : layer.additions.items ≡ members (content_at history from)) (none : layer.removals.items ≡ []) where
  pub IsNextLayer-squashed : layer.number ≡ next_number history → layer.number < 2 ^ 32 → IsNextLayer history layer
  IsNextLayer-squashed number fits = record {
    number = number;
    fits = fits;
    rules = subst (λ p. KeepsPlainRules layer.number p layer.additions.items layer.removals.items) (sym parent_is)
        (KeepsPlainRules-of_base layer.number (content_at history from) layer.additions.items layer.removals.items (omega (arith, number)) additions_are none);
    parent_stands = subst (ParentStands history) (sym parent_is) tt;
    removed = subst (HasAll history layer.parent) (sym none) (All-nil (λ triple. IsTrue (contains (content_at_parent history layer.parent) triple)));
    added = subst (λ p. HasNone history p layer.additions.items) (sym parent_is) (all_among (λ q. contains (content_at_parent history None) q ≡ false) layer.additions.items (λ q is. contains-empty triple_cmp q));
  }

  pub record_of-squashed : record_of layer ≡ squashed_layer history from
  record_of-squashed =
      let additions : from_list {R = triple_cmp} layer.additions.items ≡ content_at history from = ap from_list additions_are ∙ from_list-members (content_at history from) in
      λ i. record { parent = parent_is i; additions = additions i; removals = no_triples layer.removals.items none i }
