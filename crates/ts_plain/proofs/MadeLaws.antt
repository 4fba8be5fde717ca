-- That the layers that a body and a squash make keep the rules of a plain file.
use Rattle.std.proofs.Common.{◌≡◌, ℕ, ◌≤◌, List, [], Option, Some, None, IfSome, IsTrue, Bool, false, true, refl, sym, ap, ◌∙◌, true≢false}
use Rattle.std.specs.FinMap.{empty}
use Rattle.std.proofs.lemmas.List.Elements.{All-contains}
use Rattle.ts_model.specs.declared.signed.SignedTriple.{SignedTriple}
use Rattle.ts_model.specs.Order.{triple_cmp, triple_cmp_total, triple_cmp-IsAntisymmetric}
use Rattle.ts_model.specs.Sets.{contains, members}
use Rattle.ts_model.specs.History.{History, IsWellKept, content_at_parent}
use Rattle.ts_model.specs.NetChange.{net_additions, net_removals}
use Rattle.ts_model.proofs.HistoryLaws.{Found, found}
use Rattle.ts_model.proofs.SetLaws.{IsStrictlySortedBy-members, same_set}
use Rattle.ts_model.proofs.SetAlgebra.{contains-empty}
use Rattle.ts_model.proofs.TripleSets.{members-empty}
use Rattle.ts_plain.specs.NewLayer.{IsNewNumber}
use Rattle.ts_plain.specs.PlainRules.{FitsParent, KeepsPlainRules}
use Rattle.ts_plain.proofs.GrowthLaws.{ParentStands}
use Rattle.ts_plain.proofs.NetLaws.{removal_is_there}
use Rattle.ts_plain.proofs.PlaceLaws.{HasAll-net_removals, HasNone-net_additions}

-- nothing can be removed where nothing is
no_removals : (body : List SignedTriple) → members (net_removals empty body) ≡ []
no_removals body =
    ap members (same_set triple_cmp triple_cmp_total triple_cmp-IsAntisymmetric (net_removals empty body) empty (λ q.
    missing (contains (net_removals empty body) q) (λ is. true≢false (sym (removal_is_there empty body q is) ∙ contains-empty triple_cmp q)) ∙ sym (contains-empty triple_cmp q)))
    ∙ members-empty
  where
    missing : (b : Bool) → (b ≡ true → ⊥) → b ≡ false
    missing true h = absurd (h refl)
    missing false h = refl

module _ (history : History) (kept : IsWellKept history) (number : ℕ) (new : IsNewNumber history number) (parent : Option ℕ) (stands : ParentStands history parent)
    (body : List SignedTriple) where
  fits : (o : Option ℕ) → ParentStands history o → FitsParent number o (members (net_removals (content_at_parent history o) body))
  fits None h = no_removals body
  fits (Some p) h = new.above p h

  positive : (o : Option ℕ) → ParentStands history o → IfSome o (λ p. 1 ≤ p)
  positive None h = tt
  positive (Some p) h = let it : Found history p = found history p h in (kept p it.0 it.1).number.0

  -- the net change of a body over a parent
  pub KeepsPlainRules-net_change : KeepsPlainRules number parent (members (net_additions (content_at_parent history parent) body)) (members (net_removals (content_at_parent history parent) body))
  KeepsPlainRules-net_change =
      let additions = members (net_additions (content_at_parent history parent) body) in
      let removals = members (net_removals (content_at_parent history parent) body) in
      record {
        numbered = new.positive;
        parented = positive parent stands;
        additions_rise = IsStrictlySortedBy-members triple_cmp (net_additions (content_at_parent history parent) body);
        removals_rise = IsStrictlySortedBy-members triple_cmp (net_removals (content_at_parent history parent) body);
        apart = λ triple h k. true≢false (
            sym (All-contains (λ q. IsTrue (contains (content_at_parent history parent) q)) removals triple (HasAll-net_removals history parent body additions removals refl refl) k)
            ∙ All-contains (λ q. contains (content_at_parent history parent) q ≡ false) additions triple (HasNone-net_additions history parent body additions removals refl refl) h);
        parent_fits = fits parent stands;
      }
