-- What a body changes over a chain, and over a layer of a history.
use Rattle.std.specs.Prelude.{◌≡◌, ℕ, ◌<◌, ◌≤◌, ◌↔◌, List, All, Contains, Option, IfSome, IsTrue}
use Rattle.std.specs.List.Sorted.{IsStrictlySortedBy}
use Rattle.ts_model.specs.declared.signed.SignedTriple.{SignedTriple}
use Rattle.ts_model.specs.TextTriple.{TextTriple}
use Rattle.ts_model.specs.Order.{triple_cmp}
use Rattle.ts_model.specs.Sets.{contains, members}
use Rattle.ts_model.specs.History.{History, content_at_parent}
use Rattle.ts_model.specs.NetChange.{added, removed, net_additions, net_removals}
use Rattle.ts_part.specs.Facts.{Facts}
use Rattle.ts_chain.specs.Chain.{layer_of}
use Rattle.ts_chain.specs.Holds.{Holds}
use Rattle.ts_builder.specs.Net.{NetTriples}

-- each list rises, by the bytes of subject, predicate and object
pub record IsRisingNet (net : NetTriples) : Type 0 where
  pub additions : IsStrictlySortedBy triple_cmp net.additions
  pub removals : IsStrictlySortedBy triple_cmp net.removals

-- a change that a layer over these parts can have: they hold no addition, and each removal; without parts nothing goes
pub record IsChangeOver (parts : List Facts) (net : NetTriples) : Type 0 where
  pub rise : IsRisingNet net
  pub lacks : All (λ triple. ¬ Holds parts triple) net.additions
  pub has : All (Holds parts) net.removals

-- of the triples whose last line adds them, those that the parts don't hold; of those whose last line removes them, those that they hold
pub record IsNetOf (parts : List Facts) (body : List SignedTriple) (net : NetTriples) : Type 0 where
  pub additions : (triple : TextTriple) → Contains net.additions triple ↔ (IsTrue (contains (added body) triple) × (¬ Holds parts triple))
  pub removals : (triple : TextTriple) → Contains net.removals triple ↔ (IsTrue (contains (removed body) triple) × Holds parts triple)

-- the net change of a body at a layer, or at none
pub record IsNetAt (history : History) (from : Option ℕ) (body : List SignedTriple) (net : NetTriples) : Type 0 where
  pub additions : net.additions ≡ members (net_additions (content_at_parent history from) body)
  pub removals : net.removals ≡ members (net_removals (content_at_parent history from) body)

-- the number of a layer over these parts: at least 1, and above theirs
pub record IsNumberOver (parts : List Facts) (number : ℕ) : Type 0 where
  pub some : 1 ≤ number
  pub above : IfSome (layer_of parts) (λ parent. parent < number)
