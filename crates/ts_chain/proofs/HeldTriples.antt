-- Whether a chain has a triple of spellings, by its numbers.
use Rattle.std.proofs.Common.{◌≡◌, ℕ, Bool, false, List, IsTrue, sym, subst}
use Rattle.std.specs.Prelude.{◌↔◌}
use Rattle.std.specs.Cmp.{both_ways}
use Rattle.std.proofs.lemmas.Bool.{false≢true}
use Rattle.ts_model.specs.TextTriple.{TextTriple}
use Rattle.ts_model.specs.History.{History, content_at}
use Rattle.ts_model.specs.Sets.{contains}
use Rattle.ts_plane.specs.declared.triple.IdTriple.{IdTriple}
use Rattle.ts_part.specs.Facts.{Facts}
use Rattle.ts_chain.specs.Chain.{IsChain}
use Rattle.ts_chain.specs.Content.{stands_in}
use Rattle.ts_chain.specs.Holds.{HasIds, Holds, spelled_triple}
use Rattle.ts_chain.specs.Stands.{StandsFor}
use Rattle.ts_chain.proofs.HoldsAtLayers.{holds_at, spelled_kinds}
use Rattle.ts_chain.proofs.OneNumber.{one_id}

module _ (parts : List Facts) (triple : TextTriple) where
  one_triple : IsChain parts → (t u : IdTriple) → HasIds parts triple t → HasIds parts triple u → t ≡ u
  one_triple chain t u has_t has_u =
      let subjects = one_id parts triple.subject t.s u.s chain.rules has_t.subject has_u.subject in
      let predicates = one_id parts triple.predicate t.p u.p chain.rules has_t.predicate has_u.predicate in
      let objects = one_id parts triple.object t.o u.o chain.rules has_t.object has_u.object in
      λ i. record { s = subjects i; p = predicates i; o = objects i }

  pub holds_numbered : IsChain parts → (t : IdTriple) (answer : Bool) → HasIds parts triple t → answer ≡ stands_in parts t → IsTrue answer ↔ Holds parts triple
  holds_numbered chain t answer has is = (
    λ yes. record { ids = t; has = has; stands = subst IsTrue is yes },
    λ holds. subst IsTrue (sym is) (subst (λ u. IsTrue (stands_in parts u)) (one_triple chain holds.ids t holds.has has) holds.stands),
  )

  pub holds_nothing : ((t : IdTriple) → ¬ HasIds parts triple t) → IsTrue false ↔ Holds parts triple
  holds_nothing none = (λ yes. absurd (false≢true yes), λ holds. absurd (none holds.ids holds.has))

pub holds_content : (parts : List Facts) (s p o : List ℕ) (answer : Bool) → IsTrue answer ↔ Holds parts (spelled_triple s p o) → (history : History) (k : ℕ)
    → StandsFor parts history k → answer ≡ contains (content_at history k) (spelled_triple s p o)
holds_content parts s p o answer is history k stands =
    let there = holds_at history k parts (spelled_triple s p o) (spelled_kinds s p o) stands in
    both_ways answer (contains (content_at history k) (spelled_triple s p o)) (λ yes. there.0 (is.0 yes)) (λ yes. is.1 (there.1 yes))
