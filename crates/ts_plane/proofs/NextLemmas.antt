-- The next pair of an object that has a predicate.
use Rattle.std.proofs.Common.{◌≡◌, ℕ, ◌<◌, ◌≤◌, false, Option, Some, None, MatchOption, List, [], ◌∷◌, length, get_or, sym, ap, ◌∙◌, arith, inl, inr}
use Rattle.std.specs.Option.{IfNone, IfSome}
use Rattle.std.proofs.lemmas.Bool.{cases_lt, ne_eqb}
use Rattle.ts_log.proofs.RisingLemmas.{rises}
use Rattle.ts_wavelet.specs.Sequence.{places_from}
use Rattle.ts_plane.specs.Parts.{PlaneParts}
use Rattle.ts_plane.specs.Lookups.{pair_at}
use Rattle.ts_plane.specs.Pattern.{part_fits}
use Rattle.ts_plane.specs.Cursors.{NoPairHas, IsNextPair, StandsInObject}
use Rattle.ts_plane.proofs.PredicateWalks.{places_absent, places_first}

-- where no pair from this place's on has the predicate, as far as the pairs of these places go, none of them has
pub none_between : (parts : PlaneParts) (p place end next to stop : ℕ) → StandsInObject parts place end → place ≤ next → to ≤ end
    → NoPairHas parts.pair_predicates p (get_or parts.object_pairs next 0) stop → ((q : ℕ) → next ≤ q → q < to → get_or parts.object_pairs q 0 < stop)
    → (q : ℕ) → next ≤ q → q < to → part_fits (Some p) (pair_at parts (get_or parts.object_pairs q 0)).1 ≡ false
none_between parts p place end next to stop stands low within none below q from before =
    let up : get_or parts.object_pairs next 0 ≤ get_or parts.object_pairs q 0 = elim (cases_lt next q) [
      | inl less ↦ omega (arith, rises parts.object_pairs place end next q stands.rising low less (omega arith))
      | inr not ↦ (let same : next ≡ q = omega arith in omega (arith, ap (λ i. get_or parts.object_pairs i 0) same))
    ] in
    ne_eqb p (get_or parts.pair_predicates (get_or parts.object_pairs q 0) 0) (λ e. none (get_or parts.object_pairs q 0) up (below q from before) (sym e))

-- the first of the predicate's places, where there is one
pub next_found : (predicates : List ℕ) (p from : ℕ) (result : Option ℕ) (places rest : List ℕ) → from ≤ length predicates → places ≡ places_from predicates p from
    → MatchOption result ((places ≡ []) × (rest ≡ [])) (λ x. places ≡ x ∷ rest)
    → IfNone result (NoPairHas predicates p from (length predicates)) × IfSome result (IsNextPair predicates p from)
next_found predicates p from None places rest within is gives = ((λ k low high. places_absent predicates p from k within (sym is ∙ gives.0) low high), tt)
next_found predicates p from (Some pair) places rest within is gives =
    let first = places_first predicates p from pair rest within (sym is ∙ gives) in
    (tt, record { low = first.low; within = first.within; has = first.here; before = first.before })
