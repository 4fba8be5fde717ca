-- Turned edges, sorted, are the edges turned around.
use Rattle.std.proofs.Common.{◌≡◌, ℕ, ◌+◌, List, map, get_or, sym, ◌∙◌, ap, subst, arith, IsPermutation, Contains}
use Rattle.std.specs.List.{IsDistinct}
use Rattle.std.specs.List.Sorted.{IsSorted}
use Rattle.std.proofs.lemmas.Bool.{false_from_ne_true}
use Rattle.std.proofs.lemmas.List.{length-map, get_or-map}
use Rattle.std.proofs.lemmas.List.Sorted.{Contains-permutation, IsPermutation-sym}
use Rattle.std.proofs.lemmas.Map.Keys.{IsDistinct-IsPermutation, IsDistinct-from_apart, apart_from_distinct}
use Rattle.ts_plane.specs.Parts.{same_pair}
use Rattle.ts_plane.specs.Turned.{turned, IsForward}
use Rattle.ts_plane.proofs.Members.{In, Rises, IsMade, in_at, at_in, in_map, from_map, rises_from_places, rises_at, rising_same}
use Rattle.ts_plane.proofs.TurnedLemmas.{Below, Forward, below_asym, in_turned, from_turned, rises_turned}
use Rattle.ts_plane.proofs.Orders.{NotAbove, rises_from_neighbours, trans_not_above, not_less, pair_cmp, same_is, same_flips, apart_below}

abbrev pub swap : ℕ × ℕ → ℕ × ℕ
swap edge = (edge.1, edge.0)

pub contains_in : {X : Type 0} (xs : List X) (x : X) → Contains xs x → In x xs
contains_in xs x h = subst (λ y. In y xs) h.2 (in_at xs h.0 x h.1)

pub in_contains : {X : Type 0} (xs : List X) (x : X) → In x xs → Contains xs x
in_contains xs x h = (let there = at_in x xs x h in (there.place, there.within, there.is))

pub rises_forward : (edges : List (ℕ × ℕ)) → IsForward edges → Rises Forward edges
rises_forward edges forward = rises_from_places Forward edges (0, 0) (λ i j low high. forward i j (0, 0) low high)

distinct_swapped : (edges : List (ℕ × ℕ)) → IsForward edges → IsDistinct same_pair (map swap edges)
distinct_swapped edges forward = IsDistinct-from_apart same_pair (map swap edges) (λ i j d low high.
    (let long = length-map edges swap in
    let first = get_or-map swap edges i (0, 0) d (omega (arith, long)) in
    let second = get_or-map swap edges j (0, 0) d (omega (arith, long)) in
    false_from_ne_true (same_pair (get_or (map swap edges) i d) (get_or (map swap edges) j d)) (λ e.
    (let is = sym first ∙ same_is _ _ e ∙ second in
    let rights : (get_or edges i (0, 0)).1 ≡ (get_or edges j (0, 0)).1 = ap (λ (u : ℕ × ℕ). u.0) is in
    let lefts : (get_or edges i (0, 0)).0 ≡ (get_or edges j (0, 0)).0 = ap (λ (u : ℕ × ℕ). u.1) is in
    omega (arith, lefts, forward i j (0, 0) low (omega (arith, long)) rights)))))

pub sorted_turned : (edges rows : List (ℕ × ℕ)) → IsForward edges → IsPermutation (map swap edges) rows → IsSorted pair_cmp rows → rows ≡ turned edges
sorted_turned edges rows forward moved sorted =
    let fall : Rises NotAbove rows = rises_from_neighbours NotAbove trans_not_above rows (0, 0)
    (λ k within. not_less (get_or rows k (0, 0)) (get_or rows (k + 1) (0, 0)) (sorted k (0, 0) (omega arith) within)) in
    let apart : IsDistinct same_pair rows = IsDistinct-IsPermutation same_pair same_flips (map swap edges) rows moved (distinct_swapped edges forward) in
    let rises : Rises Below rows = rises_from_places Below rows (0, 0) (λ i j low high.
    apart_below (get_or rows i (0, 0)) (get_or rows j (0, 0)) (rises_at NotAbove rows (0, 0) i j fall low high)
    (same_flips (get_or rows j (0, 0)) (get_or rows i (0, 0)) ∙ apart_from_distinct same_pair rows i j (0, 0) apart low high)) in
    rising_same Below below_asym rows (turned edges) rises (rises_turned edges (rises_forward edges forward))
    (λ x h.
    (let back = contains_in (map swap edges) x (Contains-permutation rows (map swap edges) x (IsPermutation-sym (map swap edges) rows moved) (in_contains rows x h)) in
    let made : IsMade swap edges x = from_map swap x edges back in
    subst (λ y. In y (turned edges)) (sym made.is) (in_turned edges made.of.0 made.of.1 made.inside)))
    (λ x h.
    contains_in rows x (Contains-permutation (map swap edges) rows x moved (in_contains (map swap edges) x (in_map swap (x.1, x.0) edges (from_turned edges x h)))))
