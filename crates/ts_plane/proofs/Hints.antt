-- Rows that say each object's pairs, as the edges of triples turned around say them.
use Rattle.std.proofs.Common.{◌≡◌, ℕ, ◌+◌, ◌<◌, Bool, inl, inr, List, map, length, get_or, slice_index, refl, sym, ◌∙◌, ap, ap₂, subst, arith, nat_eq, eqb-true, eq-eqb, ne_eqb, Option, Some, None, IfNone}
use Rattle.std.specs.List.{dedup, range_with_len}
use Rattle.std.specs.List.Sorted.{IsStrictlyIncreasing}
use Rattle.std.proofs.lemmas.Bool.{cases_lt}
use Rattle.std.proofs.lemmas.List.{length-map, get_or-map, ext_get_or}
use Rattle.std.proofs.lemmas.List.FromFn.{length-map-range_with_len, get_or-map-range_with_len}
use Rattle.std.proofs.lemmas.Simd.{map-map}
use Rattle.ts_bits.specs.Rank.{rank, ones}
use Rattle.ts_bits.proofs.Ranks.{rank-mono}
use Rattle.ts_log.proofs.RisingLemmas.{rises}
use Rattle.ts_adjacency.specs.Rows.{row_of}
use Rattle.ts_adjacency.specs.Adjacency.{Adjacency, IsWhole, edges, edge_at}
use Rattle.ts_adjacency.proofs.RowLemmas.{row_within}
use Rattle.ts_adjacency.proofs.EdgeLemmas.{length-edges, edge_of}
use Rattle.ts_plane.specs.Groups.{last_marks}
use Rattle.ts_plane.specs.Objects.{HasEdge, EachHasEdge, AreTurned}
use Rattle.ts_plane.specs.Rules.{RisesInRows}
use Rattle.ts_plane.specs.Turned.{rising_of, turned, IsForward}
use Rattle.ts_plane.proofs.Members.{In, Rises, IsAt, in_at, at_in, in_map, rises_from_places, rises_at}
use Rattle.ts_plane.proofs.TurnedLemmas.{Below, below_asym, in_turned, from_turned, rises_turned}
use Rattle.ts_plane.proofs.GroupLemmas.{distinct_at}
use Rattle.ts_plane.proofs.GroupMembers.{length-last_marks}
use Rattle.ts_plane.proofs.ObjectSets.{exact_from}
use Rattle.ts_plane.proofs.PartLemmas.{first, second, distinct_rights}
use Rattle.ts_plane.proofs.RunLemmas.{run_marks, row_place, IsInRow}
use Rattle.ts_plane.proofs.SortedLemmas.{swap, rises_forward}
use Rattle.ts_plane.proofs.SubLists.{no_more, rises_differ, rising_among}

-- later places of a row have greater numbers
pub rises_later : (ends : List Bool) (xs : List ℕ) (i j : ℕ) → RisesInRows ends xs → i < j → j < length xs → row_of ends i ≡ row_of ends j → get_or xs i 0 < get_or xs j 0
rises_later ends xs i j rising low high same = rises xs i (j + 1) i j (λ k from to.
    (let one = rank-mono ends i k from in
    let two = rank-mono ends k (k + 1) (omega arith) in
    let three = rank-mono ends (k + 1) j (omega arith) in
    rising k (omega arith) (omega (arith, one.0, two.0, three.0, same)))) (omega arith) low (omega arith)

-- what the two last sections say: for each place its row's object, and its pair
abbrev pub hint_at : List ℕ → Adjacency → ℕ → ℕ × ℕ
hint_at objects by j = (slice_index objects (row_of by.ends j), slice_index by.rights j)

abbrev pub hints : List ℕ → Adjacency → List (ℕ × ℕ)
hints objects by = map (hint_at objects by) (range_with_len 0 (length by.ends))

pub hint_of : (objects : List ℕ) (by : Adjacency) (j : ℕ) → j < length by.ends → get_or (hints objects by) j (0, 0) ≡ hint_at objects by j
hint_of objects by j h = get_or-map-range_with_len (hint_at objects by) 0 (length by.ends) j j (0, 0) h (omega arith)

pub length-hints : (objects : List ℕ) (by : Adjacency) → length (hints objects by) ≡ length by.ends
length-hints objects by = length-map-range_with_len (hint_at objects by) 0 (length by.ends)

pub record AreRows (objects : List ℕ) (by : Adjacency) : Type 0 where
  pub whole : IsWhole by
  pub counted : ones by.ends ≡ length objects
  pub increasing : IsStrictlyIncreasing objects
  pub rising : RisesInRows by.ends by.rights

pub rises_hints : (objects : List ℕ) (by : Adjacency) → AreRows objects by → Rises Below (hints objects by)
rises_hints objects by is = rises_from_places Below (hints objects by) (0, 0) (λ i j low high.
    (let long = length-hints objects by in
    let inside : j < length by.ends = omega arith in
    let paired = is.whole.paired in
    let a = hint_of objects by i (omega arith) in
    let b = hint_of objects by j inside in
    let mono = rank-mono by.ends i j (omega arith) in
    let row_j = row_within by.ends j is.whole.closed inside in
    let below : Below (hint_at objects by i) (hint_at objects by j) = elim (cases_lt (row_of by.ends i) (row_of by.ends j)) [
      | inl less ↦
          (let up = rises objects 0 (length objects) (row_of by.ends i) (row_of by.ends j) (λ k l m. is.increasing k m) (omega arith) less (omega (arith, is.counted, row_j)) in
          (omega (arith, up), (λ e. absurd (omega (arith, up, e)))))
      | inr not ↦
          (let same : row_of by.ends i ≡ row_of by.ends j = omega (arith, mono.0, not) in
          (omega (arith, ap (λ r. get_or objects r 0) same), (λ _. rises_later by.ends by.rights i j is.rising low (omega (arith, paired)) same)))
    ] in
    subst (λ x. Below x (get_or (hints objects by) j (0, 0))) (sym a) (subst (Below (hint_at objects by i)) (sym b) below)))

edge_any : (a : Adjacency) (i : ℕ) (d : ℕ × ℕ) → i < length a.ends → get_or (edges a) i d ≡ edge_at a i
unfolding edges
edge_any a i d h = get_or-map-range_with_len (edge_at a) 0 (length a.ends) i i d h (omega arith)

-- edges of rows whose numbers rise
pub edges_rise : (a : Adjacency) → IsWhole a → RisesInRows a.ends a.rights → IsForward (edges a)
edges_rise a whole rising = λ i j d low high rights.
    let long = length-edges a in
    let inside : j < length a.ends = omega arith in
    let first_is = edge_any a i d (omega arith) in
    let second_is = edge_any a j d inside in
    let mono = rank-mono a.ends i j (omega arith) in
    let left_i : (get_or (edges a) i d).0 ≡ row_of a.ends i = ap first first_is in
    let left_j : (get_or (edges a) j d).0 ≡ row_of a.ends j = ap first second_is in
    let same_rights : slice_index a.rights i ≡ slice_index a.rights j = sym (ap second first_is) ∙ rights ∙ ap second second_is in
    elim (cases_lt (row_of a.ends i) (row_of a.ends j)) [
      | inl less ↦ omega (arith, left_i, left_j, less)
      | inr not ↦
          let up = rises_later a.ends a.rights i j rising low (omega (arith, whole.paired)) (omega (arith, mono.0, not)) in
          absurd (omega (arith, up, same_rights))
    ]

pub has_edge_in : (a : Adjacency) (q x : ℕ) → HasEdge a q x → In (q, x) (edges a)
has_edge_in a q x h =
    subst (λ e. In e (edges a)) (edge_of a h.place h.within ∙ ap₂ (λ l r. (l, r)) h.row h.right) (in_at (edges a) h.place (0, 0) (omega (arith, length-edges a, h.within)))

pub in_has_edge : (a : Adjacency) (q x : ℕ) → In (q, x) (edges a) → HasEdge a q x
in_has_edge a q x h =
    let there : IsAt (edges a) (q, x) (0, 0) = at_in (q, x) (edges a) (0, 0) h in
    let within : there.place < length a.ends = omega (arith, length-edges a, there.within) in
    let is = sym (edge_of a there.place within) ∙ there.is in
    record { place = there.place; within = within; row = ap first is; right = ap second is }

pub edge_rights : (a : Adjacency) → IsWhole a → map second (edges a) ≡ a.rights
edge_rights a whole = ext_get_or 0 (map second (edges a)) a.rights (length-map (edges a) second ∙ length-edges a ∙ whole.paired) (λ i h.
    (let within : i < length (edges a) = omega (arith, length-map (edges a) second) in
    get_or-map second (edges a) i (0, 0) 0 within ∙ ap second (edge_of a i (omega (arith, length-edges a)))))

-- hints that hold are the edges turned around
pub hints_turned : (objects : List ℕ) (by triples : Adjacency) → AreRows objects by → IsWhole triples → RisesInRows triples.ends triples.rights
    → length by.ends ≡ length triples.ends → EachHasEdge triples objects by → hints objects by ≡ turned (edges triples)
hints_turned objects by triples is whole rising long each =
    let forward = rises_turned (edges triples) (rises_forward (edges triples) (edges_rise triples whole rising)) in
    rising_among Below below_asym (hints objects by) (turned (edges triples)) (rises_hints objects by is) forward
    (λ x h.
    (let there : IsAt (hints objects by) x (0, 0) = at_in x (hints objects by) (0, 0) h in
    let within : there.place < length by.ends = omega (arith, length-hints objects by, there.within) in
    let hint = sym (hint_of objects by there.place within) ∙ there.is in
    subst (λ t. In t (turned (edges triples))) hint
    (in_turned (edges triples) (slice_index by.rights there.place) (slice_index objects (row_of by.ends there.place))
    (has_edge_in triples (slice_index by.rights there.place) (slice_index objects (row_of by.ends there.place)) (each there.place within)))))
    (let few = no_more (turned (edges triples)) (map swap (edges triples)) (rises_differ Below below_asym (turned (edges triples)) forward)
    (λ x h. in_map swap (x.1, x.0) (edges triples) (from_turned (edges triples) x h)) in
    omega (arith, few, length-map (edges triples) swap, length-edges triples, length-hints objects by, long))

-- so the last three lists are those of the triples
pub from_hints : (objects : List ℕ) (by triples : Adjacency) → AreRows objects by → IsWhole triples → RisesInRows triples.ends triples.rights
    → length by.ends ≡ length triples.ends → EachHasEdge triples objects by → AreTurned objects by triples
from_hints objects by triples is whole rising long each =
    let turned_is = hints_turned objects by triples is whole rising long each in
    record {
      objects_are = exact_from objects triples.rights is.increasing
          (λ k h.
          (let row : IsInRow by.ends k = row_place by.ends k (omega (arith, is.counted)) in
          let edge = each row.place row.within in
          (edge.place, omega (arith, edge.within, whole.paired), edge.right ∙ ap (slice_index objects) row.row)))
          (λ k h.
          (let edge : In (row_of triples.ends k, slice_index triples.rights k) (edges triples) =
          subst (λ e. In e (edges triples)) (edge_of triples k (omega (arith, whole.paired))) (in_at (edges triples) k (0, 0) (omega (arith, length-edges triples, whole.paired))) in
          let hint = subst (λ l. In (slice_index triples.rights k, row_of triples.ends k) l) (sym turned_is) (in_turned (edges triples) (row_of triples.ends k) (slice_index triples.rights k) edge) in
          let there : IsAt (hints objects by) (slice_index triples.rights k, row_of triples.ends k) (0, 0) = at_in (slice_index triples.rights k, row_of triples.ends k) (hints objects by) (0, 0) hint in
          let within : there.place < length by.ends = omega (arith, length-hints objects by, there.within) in (
            row_of by.ends there.place,
            omega (arith, row_within by.ends there.place is.whole.closed within, is.counted),
            ap first (sym (hint_of objects by there.place within) ∙ there.is),
          )));
      ends_are = sym (ap (λ l. last_marks nat_eq (map first l)) (sym turned_is) ∙ ap (last_marks nat_eq) (map-map first (hint_at objects by) (range_with_len 0 (length by.ends)))
          ∙ run_marks nat_eq (slice_index objects) by.ends 0 (λ a b e. eq-eqb a b e)
          (λ i h. (let up = is.increasing i (omega (arith, is.counted)) in ne_eqb (slice_index objects (i + 1)) (slice_index objects i) (λ e. omega (arith, up, e)))) is.whole.closed);
      rights_are = sym (ap (map second) (sym turned_is) ∙ ext_get_or 0 (map second (hints objects by)) by.rights
          (length-map (hints objects by) second ∙ length-hints objects by ∙ is.whole.paired)
          (λ i h. (let within : i < length (hints objects by) = omega (arith, length-map (hints objects by) second) in
          get_or-map second (hints objects by) i (0, 0) 0 within ∙ ap second (hint_of objects by i (omega (arith, length-hints objects by))))));
    }

right_at : (objects : List ℕ) (by triples : Adjacency) → AreTurned objects by triples → (j : ℕ) → j < length (turned (edges triples))
    → slice_index by.rights j ≡ (get_or (turned (edges triples)) j (0, 0)).1
right_at objects by triples are j h = ap (λ l. get_or l j 0) are.rights_are ∙ get_or-map second (turned (edges triples)) j (0, 0) 0 h

object_at : (objects : List ℕ) (by triples : Adjacency) → IsWhole triples → IsForward (edges triples) → AreTurned objects by triples → (j : ℕ) → j < length (turned (edges triples))
    → slice_index objects (row_of by.ends j) ≡ (get_or (turned (edges triples)) j (0, 0)).0
object_at objects by triples whole forward are j h =
    let list : objects ≡ dedup nat_eq (map first (turned (edges triples))) =
    are.objects_are ∙ sym (distinct_rights (edges triples) forward ∙ ap rising_of (edge_rights triples whole)) in
    ap₂ (λ l ends. get_or l (rank ends j) 0) list are.ends_are
    ∙ distinct_at nat_eq eqb-true (map first (turned (edges triples))) j 0 (omega (arith, length-map (turned (edges triples)) first))
    ∙ get_or-map first (turned (edges triples)) j (0, 0) 0 h

-- and where they are those, the hints hold
pub to_hints : (objects : List ℕ) (by triples : Adjacency) → IsWhole triples → RisesInRows triples.ends triples.rights
    → AreTurned objects by triples → RisesInRows by.ends by.rights × EachHasEdge triples objects by
to_hints objects by triples whole rising are =
    let forward = edges_rise triples whole rising in
    let rows = rises_turned (edges triples) (rises_forward (edges triples) forward) in
    let rights_long = ap length are.rights_are ∙ length-map (turned (edges triples)) second in
    let ends_long = ap length are.ends_are ∙ length-last_marks nat_eq (map first (turned (edges triples))) ∙ length-map (turned (edges triples)) first in (
      (λ j within same.
          (let inside : j + 1 < length (turned (edges triples)) = omega (arith, rights_long) in
          let a = object_at objects by triples whole forward are j (omega arith) in
          let b = object_at objects by triples whole forward are (j + 1) inside in
          let up = rises_at Below (turned (edges triples)) (0, 0) j (j + 1) rows (omega arith) inside in
          let x = right_at objects by triples are j (omega arith) in
          let y = right_at objects by triples are (j + 1) inside in
          let e = sym a ∙ ap (λ r. get_or objects r 0) same ∙ b in
          omega (arith, x, y, up.1 e))),
      (λ j within.
          (let inside : j < length (turned (edges triples)) = omega (arith, ends_long) in
          let edge = in_has_edge triples (get_or (turned (edges triples)) j (0, 0)).1 (get_or (turned (edges triples)) j (0, 0)).0
          (from_turned (edges triples) (get_or (turned (edges triples)) j (0, 0)) (in_at (turned (edges triples)) j (0, 0) inside)) in
          record {
            place = edge.place;
            within = edge.within;
            row = edge.row ∙ sym (right_at objects by triples are j inside);
            right = edge.right ∙ sym (object_at objects by triples whole forward are j inside);
          })),
    )

pub turned_paired : (objects : List ℕ) (by triples : Adjacency) → AreTurned objects by triples → length by.ends ≡ length by.rights
turned_paired objects by triples are =
    ap length are.ends_are ∙ length-last_marks nat_eq (map first (turned (edges triples))) ∙ length-map (turned (edges triples)) first
    ∙ sym (ap length are.rights_are ∙ length-map (turned (edges triples)) second)

pub none_since : {X P : Type 0} (r : Option X) → P → IfNone r P
none_since None p = p
none_since (Some x) p = tt

pub none_at : {X P : Type 0} (r : Option X) → ((x : X) → r ≡ Some x → ⊥) → IfNone r P → P
none_at None never p = p
none_at (Some x) never p = absurd (never x refl)
