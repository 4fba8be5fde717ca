-- Rows from one place to the next.
use Rattle.std.proofs.Common.{◌≡◌, ℕ, ◌+◌, ◌-◌, ◌<◌, ◌≤◌, Bool, true, false, true≢false, not, Some, List, slice_get, IsTrue, refl, sym, ◌∙◌, subst, arith, ◌↔◌, inl, inr}
use mir.Val.{bool_byte}
use Rattle.ts_adjacency.specs.Rows.{IsRow, row_of, row_count}
use Rattle.ts_adjacency.specs.Adjacency.{Adjacency, IsWhole}
use Rattle.ts_adjacency.proofs.RowLemmas.{row_next, row_within}
use Rattle.ts_log.specs.Rising.{RisesBetween}
use Rattle.std.proofs.lemmas.Bool.{cases_lt}
use Rattle.ts_plane.specs.Objects.{HasEdge}
use Rattle.ts_plane.specs.Fits.{ContinuesRow}
use Rattle.ts_plane.specs.Rules.{RisesInRows}

-- behind a place that is no row's last the row goes on
pub row_goes_on : (ends : List Bool) (j : ℕ) → 0 < j → slice_get ends (j - 1) ≡ Some false → ContinuesRow ends j
row_goes_on ends j some here =
    let next : row_of ends (j - 1 + 1) ≡ row_of ends (j - 1) + bool_byte false = row_next ends (j - 1) false here in
    let none : bool_byte false ≡ 0 = refl in
    (j - 1, omega arith, omega (arith, next, none))

-- behind a row's last it doesn't
pub row_ends : (ends : List Bool) (j : ℕ) → slice_get ends (j - 1) ≡ Some true → ContinuesRow ends j → ⊥
row_ends ends j here on =
    let next : row_of ends (j - 1 + 1) ≡ row_of ends (j - 1) + bool_byte true = row_next ends (j - 1) true here in
    let k : j - 1 ≡ on.0 = omega (arith, on.1) in
    let one : bool_byte true ≡ 1 = refl in
    let moved : row_of ends (on.0 + 1) ≡ row_of ends on.0 + bool_byte true = subst (λ m. row_of ends (m + 1) ≡ row_of ends m + bool_byte true) k next in
    omega (arith, moved, one, on.2)

pub continues_iff : (ends : List Bool) (j : ℕ) (last : Bool) → 0 < j → slice_get ends (j - 1) ≡ Some last → IsTrue (not last) ↔ ContinuesRow ends j
continues_iff ends j true some here = ((λ h. absurd (true≢false (sym h))), (λ on. absurd (row_ends ends j here on)))
continues_iff ends j false some here = ((λ _. row_goes_on ends j some here), (λ _. refl))

-- within a row numbers rise
pub rises_in_row : (a : Adjacency) (i first after : ℕ) → IsWhole a → RisesInRows a.ends a.rights → IsRow a.ends i first after → RisesBetween a.rights first after
rises_in_row a i first after whole rising row = λ k low high.
    rising k (omega (arith, whole.paired, row.within)) (row.inside k low (omega arith) ∙ sym (row.inside (k + 1) (omega arith) high))

-- one place more
pub each_more : (P : ℕ → Type 0) (j : ℕ) → ((k : ℕ) → k < j → P k) → P j → (k : ℕ) → k < j + 1 → P k
each_more P j before here k low = elim (cases_lt k j) [
  | inl less ↦ before k less
  | inr not ↦ (let e : j ≡ k = omega arith in subst P e here)
]

pub refuted : {A : Type 0} → (A → ⊥) → IsTrue false ↔ A
refuted none = ((λ e. absurd (true≢false (sym e))), (λ a. absurd (none a)))

pub confirmed : {A : Type 0} → A → IsTrue true ↔ A
confirmed a = ((λ _. a), (λ _. refl))

-- a row behind the last has no edge
pub no_edge : (a : Adjacency) (q x : ℕ) → IsWhole a → row_count a.ends ≤ q → HasEdge a q x → ⊥
no_edge a q x whole behind edge = omega (arith, row_within a.ends edge.place whole.closed edge.within, edge.row, behind)
