-- Rows, pairs and subjects of a plane that keeps its rules.
use Rattle.std.proofs.Common.{◌≡◌, ℕ, ◌+◌, ◌<◌, ◌≤◌, Bool, eqb, List, length, get_or, sym, ap, ◌∙◌, arith, inl, inr}
use Rattle.std.proofs.lemmas.Bool.{cases_lt, eqb-true}
use Rattle.ts_bits.proofs.Ranks.{rank-mono}
use Rattle.ts_log.specs.Rising.{RisesBetween}
use Rattle.ts_log.proofs.RisingLemmas.{rises}
use Rattle.ts_adjacency.specs.Rows.{IsRow, row_of}
use Rattle.ts_adjacency.proofs.RowLemmas.{row_within}
use Rattle.ts_plane.specs.Parts.{PlaneParts}
use Rattle.ts_plane.specs.Rules.{RisesInRows}
use Rattle.ts_plane.specs.Kept.{KeepsRules}
use Rattle.ts_plane.specs.Lookups.{IsRun, pair_at}

-- the places before a row are in rows before it
pub row_before : (ends : List Bool) (i first after k : ℕ) → IsRow ends i first after → k < first → row_of ends k < i
row_before ends i first after k row h =
    let mono = rank-mono ends k first (omega arith) in
    let here : row_of ends first ≡ i = row.inside first (omega arith) row.some in
    elim (cases_lt (row_of ends k) i) [
      | inl below ↦ below
      | inr not ↦ (let only = row.only k (omega (arith, row.some, row.within)) (omega (arith, mono.0, here)) in absurd (omega (arith, only.0)))
    ]

-- and those behind it in rows behind
pub row_behind : (ends : List Bool) (i first after k : ℕ) → IsRow ends i first after → after ≤ k → k < length ends → i < row_of ends k
row_behind ends i first after k row h within =
    let mono = rank-mono ends first k (omega (arith, row.some)) in
    let here : row_of ends first ≡ i = row.inside first (omega arith) row.some in
    elim (cases_lt i (row_of ends k)) [
      | inl below ↦ below
      | inr not ↦ (let only = row.only k within (omega (arith, mono.0, here)) in absurd (omega (arith, only.1)))
    ]

-- the row of a pair has a subject
pub subject_within : (parts : PlaneParts) (k : ℕ) → KeepsRules parts → k < length parts.pair_ends → row_of parts.pair_ends k < length parts.subjects
subject_within parts k kept h = omega (arith, row_within parts.pair_ends k kept.pairs_closed h, kept.subject_rows)

-- the row of a triple is a pair
pub pair_within : (parts : PlaneParts) (j : ℕ) → KeepsRules parts → j < length parts.object_ends → row_of parts.object_ends j < length parts.pair_ends
pair_within parts j kept h = omega (arith, row_within parts.object_ends j kept.triples_closed h, kept.pair_rows)

-- a later subject is greater
pub subjects_rise : (parts : PlaneParts) (i j : ℕ) → KeepsRules parts → i < j → j < length parts.subjects → get_or parts.subjects i 0 < get_or parts.subjects j 0
subjects_rise parts i j kept h within = rises parts.subjects 0 (length parts.subjects) i j (λ k l m. kept.subjects_rise k m) (omega arith) h within

-- so an equal one is the same
pub subject_only : (parts : PlaneParts) (i j : ℕ) → KeepsRules parts → i < length parts.subjects → j < length parts.subjects → get_or parts.subjects i 0 ≡ get_or parts.subjects j 0 → i ≡ j
subject_only parts i j kept hi hj same = elim (cases_lt i j) [
  | inl lower ↦ (let up = subjects_rise parts i j kept lower hj in absurd (omega arith))
  | inr not ↦ elim (cases_lt j i) [
    | inl upper ↦ (let up = subjects_rise parts j i kept upper hi in absurd (omega arith))
    | inr here ↦ omega arith
  ]
]

-- numbers rise where their places are in one row
pub rise_in_row : (ends : List Bool) (xs : List ℕ) (from to : ℕ) → RisesInRows ends xs → length xs ≡ length ends → to ≤ length ends
    → ((k : ℕ) → from ≤ k → k + 1 < to → row_of ends k ≡ row_of ends (k + 1)) → RisesBetween xs from to
rise_in_row ends xs from to rule paired within same = λ k low high. rule k (omega arith) (same k low high)

pub rise_in : (ends : List Bool) (xs : List ℕ) (i first after : ℕ) → RisesInRows ends xs → length xs ≡ length ends → IsRow ends i first after → RisesBetween xs first after
rise_in ends xs i first after rule paired row =
    rise_in_row ends xs first after rule paired row.within (λ k low high. row.inside k low (omega arith) ∙ sym (row.inside (k + 1) (omega arith) high))

-- what later pairs are greater by
pub record IsLater (parts : PlaneParts) (k l : ℕ) : Type 0 where
  pub subject : (pair_at parts k).0 ≤ (pair_at parts l).0
  pub predicate : (pair_at parts k).0 ≡ (pair_at parts l).0 → (pair_at parts k).1 < (pair_at parts l).1

pub pairs_rise : (parts : PlaneParts) (k l : ℕ) → KeepsRules parts → k < l → l < length parts.pair_ends → IsLater parts k l
pairs_rise parts k l kept h within =
    let ends = parts.pair_ends in
    let mono = rank-mono parts.pair_ends k l (omega arith) in
    elim (cases_lt (row_of parts.pair_ends k) (row_of parts.pair_ends l)) [
      | inl lower ↦
          let up = subjects_rise parts (row_of parts.pair_ends k) (row_of parts.pair_ends l) kept lower (subject_within parts l kept within) in
          record { subject = omega arith; predicate = λ same. absurd (omega arith) }
      | inr not ↦
          let same : row_of parts.pair_ends k ≡ row_of parts.pair_ends l = omega (arith, mono.0) in
          let rising : RisesBetween parts.pair_predicates k (l + 1) = rise_in_row parts.pair_ends parts.pair_predicates k (l + 1) kept.predicates_rise kept.predicates_counted (omega arith)
          (λ m low high.
          (let one = rank-mono parts.pair_ends k m low in
          let two = rank-mono parts.pair_ends m (m + 1) (omega arith) in
          let three = rank-mono parts.pair_ends (m + 1) l (omega arith) in
          omega (arith, one.0, two.0, three.0))) in
          let up = rises parts.pair_predicates k (l + 1) k l rising (omega arith) h (omega arith) in
          record { subject = (let e = ap (λ i. get_or parts.subjects i 0) same in omega arith); predicate = λ e. up }
    ]

-- the triples of one pair are in one row
pub rise_in_pair : (parts : PlaneParts) (from to first after : ℕ) → KeepsRules parts → to ≤ from + 1 → after ≤ length parts.object_ends
    → ((j : ℕ) → first ≤ j → j < after → from ≤ row_of parts.object_ends j) → ((j : ℕ) → first ≤ j → j < after → row_of parts.object_ends j < to) → RisesBetween parts.pair_objects first after
rise_in_pair parts from to first after kept single within low high =
    rise_in_row parts.object_ends parts.pair_objects first after kept.objects_rise kept.objects_counted within
    (λ k l h. omega (arith, low k l (omega arith), low (k + 1) (omega arith) h, high k l (omega arith), high (k + 1) (omega arith) h))

-- the pairs of one subject are in one row
pub rise_in_subject : (parts : PlaneParts) (s from to : ℕ) → KeepsRules parts → to ≤ length parts.pair_ends
    → ((k : ℕ) → from ≤ k → k < to → get_or parts.subjects (row_of parts.pair_ends k) 0 ≡ s) → RisesBetween parts.pair_predicates from to
rise_in_subject parts s from to kept within here =
    rise_in_row parts.pair_ends parts.pair_predicates from to kept.predicates_rise kept.predicates_counted within
    (λ k low high. subject_only parts (row_of parts.pair_ends k) (row_of parts.pair_ends (k + 1)) kept (subject_within parts k kept (omega arith)) (subject_within parts (k + 1) kept (omega arith))
    (here k low (omega arith) ∙ sym (here (k + 1) (omega arith) high)))

pub rise_in_run : (parts : PlaneParts) (s from to : ℕ) → KeepsRules parts
    → IsRun (λ k. eqb s (get_or parts.subjects (row_of parts.pair_ends k) 0)) (length parts.pair_ends) from to → RisesBetween parts.pair_predicates from to
rise_in_run parts s from to kept run =
    rise_in_subject parts s from to kept run.within (λ k low high. sym (eqb-true s (get_or parts.subjects (row_of parts.pair_ends k) 0) (run.inside k low high)))
