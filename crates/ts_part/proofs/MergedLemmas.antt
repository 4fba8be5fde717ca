-- Rising lists that are gone through, number by number.
use Rattle.std.proofs.Common.{◌≡◌, ◌≢◌, ℕ, ◌+◌, ◌<◌, true, List, [], ◌∷◌, length, get_or, refl, ap, subst, arith, inl, inr, Contains, None}
use Rattle.std.specs.List.{filter}
use Rattle.std.specs.List.Sorted.{IsStrictlyIncreasing}
use Rattle.std.proofs.lemmas.Bool.{cases_lt}
use Rattle.std.proofs.lemmas.List.{get_or_default}
use Rattle.ts_log.proofs.RisingLemmas.{rises}
use Rattle.ts_plane.specs.declared.triple.IdTriple.{IdTriple}
use Rattle.ts_plane.specs.Pattern.{walk_of}
use Rattle.ts_part.specs.Merged.{HasEach, IsReached}

higher : (xs : List ℕ) (i j : ℕ) → IsStrictlyIncreasing xs → i < j → j < length xs → get_or xs i 0 < get_or xs j 0
higher xs i j rising low within = rises xs 0 (length xs) i j (λ k a b. rising k b) (omega arith) low within

-- past the number, where it stands
pub reached_there : (xs : List ℕ) (number place : ℕ) → IsStrictlyIncreasing xs → IsReached xs number place → place < length xs → get_or xs place 0 ≡ number
    → IsReached xs (number + 1) (place + 1)
reached_there xs number place rising reached h is = record {
  within = omega arith;
  below = λ k low. elim (cases_lt k place) [
    | inl less ↦ (let b = reached.below k less in omega arith)
    | inr not ↦
        let e : k ≡ place = omega arith in
        let v = ap (λ n. get_or xs n 0) e in
        omega arith
  ];
  above = λ k high within. (let up = higher xs place k rising (omega arith) within in omega arith);
}

-- and where it doesn't
pub reached_past : (xs : List ℕ) (number place : ℕ) → IsStrictlyIncreasing xs → IsReached xs number place → (place < length xs → get_or xs place 0 ≢ number)
    → IsReached xs (number + 1) place
reached_past xs number place rising reached other = record {
  within = reached.within;
  below = λ k low. (let b = reached.below k low in omega arith);
  above = λ k high within.
      let here : place < length xs = omega arith in
      let least = reached.above place (omega arith) here in
      let not = other here in
      elim (cases_lt place k) [
        | inl less ↦ (let up = higher xs place k rising less within in omega arith)
        | inr same ↦
            let e : k ≡ place = omega arith in
            let v = ap (λ n. get_or xs n 0) e in
            omega arith
      ];
}

pub none_reached : (xs : List ℕ) (number place : ℕ) → IsStrictlyIncreasing xs → IsReached xs number place → (place < length xs → get_or xs place 0 ≢ number)
    → Contains xs number → ⊥
none_reached xs number place rising reached other has =
    let read = get_or_default xs has.0 number 0 has.1 in
    let is = has.2 in
    elim (cases_lt has.0 place) [
      | inl less ↦ (let b = reached.below has.0 less in omega arith)
      | inr behind ↦
          let past = (reached_past xs number place rising reached other).above has.0 behind has.1 in
          omega arith
    ]

-- one number more
pub each_up : (Has : ℕ → Type 0) (low before : ℕ) → HasEach Has low before → Has (before + 1) → HasEach Has low (before + 1)
each_up Has low before each here = λ number above within. elim (cases_lt number (before + 1)) [
  | inl less ↦ each number above (omega arith)
  | inr not ↦ (let e : before + 1 ≡ number = omega arith in subst Has e here)
]

-- a walk over all triples
all_pass : (xs : List IdTriple) → filter (λ t. true) xs ≡ xs
all_pass [] = refl
all_pass (x ∷ xs) = ap (λ (ys : List IdTriple). x ∷ ys) (all_pass xs)

pub walk_all : (triples : List IdTriple) → walk_of triples (record { s = None; p = None; o = None }) None ≡ triples
unfolding walk_of
walk_all triples = all_pass triples
