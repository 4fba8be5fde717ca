-- What a whole pass has marked is what a history keeps.
use Rattle.std.proofs.Common.{◌≡◌, ℕ, zero, suc, ◌+◌, ◌<◌, ◌≤◌, ◌==◌, ◌||◌, not, Bool, true, false, true≢false, List, [], ◌∷◌, ◌++◌, length, get_or, take, reverse, filter, Some, None, refl, sym, ap, ◌∙◌, subst, arith, ◌-◌, ◌⊎◌, inl, inr, append-nil, cond}
use Rattle.std.specs.Prelude.{IfSome}
use Rattle.std.specs.List.{flat_map}
use Rattle.std.proofs.lemmas.Bool.{cases_lt, cases_eq}
use Rattle.std.proofs.lemmas.Bool.Decides.{nat_tests}
use Rattle.std.proofs.lemmas.Grind.{get_or_default_zero, reverse_onto}
use Rattle.std.proofs.lemmas.List.{get_or-reverse, get_or_past, length-reverse, take_more}
use Rattle.ts_model.proofs.HistoryLaws.{chain_within-none}
use Rattle.std.proofs.lemmas.List.Elements.{All-get_or, filter-append}
use Rattle.std.proofs.lemmas.List.Folds.{Any-from_list_any, list_any_at}
use Rattle.ts_model.specs.History.{History, parent_at, chain_within, chain_of}
use Rattle.ts_purge.specs.declared.rows.LayerRow.{LayerRow}
use Rattle.ts_purge.specs.declared.rows.DropRow.{DropRow}
use Rattle.ts_purge.specs.Marks.{IsNamed, Marked}
use Rattle.ts_purge.specs.Plan.{drops_of, is_among, is_kept, plan_of, roots_of}
use Rattle.ts_purge.specs.Rows.{AreRows, AreRowsOf, StandsAmong, numbers_of}
use Rattle.ts_purge.proofs.Pass.{IsParent, IsReason, Pass, parent_in, unmarked}
use Rattle.ts_purge.proofs.Search.{as_many, before, no_row, number_at, one_place}

-- two tests that hold together are one
same_test : (a b : Bool) → (a ≡ true → b ≡ true) → (b ≡ true → a ≡ true) → a ≡ b
same_test true b there back = sym (there refl)
same_test false true there back = back refl
same_test false false there back = refl

is_same : (a b : ℕ) → a ≡ b → (a == b) ≡ true
is_same a b same = grind (arith, nat_tests)

among_head : (k : ℕ) (xs : List ℕ) → is_among (k ∷ xs) k ≡ true
among_head k xs = ap (λ b. b || is_among xs k) (is_same k k refl)

among_tail : (x k : ℕ) (xs : List ℕ) → is_among xs k ≡ true → is_among (x ∷ xs) k ≡ true
among_tail x k xs is = elim (x == k) as (λ b. (b || is_among xs k) ≡ true) [ true ↦ refl | false ↦ is ]

among_cases : (x k : ℕ) (xs : List ℕ) → is_among (x ∷ xs) k ≡ true → (x ≡ k) ⊎ (is_among xs k ≡ true)
among_cases x k xs is = elim (cases_eq x k) [
  | inl same ↦ inl same
  | inr other ↦ inr (let no : (x == k) ≡ false = grind (arith, nat_tests) in sym (ap (λ b. b || is_among xs k) no) ∙ is)
]

-- the last number alone is at the front of the reversed numbers
last_first : (xs : List ℕ) (j : ℕ) → j + 1 ≡ length xs → take 1 (reverse xs) ≡ get_or xs j 0 ∷ []
last_first xs j at =
    take_more (reverse xs) 0 0 (omega (arith, length-reverse xs))
    ∙ ap (λ n. n ∷ []) (get_or-reverse xs 0 0 (omega arith) ∙ ap (λ k. get_or xs k 0) (omega arith))

module _ (history : History) (rows : List LayerRow) (are : AreRows rows) (its : AreRowsOf history rows) where
  abbrev numbers : List ℕ
  numbers = numbers_of rows

  abbrev number : ℕ → ℕ
  number j = get_or (numbers_of rows) j 0

  positive : (j : ℕ) → j < length rows → 1 ≤ number j
  positive j below = subst (λ n. 1 ≤ n) (sym (number_at rows j no_row below)) (All-get_or (λ (row : LayerRow). 1 ≤ row.number) rows j no_row below are.numbered)

  parent_is : (j : ℕ) → j < length rows → parent_at history (number j) ≡ parent_in rows j
  parent_is j below =
      ap (parent_at history) (number_at rows j no_row below)
      ∙ All-get_or (λ (row : LayerRow). parent_at history row.number ≡ row.parent) rows j no_row below its.parents

  -- where a parent stands
  record Place (j p : ℕ) : Type 0 where
    place : ℕ
    within : place < length rows
    is : number place ≡ p
    less : p < number j

  parent_place : (j p : ℕ) → j < length rows → parent_in rows j ≡ Some p → Place j p
  parent_place j p below is =
      let rule : IfSome (parent_in rows j) (λ p. (p < (get_or rows j no_row).number) × StandsAmong rows p) =
      All-get_or (λ (row : LayerRow). IfSome row.parent (λ parent. (parent < row.number) × StandsAmong rows parent)) rows j no_row below are.parents in
      let found : (p < (get_or rows j no_row).number) × StandsAmong rows p = subst (λ o. IfSome o (λ p. (p < (get_or rows j no_row).number) × StandsAmong rows p)) is rule in
      record {
        place = found.1.0;
        within = omega (arith, as_many rows, found.1.1);
        is = sym (get_or_default_zero numbers found.1.0 p found.1.1) ∙ found.1.2;
        less = subst (λ n. p < n) (sym (number_at rows j no_row below)) found.0;
      }

  -- a chain of a layer that stands begins with it
  chain_is : (most j : ℕ) → j < length rows → chain_within (suc most) history (Some (number j)) ≡ number j ∷ chain_within most history (parent_in rows j)
  chain_is most j below = ap (λ o. number j ∷ chain_within most history o) (parent_is j below)

  none_among : (most k : ℕ) → is_among (chain_within most history None) k ≡ true → ⊥
  none_among most k is = true≢false (sym is ∙ ap (λ l. is_among l k) (chain_within-none most history))

  begins_with : (most p : ℕ) → 1 ≤ p → p ≤ most → is_among (chain_within most history (Some p)) p ≡ true
  begins_with zero p some enough = absurd (omega arith)
  begins_with (suc most) p some enough = among_head p (chain_within most history (parent_at history p))

  -- a layer of a chain is its first, or in the chain of the first one's parent
  chain_cases : (most i k : ℕ) → i < length rows → is_among (chain_within (suc most) history (Some (number i))) k ≡ true
      → (number i ≡ k) ⊎ (is_among (chain_within most history (parent_in rows i)) k ≡ true)
  chain_cases most i k below is = among_cases (number i) k (chain_within most history (parent_in rows i)) (sym (ap (λ l. is_among l k) (chain_is most i below)) ∙ is)

  -- the parent of a layer of a chain is in the chain
  climbs : (most i k p : ℕ) → i < length rows → number i ≤ most → is_among (chain_within most history (Some (number i))) k ≡ true
      → parent_at history k ≡ Some p → 1 ≤ p → is_among (chain_within most history (Some (number i))) p ≡ true
  climbs zero i k p below enough is parent some = absurd (let low = positive i below in omega arith)
  climbs (suc most) i k p below enough is parent some =
      ap (λ l. is_among l p) (chain_is most i below)
      ∙ among_tail (number i) p (chain_within most history (parent_in rows i)) (elim (chain_cases most i k below is) [
        | inl same ↦
            let here : parent_in rows i ≡ Some p = sym (parent_is i below) ∙ ap (parent_at history) same ∙ parent in
            let low : p < number i = (parent_place i p below here).less in
            ap (λ o. is_among (chain_within most history o) p) here ∙ begins_with most p some (omega arith)
        | inr later ↦ elim (parent_in rows i) as (λ o. parent_in rows i ≡ o → is_among (chain_within most history o) k ≡ true → is_among (chain_within most history o) p ≡ true) [
          | None ↦ λ e h. absurd (none_among most k h)
          | Some q ↦ λ e h.
              let at = parent_place i q below e in
              let low : q < number i = at.less in
              let is_q : number at.place ≡ q = at.is in
              ap (λ n. is_among (chain_within most history (Some n)) p) (sym at.is)
              ∙ climbs most at.place k p at.within (omega arith) (ap (λ n. is_among (chain_within most history (Some n)) k) at.is ∙ h) parent some
        ] refl later
      ])

  -- a layer of a chain is marked, where each parent of a marked one is
  reaches : (marks : List Bool) → ((j p : ℕ) → j < length rows → get_or marks j false ≡ true → parent_in rows j ≡ Some p → Marked numbers marks p)
      → (most i k : ℕ) → i < length rows → get_or marks i false ≡ true → number i ≤ most
      → is_among (chain_within most history (Some (number i))) k ≡ true → Marked numbers marks k
  reaches marks closed zero i k below marked enough is = absurd (let low = positive i below in omega arith)
  reaches marks closed (suc most) i k below marked enough is = elim (chain_cases most i k below is) [
    | inl same ↦ record { place = i; within = omega (arith, as_many rows); is = same; marked = marked }
    | inr later ↦ elim (parent_in rows i) as (λ o. parent_in rows i ≡ o → is_among (chain_within most history o) k ≡ true → Marked numbers marks k) [
      | None ↦ λ e h. absurd (none_among most k h)
      | Some q ↦ λ e h.
          let low : q < number i = (parent_place i q below e).less in
          let its = closed i q below marked e in
          let is_q : number its.place ≡ q = its.is in
          reaches marks closed most its.place k (let inside : its.place < length numbers = its.within in omega (arith, as_many rows)) its.marked (omega arith)
          (ap (λ n. is_among (chain_within most history (Some n)) k) is_q ∙ h)
    ] refl later
  ]

  -- a marked place is a root's or that of a marked row's parent, and roots and the parents of marked rows are marked
  record Whole (roots : List ℕ) (marks : List Bool) : Type 0 where
    long : length marks ≡ length rows
    rooted : (at : ℕ) → at < length roots → Marked numbers marks (get_or roots at 0)
    reasons : (j : ℕ) → get_or marks j false ≡ true → IsNamed numbers roots (length roots) j ⊎ IsParent rows marks j
    closed : (j p : ℕ) → j < length rows → get_or marks j false ≡ true → parent_in rows j ≡ Some p → Marked numbers marks p

  module _ (roots : List ℕ) (marks : List Bool) (whole : Whole roots marks) where
    keeps : ℕ → Bool
    keeps k = is_kept history roots k

    inside : (j : ℕ) → get_or marks j false ≡ true → j < length rows
    inside j is = elim (cases_lt j (length rows)) [
      | inl below ↦ below
      | inr past ↦ absurd (true≢false (sym is ∙ get_or_past marks j false (let long : length marks ≡ length rows = whole.long in omega arith)))
    ]

    kept_by : (at k : ℕ) → at < length roots → is_among (chain_of history (get_or roots at 0)) k ≡ true → is_kept history roots k ≡ true
    kept_by at k below is = list_any_at (λ root. is_among (chain_of history root) k) roots at 0 below is

    -- by which root a layer is kept
    record By (k : ℕ) : Type 0 where
      at : ℕ
      below : at < length roots
      chain : is_among (chain_of history (get_or roots at 0)) k ≡ true

    by_root : (k : ℕ) → is_kept history roots k ≡ true → By k
    by_root k is =
        let any = Any-from_list_any (λ root. is_among (chain_of history root) k) roots is in
        record {
          at = any.0;
          below = any.2;
          chain = ap (λ root. is_among (chain_of history root) k) (sym (get_or_default_zero roots any.0 any.1 any.2) ∙ any.3) ∙ any.4;
        }

    -- what is kept is marked
    complete : (k : ℕ) → is_kept history roots k ≡ true → Marked numbers marks k
    complete k is =
        let by = by_root k is in
        let root = whole.rooted by.at by.below in
        let below : root.place < length rows = let inside : root.place < length numbers = root.within in omega (arith, as_many rows) in
        reaches marks whole.closed (number root.place) root.place k below root.marked (omega arith)
        (ap (λ n. is_among (chain_of history n) k) root.is ∙ by.chain)

    -- what is marked is kept
    sound : (fuel j : ℕ) → length rows ≤ j + fuel → get_or marks j false ≡ true → is_kept history roots (number j) ≡ true
    sound zero j enough is = absurd (let below = inside j is in omega arith)
    sound (suc fuel) j enough is = elim (whole.reasons j is) [
      | inl root ↦
          kept_by root.at (number j) root.within
          (ap (λ n. is_among (chain_of history n) (number j)) root.is ∙ begins_with (number j) (number j) (positive j (inside j is)) (omega arith))
      | inr child ↦
          let c : ℕ = child.child in
          let place = parent_place c (number j) child.within child.parent in
          let later : j < c = before numbers j c are.rise (omega (arith, as_many rows, inside j is)) (let within : c < length rows = child.within in omega (arith, as_many rows)) place.less in
          let by = by_root (number c) (sound fuel c (omega arith) child.marked) in
          let root = whole.rooted by.at by.below in
          let below : root.place < length rows = let inside : root.place < length numbers = root.within in omega (arith, as_many rows) in
          let up : is_among (chain_of history (number root.place)) (number j) ≡ true =
          climbs (number root.place) root.place (number c) (number j) below (omega arith)
          (ap (λ n. is_among (chain_of history n) (number c)) root.is ∙ by.chain) (parent_is c child.within ∙ child.parent) (positive j (inside j is)) in
          kept_by by.at (number j) by.below (ap (λ n. is_among (chain_of history n) (number j)) (sym root.is) ∙ up)
    ]

    marks_are : (j : ℕ) → j < length numbers → get_or marks j false ≡ is_kept history roots (number j)
    marks_are j below = same_test (get_or marks j false) (is_kept history roots (number j))
        (sound (length rows) j (omega arith))
        (λ is.
        let at = complete (number j) is in
        subst (λ k. get_or marks k false ≡ true) (one_place numbers at.place j are.rise at.within below at.is) at.marked)

-- the numbers without a mark are those that a test refuses
unmarked_are : (test : ℕ → Bool) (ns : List ℕ) (marks : List Bool) → length marks ≡ length ns → ((j : ℕ) → j < length ns → get_or marks j false ≡ test (get_or ns j 0))
    → unmarked ns marks ≡ filter (λ k. not (test k)) (reverse ns)
unmarked_are test [] marks long same = refl
unmarked_are test (n ∷ ns) [] long same = absurd (omega arith)
unmarked_are test (n ∷ ns) (m ∷ marks) long same =
    let rest : unmarked ns marks ≡ filter (λ k. not (test k)) (reverse ns) = unmarked_are test ns marks (omega arith) (λ j below. same (suc j) (omega arith)) in
    front m (same 0 (omega arith)) ∙ ap (λ l. l ++ filter (λ k. not (test k)) (n ∷ [])) rest
    ∙ sym (ap (filter (λ k. not (test k))) (reverse_onto ns n []) ∙ filter-append (λ k. not (test k)) (reverse ns) (n ∷ []))
  where
    front : (m : Bool) → m ≡ test n → unmarked (n ∷ ns) (m ∷ marks) ≡ unmarked ns marks ++ filter (λ k. not (test k)) (n ∷ [])
    front true is = sym (append-nil (unmarked ns marks)) ∙ ap (λ b. unmarked ns marks ++ cond (not b) (n ∷ []) []) is
    front false is = ap (λ b. unmarked ns marks ++ cond (not b) (n ∷ []) []) is

no_number : (xs : List ℕ) → length xs ≡ 0 → xs ≡ []
no_number [] none = refl
no_number (x ∷ xs) none = absurd (omega arith)

module _ (history : History) (rows : List LayerRow) (are : AreRows rows) (its : AreRowsOf history rows) where
  module _ (rolled named : List ℕ) (marks : List Bool) (drops : List DropRow) (pass : Pass rows rolled named marks drops 0) where
    -- the newest layer and the named ones are the roots
    some_rows : (j : ℕ) → j + 1 ≡ length rows → Whole history rows are its (get_or (numbers_of rows) j 0 ∷ named) marks
    some_rows j at = record {
      long = pass.long;
      rooted = rooted;
      reasons = (λ i is. why i (pass.reasons i is));
      closed = (λ i p below. pass.closed i p (omega arith) below);
    }
      where
        rooted : (k : ℕ) → k < length (get_or (numbers_of rows) j 0 ∷ named) → Marked (numbers_of rows) marks (get_or (get_or (numbers_of rows) j 0 ∷ named) k 0)
        rooted zero below = record { place = j; within = omega (arith, as_many rows); is = refl; marked = pass.last j at }
        rooted (suc k) below = pass.each k (omega arith)

        why : (i : ℕ) → IsReason rows named marks i
            → IsNamed (numbers_of rows) (get_or (numbers_of rows) j 0 ∷ named) (length (get_or (numbers_of rows) j 0 ∷ named)) i ⊎ IsParent rows marks i
        why i (inl last) = inl (record { at = 0; within = omega arith; is = ap (λ k. get_or (numbers_of rows) k 0) (omega arith) })
        why i (inr (inl one)) = inl (record { at = suc one.at; within = (let below : one.at < length named = one.within in omega arith); is = one.is })
        why i (inr (inr child)) = inr child

    no_rows : length rows ≡ 0 → Whole history rows are its named marks
    no_rows none = record {
      long = pass.long;
      rooted = pass.each;
      reasons = (λ i is. why i (pass.reasons i is));
      closed = (λ i p below. pass.closed i p (omega arith) below);
    }
      where
        why : (i : ℕ) → IsReason rows named marks i → IsNamed (numbers_of rows) named (length named) i ⊎ IsParent rows marks i
        why i (inl last) = absurd (omega arith)
        why i (inr other) = other

    whole : Whole history rows are its (roots_of history named) marks
    whole = elim (cases_eq (length rows) 0) [
      | inl none ↦ subst (λ roots. Whole history rows are its roots marks) (sym (roots ∙ ap (λ ks. take 1 (reverse ks) ++ named) (no_number (numbers_of rows) (omega (arith, as_many rows))))) (no_rows none)
      | inr some ↦
          let j : ℕ = length rows - 1 in
          let at : j + 1 ≡ length rows = omega arith in
          subst (λ roots. Whole history rows are its roots marks) (sym (roots ∙ ap (λ l. l ++ named) (last_first (numbers_of rows) j (omega (arith, as_many rows))))) (some_rows j at)
    ]
      where
        roots : roots_of history named ≡ take 1 (reverse (numbers_of rows)) ++ named
        roots = ap (λ ks. take 1 (reverse ks) ++ named) its.numbers

    -- what a whole pass has taken away is the plan
    pub plan_is : drops ≡ plan_of history rolled named
    plan_is =
        pass.taken
        ∙ ap (flat_map (drops_of rolled))
        (unmarked_are (is_kept history (roots_of history named)) (numbers_of rows) marks (pass.long ∙ sym (as_many rows)) (marks_are history rows are its (roots_of history named) marks whole)
        ∙ ap (λ ks. filter (λ k. not (is_kept history (roots_of history named) k)) (reverse ks)) (sym its.numbers))
