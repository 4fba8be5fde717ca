-- A pass down the rows, from the greatest number: what is marked and what was taken away so far.
use Rattle.std.proofs.Common.{◌≡◌, ℕ, suc, ◌+◌, ◌-◌, ◌<◌, ◌≤◌, ◌⊎◌, inl, inr, Bool, true, false, List, [], ◌∷◌, ◌++◌, length, get_or, drop, set, Option, Some, None, refl, sym, ap, ◌∙◌, subst, arith, append-nil, true≢false}
use Rattle.std.specs.Prelude.{IfSome}
use Rattle.std.specs.List.{flat_map}
use Rattle.std.proofs.lemmas.Bool.{cases_lt, cases_eq}
use Rattle.std.proofs.lemmas.Grind.{flat_map-append}
use Rattle.std.proofs.lemmas.List.{get_or-set_same, get_or-set_other, length-set, drop-set-lt, drop_all, get_or_default}
use Rattle.std.proofs.lemmas.List.Elements.{All-get_or}
use Rattle.std.proofs.Math.Seq.{drop-cons}
use Rattle.ts_purge.specs.declared.rows.LayerRow.{LayerRow}
use Rattle.ts_purge.specs.declared.rows.DropRow.{DropRow}
use Rattle.ts_purge.specs.Marks.{AreSeeds, IsMarkedIn, IsNamed, Marked, MarksOne}
use Rattle.ts_purge.specs.Plan.{drops_of}
use Rattle.ts_purge.specs.Rows.{AreRows, StandsAmong, numbers_of}
use Rattle.ts_purge.proofs.Search.{as_many, before, no_row, number_at}

-- what is marked stays marked
stays : (marks : List Bool) (place j : ℕ) → place < length marks → get_or marks j false ≡ true → get_or (set marks place true) j false ≡ true
stays marks place j below is = elim (cases_eq j place) [
  | inl same ↦ subst (λ k. get_or (set marks place true) k false ≡ true) (sym same) (get_or-set_same marks place true false below)
  | inr other ↦ get_or-set_other marks place j true false other ∙ is
]

marked_still : (numbers : List ℕ) (marks : List Bool) (place k : ℕ) → place < length marks → Marked numbers marks k → Marked numbers (set marks place true) k
marked_still numbers marks place k below was = record { place = was.place; within = was.within; is = was.is; marked = stays marks place was.place below was.marked }

-- one more of the named numbers is marked
pub seeds_more : (numbers named : List ℕ) (first : ℕ) (marks : List Bool) (place : ℕ) → place < length numbers → get_or numbers place 0 ≡ get_or named first 0
    → AreSeeds numbers named first marks → AreSeeds numbers named (first + 1) (set marks place true)
seeds_more numbers named first marks place below is seeds = record {
  long = length-set marks place true ∙ seeds.long;
  last = (λ j at. stays marks place j within (seeds.last j at));
  each = (λ at less. elim (cases_lt at first) [
    | inl old ↦ marked_still numbers marks place _ within (seeds.each at old)
    | inr new ↦ (
        let same : at ≡ first = omega arith in
        subst (λ k. Marked numbers (set marks place true) (get_or named k 0)) (sym same)
        (record { place = place; within = below; is = is; marked = get_or-set_same marks place true false within }))
  ]);
  only = (λ j now. elim (cases_eq j place) [
    | inl same ↦ inr (record { at = first; within = omega arith; is = sym is ∙ ap (λ k. get_or numbers k 0) (sym same) })
    | inr other ↦ widened j (seeds.only j (sym (get_or-set_other marks place j true false other) ∙ now))
  ]);
}
  where
    within : place < length marks
    within = omega (arith, seeds.long)

    widened : (j : ℕ) → (j + 1 ≡ length numbers) ⊎ IsNamed numbers named first j → (j + 1 ≡ length numbers) ⊎ IsNamed numbers named (first + 1) j
    widened j (inl last) = inl last
    widened j (inr one) = inr (record { at = one.at; within = (let less : one.at < first = one.within in omega arith); is = one.is })

-- the parent of the row at a place
abbrev pub parent_in : List LayerRow → ℕ → Option ℕ
parent_in rows j = (get_or rows j no_row).parent

-- a marked row has the number at a place for its parent
pub record IsParent (rows : List LayerRow) (marks : List Bool) (j : ℕ) : Type 0 where
  pub child : ℕ
  pub within : child < length rows
  pub marked : get_or marks child false ≡ true
  pub parent : parent_in rows child ≡ Some (get_or (numbers_of rows) j 0)

-- a marked place is the last, a named one, or that of a parent
abbrev pub IsReason : List LayerRow → List ℕ → List Bool → ℕ → Type 0
IsReason rows named marks j = (j + 1 ≡ length rows) ⊎ (IsNamed (numbers_of rows) named (length named) j ⊎ IsParent rows marks j)

-- the numbers without a mark, the last first
abbrev pub unmarked : List ℕ → List Bool → List ℕ
unmarked [] marks = []
unmarked (n ∷ ns) [] = unmarked ns [] ++ n ∷ []
unmarked (n ∷ ns) (true ∷ marks) = unmarked ns marks
unmarked (n ∷ ns) (false ∷ marks) = unmarked ns marks ++ n ∷ []

-- the rows from `left` on are done
pub record Pass (rows : List LayerRow) (rolled named : List ℕ) (marks : List Bool) (drops : List DropRow) (left : ℕ) : Type 0 where
  pub bound : left ≤ length rows
  pub long : length marks ≡ length rows
  pub last : (j : ℕ) → j + 1 ≡ length rows → get_or marks j false ≡ true
  pub each : (at : ℕ) → at < length named → Marked (numbers_of rows) marks (get_or named at 0)
  pub reasons : (j : ℕ) → get_or marks j false ≡ true → IsReason rows named marks j
  pub closed : (j p : ℕ) → left ≤ j → j < length rows → get_or marks j false ≡ true → parent_in rows j ≡ Some p → Marked (numbers_of rows) marks p
  pub taken : drops ≡ flat_map (drops_of rolled) (unmarked (drop left (numbers_of rows)) (drop left marks))

pub begins : (rows : List LayerRow) (rolled named : List ℕ) (marks : List Bool) → AreSeeds (numbers_of rows) named (length named) marks → Pass rows rolled named marks [] (length rows)
begins rows rolled named marks seeds = record {
  bound = omega arith;
  long = long;
  last = (λ j at. seeds.last j (omega (arith, as_many rows)));
  each = seeds.each;
  reasons = (λ j is. why j (seeds.only j is));
  closed = (λ j p from below. absurd (omega arith));
  taken = ap (λ l. flat_map (drops_of rolled) l) (sym none);
}
  where
    long : length marks ≡ length rows
    long = seeds.long ∙ as_many rows

    why : (j : ℕ) → (j + 1 ≡ length (numbers_of rows)) ⊎ IsNamed (numbers_of rows) named (length named) j → IsReason rows named marks j
    why j (inl last) = inl (last ∙ as_many rows)
    why j (inr one) = inr (inl one)

    none : unmarked (drop (length rows) (numbers_of rows)) (drop (length rows) marks) ≡ []
    none = ap (λ l. unmarked l (drop (length rows) marks)) (drop_all (length rows) (numbers_of rows) (omega (arith, as_many rows)))

-- what stands at a place of both lists, before what stands behind it
at_place : (rows : List LayerRow) (marks : List Bool) (i : ℕ) (marked : Bool) → i < length rows → length marks ≡ length rows → get_or marks i false ≡ marked
    → unmarked (drop i (numbers_of rows)) (drop i marks) ≡ unmarked (get_or (numbers_of rows) i 0 ∷ drop (suc i) (numbers_of rows)) (marked ∷ drop (suc i) marks)
at_place rows marks i marked below long is =
    ap (λ l. unmarked l (drop i marks)) (drop-cons (numbers_of rows) i 0 (omega (arith, as_many rows)))
    ∙ ap (λ l. unmarked (get_or (numbers_of rows) i 0 ∷ drop (suc i) (numbers_of rows)) l)
    (drop-cons marks i false (omega arith) ∙ ap (λ b. b ∷ drop (suc i) marks) is)

module _ (rows : List LayerRow) (rolled named : List ℕ) where
  -- a row without a mark goes
  pub takes : (marks : List Bool) (drops : List DropRow) (i : ℕ) → i < length rows → get_or marks i false ≡ false
      → Pass rows rolled named marks drops (suc i) → Pass rows rolled named marks (drops ++ drops_of rolled (get_or rows i no_row).number) i
  takes marks drops i below clear pass = record {
    bound = omega arith;
    long = pass.long;
    last = pass.last;
    each = pass.each;
    reasons = pass.reasons;
    closed = (λ j p from within is parent. elim (cases_eq i j) [
      | inl same ↦ absurd (let other : get_or marks i false ≡ true = ap (λ k. get_or marks k false) same ∙ is in true≢false (sym other ∙ clear))
      | inr other ↦ pass.closed j p (omega arith) within is parent
    ]);
    taken =
        ap (λ l. l ++ drops_of rolled (get_or rows i no_row).number) pass.taken
        ∙ ap (λ n. flat_map (drops_of rolled) rest ++ drops_of rolled n) (sym (number_at rows i no_row below))
        ∙ ap (λ l. flat_map (drops_of rolled) rest ++ l) (sym (append-nil (drops_of rolled (get_or (numbers_of rows) i 0))))
        ∙ sym (flat_map-append (drops_of rolled) rest (get_or (numbers_of rows) i 0 ∷ []))
        ∙ ap (flat_map (drops_of rolled)) (sym (at_place rows marks i false below pass.long clear));
  }
    where
      rest : List ℕ
      rest = unmarked (drop (suc i) (numbers_of rows)) (drop (suc i) marks)

  module _ (are : AreRows rows) where
    parent_below : (i p : ℕ) → i < length rows → parent_in rows i ≡ Some p → (p < (get_or rows i no_row).number) × StandsAmong rows p
    parent_below i p below is =
        subst (λ o. IfSome o (λ p. (p < (get_or rows i no_row).number) × StandsAmong rows p)) is
        (All-get_or (λ (row : LayerRow). IfSome row.parent (λ parent. (parent < row.number) × StandsAmong rows parent)) rows i no_row below are.parents)

    -- a marked row without a parent stays
    pub ends : (marks : List Bool) (drops : List DropRow) (i : ℕ) → i < length rows → get_or marks i false ≡ true → parent_in rows i ≡ None
        → Pass rows rolled named marks drops (suc i) → Pass rows rolled named marks drops i
    ends marks drops i below is base pass = record {
      bound = omega arith;
      long = pass.long;
      last = pass.last;
      each = pass.each;
      reasons = pass.reasons;
      closed = (λ j p from within marked parent. elim (cases_eq i j) [
        | inl same ↦ absurd (let other : parent_in rows i ≡ Some p = ap (λ k. parent_in rows k) same ∙ parent in cc)
        | inr other ↦ pass.closed j p (omega arith) within marked parent
      ]);
      taken = pass.taken ∙ ap (flat_map (drops_of rolled)) (sym (at_place rows marks i true below pass.long is));
    }

    -- the parent of a marked row is marked
    pub keeps : (marks new : List Bool) (drops : List DropRow) (i p : ℕ) → i < length rows → get_or marks i false ≡ true → parent_in rows i ≡ Some p
        → IsMarkedIn (numbers_of rows) p marks new → Pass rows rolled named marks drops (suc i) → Pass rows rolled named new drops i
    keeps marks new drops i p below is parent one pass = subst (λ l. Pass rows rolled named l drops i) (sym one.marked) (record {
      bound = omega arith;
      long = length-set marks place true ∙ pass.long;
      last = (λ j at. stays marks place j within (pass.last j at));
      each = (λ at less. marked_still (numbers_of rows) marks place _ within (pass.each at less));
      reasons = (λ j now. elim (cases_eq j place) [
        | inl same ↦ inr (inr (record {
          child = i;
          within = below;
          marked = still;
          parent = parent ∙ ap Some (sym one.is ∙ ap (λ k. get_or (numbers_of rows) k 0) (sym same));
        }))
        | inr other ↦ kept_reason j (pass.reasons j (sym (get_or-set_other marks place j true false other) ∙ now))
      ]);
      closed = (λ j q from inside marked its. elim (cases_eq i j) [
        | inl same ↦ (
            let equal : Some p ≡ Some q = sym parent ∙ ap (λ k. parent_in rows k) same ∙ its in
            let is_q : p ≡ q = cc in
            subst (Marked (numbers_of rows) (set marks place true)) is_q
            (record { place = place; within = one.within; is = one.is; marked = get_or-set_same marks place true false within }))
        | inr other ↦
            marked_still (numbers_of rows) marks place q within
            (pass.closed j q (omega arith) inside (sym (get_or-set_other marks place j true false (let less : place < i = lower in omega arith)) ∙ marked) its)
      ]);
      taken =
          pass.taken
          ∙ ap (λ l. flat_map (drops_of rolled) (unmarked (drop (suc i) (numbers_of rows)) l)) (sym (drop-set-lt (suc i) marks place true (let less : place < i = lower in omega arith)))
          ∙ ap (flat_map (drops_of rolled)) (sym (at_place rows (set marks place true) i true below (length-set marks place true ∙ pass.long) still));
    })
      where
        place : ℕ
        place = one.place

        within : place < length marks
        within = let inside : place < length (numbers_of rows) = one.within in omega (arith, pass.long, as_many rows)

        lower : place < i
        lower =
            let less : p < (get_or rows i no_row).number = (parent_below i p below parent).0 in
            before (numbers_of rows) place i are.rise one.within (omega (arith, as_many rows)) (omega (arith, one.is, number_at rows i no_row below))

        still : get_or (set marks place true) i false ≡ true
        still = stays marks place i within is

        kept_reason : (j : ℕ) → IsReason rows named marks j → IsReason rows named (set marks place true) j
        kept_reason j (inl last) = inl last
        kept_reason j (inr (inl one)) = inr (inl one)
        kept_reason j (inr (inr its)) = inr (inr (record { child = its.child; within = its.within; marked = stays marks place its.child within its.marked; parent = its.parent }))

    -- a marked row is done
    pub passes : (marks new : List Bool) (drops : List DropRow) (left : ℕ) (d : LayerRow) → 0 < left → get_or marks (left - 1) false ≡ true
        → MarksOne (numbers_of rows) (get_or rows (left - 1) d).parent marks new → Pass rows rolled named marks drops left → Pass rows rolled named new drops (left - 1)
    passes marks new drops left d some is one pass =
        let below : left - 1 < length rows = let bound : left ≤ length rows = pass.bound in omega arith in
        let here : Pass rows rolled named marks drops (suc (left - 1)) = subst (Pass rows rolled named marks drops) (omega arith) pass in
        by_parent (left - 1) below is here (parent_in rows (left - 1)) refl
        (subst (λ (row : LayerRow). MarksOne (numbers_of rows) row.parent marks new) (get_or_default rows (left - 1) d no_row below) one)
      where
        by_parent : (i : ℕ) → i < length rows → get_or marks i false ≡ true → Pass rows rolled named marks drops (suc i)
            → (parent : Option ℕ) → parent_in rows i ≡ parent → MarksOne (numbers_of rows) parent marks new → Pass rows rolled named new drops i
        by_parent i below is here None base same = subst (λ l. Pass rows rolled named l drops i) (sym same) (ends marks drops i below is base here)
        by_parent i below is here (Some p) parent one = keeps marks new drops i p below is parent one here

    -- and one without a mark
    pub drops_row : (marks : List Bool) (drops new : List DropRow) (left : ℕ) (d : LayerRow) → 0 < left → get_or marks (left - 1) false ≡ false
        → new ≡ drops ++ drops_of rolled (get_or rows (left - 1) d).number → Pass rows rolled named marks drops left → Pass rows rolled named marks new (left - 1)
    drops_row marks drops new left d some clear is pass =
        let below : left - 1 < length rows = let bound : left ≤ length rows = pass.bound in omega arith in
        let here : Pass rows rolled named marks drops (suc (left - 1)) = subst (Pass rows rolled named marks drops) (omega arith) pass in
        subst (λ l. Pass rows rolled named marks l (left - 1)) (sym (is ∙ ap (λ (row : LayerRow). drops ++ drops_of rolled row.number) (get_or_default rows (left - 1) d no_row below)))
        (takes marks drops (left - 1) below clear here)
