-- Two rising lists that are gone through side by side.
use Rattle.std.proofs.Common.{◌≡◌, Bool, true, false, not, ◌||◌, cond, List, [], ◌∷◌, ◌++◌, Option, Some, None, refl, sym, ap, ◌∙◌, subst, true≢false}
use Rattle.std.specs.declared.cmp.Ordering.{Ordering}
use Rattle.std.specs.declared.cmp.Ordering.TheVariants.{Less, Equal, Greater}
use Rattle.std.specs.Iterator.{YieldsFirst}
use Rattle.std.specs.Ordering.{eq_by_cmp, is_eq, is_lt, ordering_reverse}
use Rattle.std.specs.Cmp.{tied_itself}
use Rattle.std.specs.List.{AllByRecursion}
use Rattle.std.proofs.lemmas.List.{append-nil, append_assoc}
use Rattle.std.proofs.lemmas.List.Folds.{list_any-append}
use Rattle.std.proofs.lemmas.Map.Keys.{sorted_head, sorted_tail}
use Rattle.ts_plane.specs.declared.triple.IdTriple.{IdTriple}
use Rattle.ts_plane.specs.Triple.{IsRising, triple_cmp}
use Rattle.ts_part.proofs.Ranks.{each_weaker}
use Rattle.ts_part.proofs.RisingLists.{filter-agree, filter-every}
use Rattle.ts_chain.specs.Content.{has}
use Rattle.ts_chain.proofs.IdOrder.{triple_cmp_total, triple_cmp-IsAntisymmetric}
use Rattle.ts_rollup.specs.Rolled.{beyond}
use Rattle.ts_rollup.specs.Waiting.{AreWaiting, below, from, waiting}

-- ---- order

-- each is above a triple
abbrev pub Above : IdTriple → List IdTriple → Type 0
Above a xs = AllByRecursion (λ x. triple_cmp a x ≡ Less) xs

lt_is : (r : Ordering) → is_lt r ≡ true → r ≡ Less
lt_is Less e = refl
lt_is Equal e = absurd (true≢false (sym e))
lt_is Greater e = absurd (true≢false (sym e))

equal_is : (r : Ordering) → is_eq r ≡ true → r ≡ Equal
equal_is Less e = absurd (true≢false (sym e))
equal_is Equal e = refl
equal_is Greater e = absurd (true≢false (sym e))

back : (x y : IdTriple) → triple_cmp x y ≡ Less → triple_cmp y x ≡ Greater
back x y less = triple_cmp_total.antisymm y x ∙ ap ordering_reverse less

differ_less : (x y : IdTriple) → triple_cmp x y ≡ Less → eq_by_cmp triple_cmp x y ≡ false
differ_less x y less = ap is_eq less

differ_more : (x y : IdTriple) → triple_cmp y x ≡ Less → eq_by_cmp triple_cmp x y ≡ false
differ_more x y less = ap is_eq (back y x less)

no_lt : (x y : IdTriple) → triple_cmp y x ≡ Less → is_lt (triple_cmp x y) ≡ false
no_lt x y less = ap is_lt (back y x less)

-- what isn't below a triple and isn't it, is above it
above_other : (a t : IdTriple) → is_lt (triple_cmp t a) ≡ false → eq_by_cmp triple_cmp t a ≡ false → triple_cmp a t ≡ Less
above_other a t low other = by (triple_cmp t a) refl
  where
    by : (r : Ordering) → triple_cmp t a ≡ r → triple_cmp a t ≡ Less
    by Less e = absurd (true≢false (sym (ap is_lt e) ∙ low))
    by Equal e = absurd (true≢false (sym (ap is_eq e) ∙ other))
    by Greater e = triple_cmp_total.antisymm a t ∙ ap ordering_reverse e

-- none of those above a triple is it, or one below it
lacks_it : (a : IdTriple) (xs : List IdTriple) → Above a xs → has xs a ≡ false
lacks_it a [] h = refl
lacks_it a (x ∷ xs) h = ap (λ b. b || has xs a) (differ_less a x h.0) ∙ lacks_it a xs h.1

lacks_below : (a t : IdTriple) (xs : List IdTriple) → triple_cmp t a ≡ Less → Above a xs → has xs t ≡ false
lacks_below a t xs less h = lacks_it t xs (each_weaker (λ x. triple_cmp a x ≡ Less) (λ x. triple_cmp t x ≡ Less) (λ x more. triple_cmp_total.trans t a x less more) xs h)

-- ---- those below a triple, and the others

split_below : (a : IdTriple) (xs : List IdTriple) → AllByRecursion (λ x. triple_cmp x a ≡ Less) (below a xs)
split_below a [] = tt
split_below a (x ∷ xs) =
    elim (is_lt (triple_cmp x a)) as (λ b. is_lt (triple_cmp x a) ≡ b → AllByRecursion (λ x. triple_cmp x a ≡ Less) (cond b (x ∷ below a xs) (below a xs))) [
      | true ↦ λ e. (lt_is (triple_cmp x a) e, split_below a xs)
      | false ↦ λ e. split_below a xs
    ] refl

-- all behind a triple that isn't below are not
none_below : (a t : IdTriple) (xs : List IdTriple) → is_lt (triple_cmp t a) ≡ false → Above t xs → AllByRecursion (λ x. is_lt (triple_cmp x a) ≡ false) xs
none_below a t xs low h = each_weaker (λ x. triple_cmp t x ≡ Less) (λ x. is_lt (triple_cmp x a) ≡ false) (λ x more. by x more (is_lt (triple_cmp x a)) refl) xs h
  where
    by : (x : IdTriple) → triple_cmp t x ≡ Less → (b : Bool) → is_lt (triple_cmp x a) ≡ b → is_lt (triple_cmp x a) ≡ false
    by x more true e = absurd (true≢false (sym (ap is_lt (triple_cmp_total.trans t x a more (lt_is (triple_cmp x a) e))) ∙ low))
    by x more false e = e

below_none : (a : IdTriple) (xs : List IdTriple) → AllByRecursion (λ x. is_lt (triple_cmp x a) ≡ false) xs → below a xs ≡ []
below_none a [] h = refl
below_none a (x ∷ xs) h = (λ i. cond (h.0 i) (x ∷ below a xs) (below a xs)) ∙ below_none a xs h.1

from_all : (a : IdTriple) (xs : List IdTriple) → AllByRecursion (λ x. is_lt (triple_cmp x a) ≡ false) xs → from a xs ≡ xs
from_all a xs h = filter-every (λ x. not (is_lt (triple_cmp x a))) xs (each_weaker (λ x. is_lt (triple_cmp x a) ≡ false) (λ x. not (is_lt (triple_cmp x a)) ≡ true) (λ x e. ap not e) xs h)

-- a rising list is those below a triple and then the others
pub both_parts : (a : IdTriple) (xs : List IdTriple) → IsRising xs → xs ≡ below a xs ++ from a xs
both_parts a [] rise = refl
both_parts a (x ∷ xs) rise =
    elim (is_lt (triple_cmp x a)) as (λ b. is_lt (triple_cmp x a) ≡ b → (x ∷ xs) ≡ cond b (x ∷ below a xs) (below a xs) ++ cond (not b) (x ∷ from a xs) (from a xs)) [
      | true ↦ λ e. ap (λ l. x ∷ l) (both_parts a xs (sorted_tail triple_cmp x xs rise))
      | false ↦ λ e.
          let later = none_below a x xs e (sorted_head triple_cmp x xs rise) in
          sym ((λ i. below_none a xs later i ++ x ∷ from_all a xs later i))
    ] refl

-- ---- a walk whose next is taken

pub taken : (old new : List IdTriple) (next : Option IdTriple) → IsRising old → YieldsFirst (λ (items : List IdTriple). items) old next new → AreWaiting next new × (waiting next new ≡ old)
taken old new None rise step = (record { rising = subst IsRising (step.0 ∙ sym step.1) rise; ended = λ e. step.1 }, step.1 ∙ sym step.0)
taken old new (Some t) rise step = (record { rising = subst IsRising step rise; ended = λ e. (let none : ⊥ = cc in absurd none) }, sym step)

pub behind_rises : (t : IdTriple) (rest : List IdTriple) → AreWaiting (Some t) rest → IsRising rest
behind_rises t rest waits = sorted_tail triple_cmp t rest waits.rising

pub record IsPassing (limit : IdTriple) (start before : List IdTriple) (next : Option IdTriple) (rest lost : List IdTriple) : Type 0 where
  pub waits : AreWaiting next rest
  pub left : from limit (waiting next rest) ≡ from limit start
  pub passed : lost ++ below limit (waiting next rest) ≡ before ++ below limit start

pub passing_starts : (limit : IdTriple) (before : List IdTriple) (next : Option IdTriple) (rest : List IdTriple) → AreWaiting next rest → IsPassing limit (waiting next rest) before next rest before
passing_starts limit before next rest waits = record { waits = waits; left = refl; passed = refl }

module _ (limit : IdTriple) (start before : List IdTriple) (t : IdTriple) (rest lost : List IdTriple) (is : IsPassing limit start before (Some t) rest lost) where
  -- a triple below is passed
  pub passes : is_lt (triple_cmp t limit) ≡ true → (next : Option IdTriple) (new more : List IdTriple) → YieldsFirst (λ (items : List IdTriple). items) rest next new → more ≡ lost ++ t ∷ []
      → IsPassing limit start before next new more
  passes low next new more step pushed =
      let moved = taken rest new next (behind_rises t rest is.waits) step in
      record {
        waits = moved.0;
        left = ap (from limit) moved.1 ∙ sym (λ i. cond (not (low i)) (t ∷ from limit rest) (from limit rest)) ∙ is.left;
        passed =
            (λ i. pushed i ++ below limit (moved.1 i))
            ∙ append_assoc lost (t ∷ []) (below limit rest)
            ∙ ap (λ l. lost ++ l) (sym (λ i. cond (low i) (t ∷ below limit rest) (below limit rest)))
            ∙ is.passed;
      }

  -- and no triple behind one that isn't
  pub passed_all : is_lt (triple_cmp t limit) ≡ false → (waiting (Some t) rest ≡ from limit start) × (lost ≡ before ++ below limit start)
  passed_all low =
      let later = none_below limit t rest low (sorted_head triple_cmp t rest is.waits.rising) in (
        sym (from_all limit (t ∷ rest) (low, later)) ∙ is.left,
        sym (append-nil lost) ∙ ap (λ l. lost ++ l) (sym (below_none limit (t ∷ rest) (low, later))) ∙ is.passed,
      )

pub passed_end : (limit : IdTriple) (start before rest lost : List IdTriple) → IsPassing limit start before None rest lost → (waiting None rest ≡ from limit start) × (lost ≡ before ++ below limit start)
passed_end limit start before rest lost is =
    let none = is.waits.ended refl in (
      none ∙ sym (ap (from limit) none) ∙ is.left,
      sym (append-nil lost) ∙ ap (λ l. lost ++ l) (sym (ap (below limit) none)) ∙ is.passed,
    )

-- ---- a turn of the comparison

beyond-append : (xs ys those : List IdTriple) → beyond (xs ++ ys) those ≡ beyond xs those ++ beyond ys those
beyond-append [] ys those = refl
beyond-append (x ∷ xs) ys those =
    elim (not (has those x)) as (λ b. cond b (x ∷ beyond (xs ++ ys) those) (beyond (xs ++ ys) those) ≡ cond b (x ∷ beyond xs those) (beyond xs those) ++ beyond ys those) [
      | true ↦ ap (λ l. x ∷ l) (beyond-append xs ys those)
      | false ↦ beyond-append xs ys those
    ]

beyond_all : (xs those : List IdTriple) → AllByRecursion (λ x. has those x ≡ false) xs → beyond xs those ≡ xs
beyond_all xs those h = filter-every (λ x. not (has those x)) xs (each_weaker (λ x. has those x ≡ false) (λ x. not (has those x) ≡ true) (λ x e. ap not e) xs h)

beyond_same : (xs these those : List IdTriple) → AllByRecursion (λ x. has these x ≡ has those x) xs → beyond xs these ≡ beyond xs those
beyond_same xs these those h =
    filter-agree (λ x. not (has these x)) (λ x. not (has those x)) xs (each_weaker (λ x. has these x ≡ has those x) (λ x. not (has these x) ≡ not (has those x)) (λ x e. ap not e) xs h)

-- a triple in front is no matter to those above it
front_of : (a x : IdTriple) (xs : List IdTriple) → triple_cmp a x ≡ Less → has (a ∷ xs) x ≡ has xs x
front_of a x xs less = ap (λ b. b || has xs x) (differ_more x a less)

-- those below a triple are no matter to it, nor to those above it
lower_of : (a x : IdTriple) (low : List IdTriple) → AllByRecursion (λ y. triple_cmp y a ≡ Less) low → is_lt (triple_cmp x a) ≡ false → has low x ≡ false
lower_of a x [] h other = refl
lower_of a x (y ∷ low) h other = ap (λ b. b || has low x) (by (triple_cmp x y) refl) ∙ lower_of a x low h.1 other
  where
    by : (r : Ordering) → triple_cmp x y ≡ r → eq_by_cmp triple_cmp x y ≡ false
    by Less e = ap is_eq e
    by Greater e = ap is_eq e
    by Equal e = absurd (true≢false (sym (ap is_lt (ap (λ z. triple_cmp z a) (triple_cmp-IsAntisymmetric x y e) ∙ h.0)) ∙ other))

module _ (a : IdTriple) (r w : List IdTriple) (rise : IsRising (a ∷ r)) (others : IsRising w) where
  above_a : Above a r
  above_a = sorted_head triple_cmp a r rise

  -- of the others those below are passed
  split_other : beyond w (a ∷ r) ≡ below a w ++ beyond (from a w) (a ∷ r)
  split_other =
      ap (λ l. beyond l (a ∷ r)) (both_parts a w others)
      ∙ beyond-append (below a w) (from a w) (a ∷ r)
      ∙ ap (λ l. l ++ beyond (from a w) (a ∷ r))
      (beyond_all (below a w) (a ∷ r)
      (each_weaker (λ x. triple_cmp x a ≡ Less) (λ x. has (a ∷ r) x ≡ false) (λ x less. ap (λ b. b || has r x) (differ_less x a less) ∙ lacks_below a x r less above_a) (below a w) (split_below a w)))

  -- and are no matter to these
  has_from : (x : IdTriple) → is_lt (triple_cmp x a) ≡ false → has w x ≡ has (from a w) x
  has_from x other =
      ap (λ l. has l x) (both_parts a w others)
      ∙ list_any-append (eq_by_cmp triple_cmp x) (below a w) (from a w)
      ∙ ap (λ b. b || has (from a w) x) (lower_of a x (below a w) (split_below a w) other)

  itself : is_lt (triple_cmp a a) ≡ false
  itself = ap is_lt (tied_itself triple_cmp_total a)

  same_from : beyond (a ∷ r) w ≡ beyond (a ∷ r) (from a w)
  same_from =
      beyond_same (a ∷ r) w (from a w)
      (has_from a itself, each_weaker (λ x. triple_cmp a x ≡ Less) (λ x. has w x ≡ has (from a w) x) (λ x more. has_from x (no_lt x a more)) r above_a)

  -- the triple stands in both
  module _ (rest : List IdTriple) (here : from a w ≡ a ∷ rest) (rest_above : Above a rest) where
    pub shared_gained : beyond (a ∷ r) w ≡ beyond r rest
    shared_gained =
        same_from
        ∙ ap (beyond (a ∷ r)) here
        ∙ (λ i. cond (not (ap (λ b. b || has rest a) (ap is_eq (tied_itself triple_cmp_total a)) i)) (a ∷ beyond r (a ∷ rest)) (beyond r (a ∷ rest)))
        ∙ beyond_same r (a ∷ rest) rest (each_weaker (λ x. triple_cmp a x ≡ Less) (λ x. has (a ∷ rest) x ≡ has rest x) (λ x more. front_of a x rest more) r above_a)

    pub shared_lost : beyond w (a ∷ r) ≡ below a w ++ beyond rest r
    shared_lost =
        split_other
        ∙ ap (λ l. below a w ++ l)
        (ap (λ l. beyond l (a ∷ r)) here
        ∙ (λ i. cond (not (ap (λ b. b || has r a) (ap is_eq (tied_itself triple_cmp_total a)) i)) (a ∷ beyond rest (a ∷ r)) (beyond rest (a ∷ r)))
        ∙ beyond_same rest (a ∷ r) r (each_weaker (λ x. triple_cmp a x ≡ Less) (λ x. has (a ∷ r) x ≡ has r x) (λ x more. front_of a x r more) rest rest_above))

  -- or in these alone
  module _ (rest : List IdTriple) (here : from a w ≡ rest) (rest_above : Above a rest) where
    pub own_gained : beyond (a ∷ r) w ≡ a ∷ beyond r rest
    own_gained =
        same_from
        ∙ ap (beyond (a ∷ r)) here
        ∙ (λ i. cond (not (lacks_it a rest rest_above i)) (a ∷ beyond r rest) (beyond r rest))

    pub own_lost : beyond w (a ∷ r) ≡ below a w ++ beyond rest r
    own_lost =
        split_other
        ∙ ap (λ l. below a w ++ l)
        (ap (λ l. beyond l (a ∷ r)) here
        ∙ beyond_same rest (a ∷ r) r (each_weaker (λ x. triple_cmp a x ≡ Less) (λ x. has (a ∷ r) x ≡ has r x) (λ x more. front_of a x r more) rest rest_above))

pub record IsComparing (upper lower : List IdTriple) (next : Option IdTriple) (rest still gained lost : List IdTriple) : Type 0 where
  pub waits : AreWaiting next rest
  pub rising : IsRising still
  pub gained_so : gained ++ beyond still (waiting next rest) ≡ beyond upper lower
  pub lost_so : lost ++ beyond (waiting next rest) still ≡ beyond lower upper

pub comparing_starts : (upper lower rest : List IdTriple) (next : Option IdTriple) → IsRising upper → IsRising lower → YieldsFirst (λ (items : List IdTriple). items) lower next rest
    → IsComparing upper lower next rest upper [] []
comparing_starts upper lower rest next rise others step =
    let moved = taken lower rest next others step in
    record { waits = moved.0; rising = rise; gained_so = ap (beyond upper) moved.1; lost_so = ap (λ l. beyond l upper) moved.1 }

module _ (upper lower : List IdTriple) (a : IdTriple) (next : Option IdTriple) (rest still gained lost : List IdTriple) (is : IsComparing upper lower next rest (a ∷ still) gained lost)
    (after : Option IdTriple) (moved passed : List IdTriple) (waits : AreWaiting after moved) (left : waiting after moved ≡ from a (waiting next rest)) (lost_is : passed ≡ lost ++ below a (waiting next rest)) where
  abbrev w : List IdTriple
  w = waiting next rest

  lost_on : (others : List IdTriple) → beyond w (a ∷ still) ≡ below a w ++ beyond others still → passed ++ beyond others still ≡ beyond lower upper
  lost_on others split =
      ap (λ l. l ++ beyond others still) lost_is
      ∙ append_assoc lost (below a w) (beyond others still)
      ∙ ap (λ l. lost ++ l) (sym split)
      ∙ is.lost_so

  -- the triple is shared
  pub compares_shared : after ≡ Some a → (new : Option IdTriple) (further : List IdTriple) → YieldsFirst (λ (items : List IdTriple). items) moved new further → IsComparing upper lower new further still gained passed
  compares_shared here new further step =
      let first : from a w ≡ a ∷ moved = sym left ∙ ap (λ o. waiting o moved) here in
      let a_waits : AreWaiting (Some a) moved = subst (λ o. AreWaiting o moved) here waits in
      let more : Above a moved = sorted_head triple_cmp a moved a_waits.rising in
      let next_is = taken moved further new (behind_rises a moved a_waits) step in
      record {
        waits = next_is.0;
        rising = sorted_tail triple_cmp a still is.rising;
        gained_so = ap (λ l. gained ++ beyond still l) next_is.1 ∙ ap (λ l. gained ++ l) (sym (shared_gained a still w is.rising is.waits.rising moved first more)) ∙ is.gained_so;
        lost_so = ap (λ l. passed ++ beyond l still) next_is.1 ∙ lost_on moved (shared_lost a still w is.rising is.waits.rising moved first more);
      }

  head_from : (t : IdTriple) (ys xs : List IdTriple) → from a xs ≡ t ∷ ys → is_lt (triple_cmp t a) ≡ false
  head_from t ys [] e = let none : ⊥ = cc in absurd none
  head_from t ys (x ∷ xs) e =
      (elim (is_lt (triple_cmp x a)) as (λ b. is_lt (triple_cmp x a) ≡ b → cond (not b) (x ∷ from a xs) (from a xs) ≡ t ∷ ys → is_lt (triple_cmp t a) ≡ false) [
        | true ↦ λ low e. head_from t ys xs e
        | false ↦ λ high e. (let same : x ≡ t = cc in ap (λ z. is_lt (triple_cmp z a)) (sym same) ∙ high)
      ]) refl e

  others_above : eq_by_cmp triple_cmp a a ≡ true → (after ≡ Some a → ⊥) → Above a (waiting after moved)
  others_above same other = by after refl
    where
      by : (o : Option IdTriple) → after ≡ o → Above a (waiting after moved)
      by None e = subst (λ l. Above a l) (sym (ap (λ o. waiting o moved) e ∙ waits.ended e)) tt
      by (Some t) e =
          let t_waits : AreWaiting (Some t) moved = subst (λ o. AreWaiting o moved) e waits in
          let whole : from a w ≡ t ∷ moved = sym left ∙ ap (λ o. waiting o moved) e in
          let first_low : is_lt (triple_cmp t a) ≡ false = head_from t moved w whole in
          let first : triple_cmp a t ≡ Less = above_other a t first_low (differs t e (eq_by_cmp triple_cmp t a) refl) in
          subst (λ o. Above a (waiting o moved)) (sym e)
          (first, each_weaker (λ x. triple_cmp t x ≡ Less) (λ x. triple_cmp a x ≡ Less) (λ x more. triple_cmp_total.trans a t x first more) moved (sorted_head triple_cmp t moved t_waits.rising))
        where
          differs : (t : IdTriple) → after ≡ Some t → (b : Bool) → eq_by_cmp triple_cmp t a ≡ b → eq_by_cmp triple_cmp t a ≡ false
          differs t e false apart = apart
          differs t e true tied = absurd (other (e ∙ ap (λ z. Some z) (triple_cmp-IsAntisymmetric t a (equal_is (triple_cmp t a) tied))))

  -- or it is gained
  pub compares_own : (after ≡ Some a → ⊥) → (more : List IdTriple) → more ≡ gained ++ a ∷ [] → IsComparing upper lower after moved still more passed
  compares_own other more pushed =
      let rest_above = others_above (ap is_eq (tied_itself triple_cmp_total a)) other in
      record {
        waits = waits;
        rising = sorted_tail triple_cmp a still is.rising;
        gained_so =
            ap (λ l. l ++ beyond still (waiting after moved)) pushed
            ∙ append_assoc gained (a ∷ []) (beyond still (waiting after moved))
            ∙ ap (λ l. gained ++ l) (sym (own_gained a still w is.rising is.waits.rising (waiting after moved) (sym left) rest_above))
            ∙ is.gained_so;
        lost_so = lost_on (waiting after moved) (own_lost a still w is.rising is.waits.rising (waiting after moved) (sym left) rest_above);
      }

nothing_gained : (xs : List IdTriple) → beyond xs [] ≡ xs
nothing_gained xs = beyond_all xs [] (each xs)
  where
    each : (xs : List IdTriple) → AllByRecursion (λ x. has [] x ≡ false) xs
    each [] = tt
    each (x ∷ xs) = (refl, each xs)

pub compared : (upper lower : List IdTriple) (next : Option IdTriple) (rest gained lost more : List IdTriple) → IsComparing upper lower next rest [] gained lost → more ≡ lost ++ waiting next rest
    → (gained ≡ beyond upper lower) × (more ≡ beyond lower upper)
compared upper lower next rest gained lost more is pushed = (
  sym (append-nil gained) ∙ is.gained_so,
  pushed ∙ ap (λ l. lost ++ l) (sym (nothing_gained (waiting next rest))) ∙ is.lost_so,
)
