-- The orders of pairs and triples, in numbers.
use Rattle.std.proofs.Common.{◌≡◌, ℕ, suc, ◌+◌, ◌<◌, ◌≤◌, ◌==◌, ◌&&◌, true, false, true≢false, inl, inr, List, [], ◌∷◌, map, length, get_or, sym, ◌∙◌, ap, ap₂, subst, arith, nat_lt, eqb-true, eq-eqb, ne_eqb, lt-ltb, le-ltb, nat_cmp, is_lt, Ordering, Less, Equal, Greater}
use Rattle.std.specs.Ordering.{ordering_then}
use Rattle.std.proofs.lemmas.Bool.{cases_Bool, cases_lt, cases_order, cond-true, cond-false, and_parts, false_from_ne_true}
use Rattle.std.proofs.lemmas.Map.Keys.{Less-from_sorted}
use Rattle.ts_plane.specs.declared.triple.IdTriple.{IdTriple}
use Rattle.ts_plane.specs.Parts.{pair_of, same_pair}
use Rattle.ts_plane.specs.Triple.{triple_cmp, IsRising}
use Rattle.ts_plane.proofs.Members.{Rises, rises_from_places, rises_map}
use Rattle.ts_plane.proofs.TurnedLemmas.{Below}

pub cmp_less : (a b : ℕ) → a < b → nat_cmp a b ≡ Less
cmp_less a b h = cond-true (nat_lt a b) _ _ (lt-ltb a b h)

cmp_same : (a b : ℕ) → a ≡ b → nat_cmp a b ≡ Equal
cmp_same a b h = cond-false (nat_lt a b) _ _ (le-ltb a b (omega (arith, h))) ∙ cond-true (a == b) _ _ (eq-eqb a b h)

cmp_more : (a b : ℕ) → b < a → nat_cmp a b ≡ Greater
cmp_more a b h = cond-false (nat_lt a b) _ _ (le-ltb a b (omega (arith, h))) ∙ cond-false (a == b) _ _ (ne_eqb a b (λ e. omega (arith, e, h)))

pub then_less : (a b : ℕ) (o : Ordering) → ordering_then (nat_cmp a b) o ≡ Less → (a ≤ b) × (a ≡ b → o ≡ Less)
then_less a b o h = elim (cases_order a b) [
  | inl same ↦ (omega (arith, same), (λ _. sym (ap (λ c. ordering_then c o) (cmp_same a b same)) ∙ h))
  | inr apart ↦ elim apart [
    | inl less ↦ (omega (arith, less), (λ e. absurd (omega (arith, e, less))))
    | inr more ↦ absurd (true≢false (sym (ap is_lt (sym (ap (λ c. ordering_then c o) (cmp_more a b more)) ∙ h))))
  ]
]

pub less_then : (a b : ℕ) (o : Ordering) → a ≤ b → (a ≡ b → o ≡ Less) → ordering_then (nat_cmp a b) o ≡ Less
less_then a b o le rest = elim (cases_order a b) [
  | inl same ↦ ap (λ c. ordering_then c o) (cmp_same a b same) ∙ rest same
  | inr apart ↦ elim apart [
    | inl less ↦ ap (λ c. ordering_then c o) (cmp_less a b less)
    | inr more ↦ absurd (omega (arith, le, more))
  ]
]

pub cmp_is_less : (a b : ℕ) → nat_cmp a b ≡ Less → a < b
cmp_is_less a b h = elim (cases_order a b) [
  | inl same ↦ absurd (true≢false (sym (ap is_lt (sym (cmp_same a b same) ∙ h))))
  | inr apart ↦ elim apart [
    | inl less ↦ less
    | inr more ↦ absurd (true≢false (sym (ap is_lt (sym (cmp_more a b more) ∙ h))))
  ]
]

-- a triple below another
pub record Before (a b : IdTriple) : Type 0 where
  pub subject : a.s ≤ b.s
  pub predicate : a.s ≡ b.s → a.p ≤ b.p
  pub object : a.s ≡ b.s → a.p ≡ b.p → a.o < b.o

pub before_is : (a b : IdTriple) → triple_cmp a b ≡ Less → Before a b
before_is a b h =
    let first = then_less a.s b.s _ h in
    record {
      subject = first.0;
      predicate = λ e. (then_less a.p b.p _ (first.1 e)).0;
      object = λ e f. cmp_is_less a.o b.o ((then_less a.p b.p _ (first.1 e)).1 f);
    }

pub cmp_before : (a b : IdTriple) → Before a b → triple_cmp a b ≡ Less
cmp_before a b h = less_then a.s b.s _ h.subject (λ e. less_then a.p b.p _ (h.predicate e) (λ f. cmp_less a.o b.o (h.object e f)))

abbrev pub no_triple : IdTriple
no_triple = record { s = 0; p = 0; o = 0 }

pub rises_triples : (triples : List IdTriple) → IsRising triples → Rises Before triples
rises_triples triples rising = rises_from_places Before triples no_triple (λ i j low high. before_is _ _ (Less-from_sorted triple_cmp triples i j no_triple rising low high))

-- a pair below another, or the same
abbrev pub NotAbove : ℕ × ℕ → ℕ × ℕ → Type 0
NotAbove a b = (a.0 ≤ b.0) × (a.0 ≡ b.0 → a.1 ≤ b.1)

pub rises_pairs : (triples : List IdTriple) → IsRising triples → Rises NotAbove (map pair_of triples)
rises_pairs triples rising = rises_map Before NotAbove pair_of triples (λ x y _ _ before. (before.subject, before.predicate)) (rises_triples triples rising)

pub same_is : (a b : ℕ × ℕ) → same_pair a b ≡ true → a ≡ b
same_is a b h = (let both = and_parts (a.0 == b.0) (a.1 == b.1) h in ap₂ (λ x y. (x, y)) (eqb-true a.0 b.0 both.0) (eqb-true a.1 b.1 both.1))

pub same_from : (a b : ℕ × ℕ) → a ≡ b → same_pair a b ≡ true
same_from a b h = ap₂ (λ x y. x && y) (eq-eqb a.0 b.0 (ap (λ (u : ℕ × ℕ). u.0) h)) (eq-eqb a.1 b.1 (ap (λ (u : ℕ × ℕ). u.1) h))

-- the same, or strictly below
pub apart_below : (a b : ℕ × ℕ) → NotAbove a b → same_pair b a ≡ false → Below a b
apart_below a b h apart = (
  h.0,
  (λ e. elim (cases_order a.1 b.1) [
    | inl same ↦ absurd (true≢false (sym (same_from b a (sym (ap₂ (λ x y. (x, y)) e same))) ∙ apart))
    | inr other ↦ elim other [
      | inl less ↦ less
      | inr more ↦ absurd (omega (arith, h.1 e, more))
    ]
  ]),
)

pub below_then : (a b c : ℕ × ℕ) → Below a b → NotAbove b c → Below a c
below_then a b c ab bc = (
  omega (arith, ab.0, bc.0),
  (λ e.
      (let first : a.0 ≡ b.0 = omega (arith, e, ab.0, bc.0) in
      let second : b.0 ≡ c.0 = omega (arith, e, ab.0, bc.0) in
      omega (arith, ab.1 first, bc.1 second))),
)

pub below_apart : (a b : ℕ × ℕ) → Below a b → same_pair b a ≡ false
below_apart a b h = false_from_ne_true (same_pair b a) (λ e. (let is = same_is b a e in
    let first : a.0 ≡ b.0 = ap (λ (u : ℕ × ℕ). u.0) (sym is) in
    let second : a.1 ≡ b.1 = ap (λ (u : ℕ × ℕ). u.1) (sym is) in
    omega (arith, h.1 first, second)))

-- neighbours that don't fall
pub rises_from_neighbours : {X : Type 0} (R : X → X → Type 0) → ((x y z : X) → R x y → R y z → R x z) → (xs : List X) (d : X)
    → ((k : ℕ) → k + 1 < length xs → R (get_or xs k d) (get_or xs (k + 1) d)) → Rises R xs
rises_from_neighbours R trans [] d h = tt
rises_from_neighbours R trans (x ∷ []) d h = ((λ y i. absurd i), tt)
rises_from_neighbours R trans (x ∷ y ∷ xs) d h =
    let rest = rises_from_neighbours R trans (y ∷ xs) d (λ k within. (let e : suc k + 1 ≡ suc (k + 1) = omega arith in subst (λ n. R (get_or (y ∷ xs) k d) (get_or (x ∷ y ∷ xs) n d)) e (h (suc k) (omega arith)))) in
    let first : R x y = h 0 (omega arith) in (
      (λ z i. elim i [
        | inl e ↦ subst (R x) (sym e) first
        | inr later ↦ trans x y z first (rest.0 z later)
      ]),
      rest,
    )

pub trans_not_above : (a b c : ℕ × ℕ) → NotAbove a b → NotAbove b c → NotAbove a c
trans_not_above a b c ab bc = (
  omega (arith, ab.0, bc.0),
  (λ e.
      (let first : a.0 ≡ b.0 = omega (arith, e, ab.0, bc.0) in
      let second : b.0 ≡ c.0 = omega (arith, e, ab.0, bc.0) in
      omega (arith, ab.1 first, bc.1 second))),
)

abbrev pub pair_cmp : ℕ × ℕ → ℕ × ℕ → Ordering
pair_cmp a b = ordering_then (nat_cmp a.0 b.0) (nat_cmp a.1 b.1)

pub not_less : (a b : ℕ × ℕ) → is_lt (pair_cmp b a) ≡ false → NotAbove a b
not_less a b h = (
  elim (cases_lt b.0 a.0) [
    | inl less ↦ absurd (true≢false (sym (ap is_lt (less_then b.0 a.0 (nat_cmp b.1 a.1) (omega (arith, less)) (λ e. absurd (omega (arith, less, e))))) ∙ h))
    | inr more ↦ more
  ],
  (λ e. elim (cases_lt b.1 a.1) [
    | inl less ↦ absurd (true≢false (sym (ap is_lt (less_then b.0 a.0 (nat_cmp b.1 a.1) (omega (arith, e)) (λ _. cmp_less b.1 a.1 less))) ∙ h))
    | inr more ↦ more
  ]),
)

pub same_flips : (a b : ℕ × ℕ) → same_pair a b ≡ same_pair b a
same_flips a b = elim (cases_Bool (same_pair a b)) [
  | inl holds ↦ holds ∙ sym (same_from b a (sym (same_is a b holds)))
  | inr fails ↦ fails ∙ sym (false_from_ne_true (same_pair b a) (λ e. true≢false (sym (same_from a b (sym (same_is b a e))) ∙ fails)))
]
