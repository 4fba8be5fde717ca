-- The order of triples, by their parts.
use Rattle.std.proofs.Common.{◌≡◌, ℕ, ◌<◌, ◌≤◌, true, false, refl, ◌∙◌, arith, inl, inr}
use Rattle.std.proofs.lemmas.Bool.{cases_order, cond-true, cond-false, lt-ltb, le-ltb, eq-eqb, ne_eqb}
use Rattle.std.specs.Ordering.{is_lt, nat_cmp}
use Rattle.std.specs.declared.cmp.Ordering.TheVariants.{Less, Equal, Greater}
use Rattle.ts_plane.specs.declared.triple.IdTriple.{IdTriple}
use Rattle.ts_plane.specs.Triple.{triple_cmp}

less : (x y : ℕ) → x < y → nat_cmp x y ≡ Less
less x y h = cond-true _ _ _ (lt-ltb x y h)

equal : (x y : ℕ) → x ≡ y → nat_cmp x y ≡ Equal
equal x y h = cond-false _ _ _ (le-ltb x y (omega arith)) ∙ cond-true _ _ _ (eq-eqb x y h)

greater : (x y : ℕ) → y < x → nat_cmp x y ≡ Greater
greater x y h = cond-false _ _ _ (le-ltb x y (omega arith)) ∙ cond-false _ _ _ (ne_eqb x y (λ e. omega arith))

-- a triple is below another whose parts are greater, from the first in which they differ
pub is_below : (a b : IdTriple) → a.s ≤ b.s → (a.s ≡ b.s → a.p ≤ b.p) → (a.s ≡ b.s → a.p ≡ b.p → a.o < b.o) → is_lt (triple_cmp a b) ≡ true
is_below a b s p o = elim (cases_order a.s b.s) [
  | inl same_s ↦ elim (cases_order a.p b.p) [
    | inl same_p ↦ rw (equal a.s b.s same_s, equal a.p b.p same_p, less a.o b.o (o same_s same_p)) refl
    | inr other ↦ elim other [
      | inl lower ↦ rw (equal a.s b.s same_s, less a.p b.p lower) refl
      | inr upper ↦ absurd (omega (arith, p same_s))
    ]
  ]
  | inr other ↦ elim other [
    | inl lower ↦ rw (less a.s b.s lower) refl
    | inr upper ↦ absurd (omega arith)
  ]
]

-- and it isn't where that one's are no greater
pub is_no_lower : (a b : IdTriple) → b.s ≤ a.s → (a.s ≡ b.s → b.p ≤ a.p) → (a.s ≡ b.s → a.p ≡ b.p → b.o ≤ a.o) → is_lt (triple_cmp a b) ≡ false
is_no_lower a b s p o = elim (cases_order a.s b.s) [
  | inl same_s ↦ elim (cases_order a.p b.p) [
    | inl same_p ↦ elim (cases_order a.o b.o) [
      | inl same_o ↦ rw (equal a.s b.s same_s, equal a.p b.p same_p, equal a.o b.o same_o) refl
      | inr other ↦ elim other [
        | inl lower ↦ absurd (omega (arith, o same_s same_p))
        | inr upper ↦ rw (equal a.s b.s same_s, equal a.p b.p same_p, greater a.o b.o upper) refl
      ]
    ]
    | inr other ↦ elim other [
      | inl lower ↦ absurd (omega (arith, p same_s))
      | inr upper ↦ rw (equal a.s b.s same_s, greater a.p b.p upper) refl
    ]
  ]
  | inr other ↦ elim other [
    | inl lower ↦ absurd (omega arith)
    | inr upper ↦ rw (greater a.s b.s upper) refl
  ]
]
