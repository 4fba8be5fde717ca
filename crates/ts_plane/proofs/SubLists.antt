-- Lists whose members are among those of another.
use Rattle.std.proofs.Common.{◌≡◌, suc, ◌≤◌, inl, inr, List, [], ◌∷◌, length, refl, sym, ◌∙◌, ap₂, subst, arith}
use Rattle.ts_plane.proofs.Members.{In, Rises}

abbrev pub Differ : {X : Type 0} → X → X → Type 0
Differ x y = x ≡ y → ⊥

-- a list without one of its members
record IsWithout {X : Type 0} (ys : List X) (x : X) : Type 0 where
  rest : List X
  shorter : length ys ≡ suc (length rest)
  others : (z : X) → In z ys → Differ z x → In z rest

without : {X : Type 0} (ys : List X) (x : X) → In x ys → IsWithout ys x
without [] x h = absurd h
without (y ∷ ys) x h = elim h [
  | inl e ↦ record {
    rest = ys;
    shorter = refl;
    others = λ z i d. (elim i [
      | inl same ↦ absurd (d (same ∙ sym e))
      | inr later ↦ later
    ]);
  }
  | inr later ↦
      let less = without ys x later in
      record {
        rest = y ∷ less.rest;
        shorter = omega (arith, less.shorter);
        others = λ z i d. (elim i [
          | inl same ↦ inl same
          | inr behind ↦ inr (less.others z behind d)
        ]);
      }
]

-- members that differ are no more than those that they are among
pub no_more : {X : Type 0} (xs ys : List X) → Rises Differ xs → ((x : X) → In x xs → In x ys) → length xs ≤ length ys
no_more [] ys r h = omega arith
no_more (x ∷ xs) ys r h =
    let less = without ys x (h x (inl refl)) in
    let rest = no_more xs less.rest r.1 (λ z i. less.others z (h z (inr i)) (λ e. r.0 z i (sym e))) in
    omega (arith, rest, less.shorter)

pub rises_differ : {X : Type 0} (R : X → X → Type 0) → ((x y : X) → R x y → R y x → ⊥) → (xs : List X) → Rises R xs → Rises Differ xs
rises_differ R asym [] r = tt
rises_differ R asym (x ∷ xs) r = (
  (λ y h e. (let same = subst (R x) (sym e) (r.0 y h) in asym x x same same)),
  rises_differ R asym xs r.1,
)

-- a list that rises among the members of another that does, and is no shorter, is that one
pub rising_among : {X : Type 0} (R : X → X → Type 0) → ((x y : X) → R x y → R y x → ⊥) → (xs ys : List X) → Rises R xs → Rises R ys
    → ((x : X) → In x xs → In x ys) → length ys ≤ length xs → xs ≡ ys
rising_among R asym [] [] rx ry h long = refl
rising_among R asym [] (y ∷ ys) rx ry h long = absurd (omega arith)
rising_among R asym (x ∷ xs) [] rx ry h long = absurd (h x (inl refl))
rising_among R asym (x ∷ xs) (y ∷ ys) rx ry h long = elim (h x (inl refl)) [
  | inl e ↦ ap₂ (λ a l. a ∷ l) e (rising_among R asym xs ys rx.1 ry.1 (λ z i. elim (h z (inr i)) [
    | inl same ↦ (let one = subst (R x) (same ∙ sym e) (rx.0 z i) in absurd (asym x x one one))
    | inr later ↦ later
  ]) (omega arith))
  | inr later ↦
      let few = no_more (x ∷ xs) ys (rises_differ R asym (x ∷ xs) rx) (λ z i. elim i [
        | inl same ↦ subst (λ w. In w ys) (sym same) later
        | inr inside ↦ elim (h z (inr inside)) [
          | inl is_y ↦ absurd (asym x y (subst (R x) is_y (rx.0 z inside)) (ry.0 x later))
          | inr behind ↦ behind
        ]
      ]) in
      absurd (omega (arith, few))
]
