-- Blanks and signs at the front of a text.
use Rattle.std.proofs.Common.{◌≡◌, inl, inr, ℕ, suc, ◌+◌, Bool, true, false, cond, ◌==◌, List, [], ◌∷◌, All, drop, refl, sym, ap, subst, ◌∙◌, arith}
use Rattle.std.specs.Char.{IsScalar}
use Rattle.std.specs.List.{prefix_len}
use Rattle.std.proofs.lemmas.Bool.{eqb-true, false_from_ne_true}
use Rattle.std.proofs.lemmas.List.Elements.{All-drop, All-tail}
use Rattle.ts_model.specs.declared.signed.Sign.{Sign}
use Rattle.ts_model.specs.declared.signed.Sign.TheVariants.{Add, Remove}
use Rattle.ts_nt.specs.Parts.{sign_at}
use Rattle.ts_nt.specs.TripleText.{is_blank, after_blanks, SignAt}
use Rattle.ts_nt.proofs.TermLaws.{Begins}

-- ---- blanks

pub after_blanks-begins : (text : List ℕ) (c : ℕ) → Begins text c → is_blank c ≡ false → after_blanks text ≡ text
after_blanks-begins text c (others, begins) other =
    ap after_blanks begins ∙ ap (λ b. drop (cond b (1 + prefix_len is_blank others) 0) (c ∷ others)) other ∙ sym begins

pub after_blanks-blank : (c : ℕ) (text : List ℕ) → is_blank c ≡ true → after_blanks (c ∷ text) ≡ after_blanks text
after_blanks-blank c text blank =
    let more : 1 + prefix_len is_blank text ≡ suc (prefix_len is_blank text) = omega arith in
    ap (λ b. drop (cond b (1 + prefix_len is_blank text) 0) (c ∷ text)) blank ∙ ap (λ n. drop n (c ∷ text)) more

pub after_blanks-twice : (text : List ℕ) → after_blanks (after_blanks text) ≡ after_blanks text
after_blanks-twice [] = refl
after_blanks-twice (c ∷ text) =
    elim (is_blank c) as (λ b. is_blank c ≡ b → after_blanks (after_blanks (c ∷ text)) ≡ after_blanks (c ∷ text)) [
      | true ↦ λ e. ap after_blanks (after_blanks-blank c text e) ∙ after_blanks-twice text ∙ sym (after_blanks-blank c text e)
      | false ↦ λ e. ap after_blanks (after_blanks-begins (c ∷ text) c (text, refl) e)
    ] refl

pub All-after_blanks : (text : List ℕ) → All IsScalar text → All IsScalar (after_blanks text)
All-after_blanks text scalars = All-drop IsScalar (prefix_len is_blank text) text scalars

-- ---- signs

abbrev choice : ℕ → List ℕ → Bool → Bool → Sign × List ℕ
choice c text plus minus = cond plus (Add, text) (cond minus (Remove, text) (Add, c ∷ text))

pub sign_at-SignAt : (text : List ℕ) → SignAt text (sign_at text).0 (sign_at text).1
sign_at-SignAt [] = inr (inr (refl, refl))
sign_at-SignAt (c ∷ text) =
    elim (c == 0x2B) as (λ plus. (c == 0x2B) ≡ plus → SignAt (c ∷ text) (choice c text plus (c == 0x2D)).0 (choice c text plus (c == 0x2D)).1) [
      | true ↦ λ e. inl (ap (λ d. d ∷ text) (eqb-true c 0x2B e), refl)
      | false ↦ λ _. elim (c == 0x2D) as (λ minus. (c == 0x2D) ≡ minus → SignAt (c ∷ text) (choice c text false minus).0 (choice c text false minus).1) [
        | true ↦ λ e. inr (inl (ap (λ d. d ∷ text) (eqb-true c 0x2D e), refl))
        | false ↦ λ _. inr (inr (refl, refl))
      ] refl
    ] refl

-- a text that begins with no sign
abbrev pub HasNoSign : List ℕ → Type 0
HasNoSign text = (Begins text 0x2B → ⊥) × (Begins text 0x2D → ⊥)

no_sign : (text : List ℕ) → HasNoSign text → sign_at text ≡ (Add, text)
no_sign [] none = refl
no_sign (c ∷ text) none =
    let plus : (c == 0x2B) ≡ false = false_from_ne_true _ (λ e. none.0 (text, ap (λ d. d ∷ text) (eqb-true c 0x2B e))) in
    let minus : (c == 0x2D) ≡ false = false_from_ne_true _ (λ e. none.1 (text, ap (λ d. d ∷ text) (eqb-true c 0x2D e))) in
    ap (λ b. cond b (Add, text) (cond (c == 0x2D) (Remove, text) (Add, c ∷ text))) plus ∙ ap (λ b. cond b (Remove, text) (Add, c ∷ text)) minus

-- no sign stands behind a sign
pub sign_once : (text : List ℕ) (sign : Sign) (rest : List ℕ) → SignAt text sign rest → HasNoSign (after_blanks rest)
    → (sign ≡ (sign_at text).0) × (rest ≡ (sign_at text).1)
sign_once text sign rest (inl (begins, add)) none = (add ∙ sym (ap (λ t. (sign_at t).0) begins), sym (ap (λ t. (sign_at t).1) begins))
sign_once text sign rest (inr (inl (begins, remove))) none = (remove ∙ sym (ap (λ t. (sign_at t).0) begins), sym (ap (λ t. (sign_at t).1) begins))
sign_once text sign rest (inr (inr (same, add))) none =
    let found = no_sign text (unsigned 0x2B refl none.0, unsigned 0x2D refl none.1) in
    (add ∙ sym (ap (λ pair. pair.0) found), sym same ∙ sym (ap (λ pair. pair.1) found))
  where
    unsigned : (c : ℕ) → is_blank c ≡ false → (Begins (after_blanks rest) c → ⊥) → Begins text c → ⊥
    unsigned c other not_there begins =
        let at_rest : Begins rest c = (begins.0, sym same ∙ begins.1) in
        not_there (begins.0, after_blanks-begins rest c at_rest other ∙ at_rest.1)

pub All-after_sign : (text : List ℕ) (sign : Sign) (rest : List ℕ) → All IsScalar text → SignAt text sign rest → All IsScalar rest
All-after_sign text sign rest scalars (inl (begins, _)) = All-tail IsScalar 0x2B rest (subst (λ t. All IsScalar t) begins scalars)
All-after_sign text sign rest scalars (inr (inl (begins, _))) = All-tail IsScalar 0x2D rest (subst (λ t. All IsScalar t) begins scalars)
All-after_sign text sign rest scalars (inr (inr (same, _))) = subst (λ t. All IsScalar t) same scalars
