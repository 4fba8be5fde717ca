-- Items at the front of a text, of any kind.
use Rattle.std.proofs.Common.{◌≡◌, ◌≢◌, ℕ, List, [], ◌∷◌, ◌++◌, Option, Some, None, All, flat_map, encode_utf8_all, refl, sym, ap, ◌∙◌, subst, append_assoc}
use Rattle.std.specs.Char.{IsScalar}
use Rattle.std.proofs.lemmas.Grind.{flat_map-append}
use Rattle.std.proofs.lemmas.List.{append-nil}
use Rattle.std.proofs.lemmas.List.Elements.{All-nil, All-cons, All-head, All-tail, All-same, All-append}
use Rattle.std.proofs.lemmas.Option.{some_pair_parts}
use Rattle.std.proofs.lemmas.Str.{encodes-append}
use Rattle.ts_nt.specs.Reading.{Reads}

-- what is spelled with one more character
pub spelled_more : (spell : ℕ → List ℕ) (old new characters : List ℕ) (c : ℕ) → new ≡ old ++ flat_map spell characters → new ++ spell c ≡ old ++ flat_map spell (characters ++ c ∷ [])
spelled_more spell old new characters c so_far =
    let joined : flat_map spell (characters ++ c ∷ []) ≡ flat_map spell characters ++ spell c =
    flat_map-append spell characters (c ∷ []) ∙ ap (λ (l : List ℕ). flat_map spell characters ++ l) (append-nil (spell c)) in
    ap (λ (l : List ℕ). l ++ spell c) so_far ∙ (append_assoc old (flat_map spell characters) (spell c) ∙ ap (λ (l : List ℕ). old ++ l) (sym joined))

-- a text that is read as this character, whatever follows
abbrev pub Piece : (List ℕ → Option (ℕ × List ℕ)) → (ℕ → List ℕ) → ℕ → Type 0
Piece item spell c = (piece : List ℕ) × All IsScalar piece × (encode_utf8_all piece ≡ spell c) × ((more : List ℕ) → item (piece ++ more) ≡ Some (c, more))

-- the same of several characters
abbrev pub Pieces : (List ℕ → Option (ℕ × List ℕ)) → (ℕ → List ℕ) → List ℕ → Type 0
Pieces item spell characters =
    (text : List ℕ) × All IsScalar text × (encode_utf8_all text ≡ flat_map spell characters) × ((more : List ℕ) → Reads item (text ++ more) characters more)

module _ (item : List ℕ → Option (ℕ × List ℕ)) where
  -- one more item behind the others
  pub reads_more : (text middle rest characters : List ℕ) (c : ℕ) → Reads item text characters middle → item middle ≡ Some (c, rest) → Reads item text (characters ++ c ∷ []) rest
  reads_more text middle rest [] c same next = (rest, ap item same ∙ next, refl)
  reads_more text middle rest (d ∷ characters) c reads next =
      (reads.0, reads.1, reads_more reads.0 middle rest characters c reads.2 next)

  -- where no item follows there is one reading
  pub reads_once : (text a b r s : List ℕ) → Reads item text a r → Reads item text b s → item r ≡ None → item s ≡ None → (a ≡ b) × (r ≡ s)
  reads_once text [] [] r s first second ends ends' = (refl, sym first ∙ second)
  reads_once text [] (d ∷ b) r s first second ends ends' =
      let no : None ≡ Some (d, second.0) = sym ends ∙ (ap item (sym first) ∙ second.1) in
      cc no
  reads_once text (c ∷ a) [] r s first second ends ends' =
      let no : None ≡ Some (c, first.0) = sym ends' ∙ (ap item (sym second) ∙ first.1) in
      cc no
  reads_once text (c ∷ a) (d ∷ b) r s first second ends ends' =
      let same = some_pair_parts c d first.0 second.0 (sym first.1 ∙ second.1) in
      let moved : Reads item first.0 b s = subst (λ (l : List ℕ). Reads item l b s) (sym same.1) second.2 in
      let others = reads_once first.0 a b r s first.2 moved ends ends' in
      ((λ i. same.0 i ∷ others.0 i), others.1)

  -- each character is a scalar, and so is what follows
  pub reads_scalars : ((text rest : List ℕ) (c : ℕ) → item text ≡ Some (c, rest) → All IsScalar text → IsScalar c × All IsScalar rest)
      → (text characters rest : List ℕ) → All IsScalar text → Reads item text characters rest → All IsScalar characters × All IsScalar rest
  reads_scalars step text [] rest scalars same = (All-nil IsScalar, All-same IsScalar rest text (sym same) scalars)
  reads_scalars step text (c ∷ characters) rest scalars reads =
      let one = step text reads.0 c reads.1 scalars in
      let others = reads_scalars step reads.0 characters rest one.1 reads.2 in
      (All-cons IsScalar c characters one.0 others.0, others.1)

  -- what is spelled character by character is read so
  pub pieces : (spell : ℕ → List ℕ) → ((c : ℕ) → IsScalar c → Piece item spell c) → (characters : List ℕ) → All IsScalar characters → Pieces item spell characters
  pieces spell each [] scalars = ([], All-nil IsScalar, refl, λ more. refl)
  pieces spell each (c ∷ characters) scalars =
      let one = each c (All-head IsScalar c characters scalars) in
      let others = pieces spell each characters (All-tail IsScalar c characters scalars) in (
        one.0 ++ others.0,
        All-append IsScalar one.0 others.0 one.1 others.1,
        encodes-append one.0 others.0 ∙ (λ i. one.2 i ++ others.2 i),
        λ more. (others.0 ++ more, ap item (append_assoc one.0 others.0 more) ∙ one.3 (others.0 ++ more), others.3 more),
      )

  module _ (begin close : ℕ) (ends : (rest : List ℕ) → item (close ∷ rest) ≡ None) where
    -- between two marks there is one reading
    pub once_between : (text inside inside' a b r s : List ℕ) → text ≡ begin ∷ inside → Reads item inside a (close ∷ r) → text ≡ begin ∷ inside' → Reads item inside' b (close ∷ s) → (a ≡ b) × (r ≡ s)
    once_between text inside inside' a b r s begins first begins' second =
        let same : inside' ≡ inside = cc (begins, begins') in
        let moved : Reads item inside b (close ∷ s) = subst (λ (l : List ℕ). Reads item l b (close ∷ s)) same second in
        let once = reads_once inside a b (close ∷ r) (close ∷ s) first moved (ends r) (ends s) in
        let same_rest : r ≡ s = cc (once.1) in
        (once.0, same_rest)

    -- where the items end without the closing mark there is none
    pub none_between : (text inside middle characters : List ℕ) → text ≡ begin ∷ inside → Reads item inside characters middle → item middle ≡ None → ((rest : List ℕ) → middle ≢ close ∷ rest)
        → (inside' other rest : List ℕ) → text ≡ begin ∷ inside' → Reads item inside' other (close ∷ rest) → ⊥
    none_between text inside middle characters begins reads stops undelimited inside' other rest begins' reads' =
        let same : inside' ≡ inside = cc (begins, begins') in
        let moved : Reads item inside other (close ∷ rest) = subst (λ (l : List ℕ). Reads item l other (close ∷ rest)) same reads' in
        let once = reads_once inside characters other middle (close ∷ rest) reads moved stops (ends rest) in
        undelimited rest once.1
