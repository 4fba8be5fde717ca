-- A literal is a string and what follows it, of which the first character tells what it is.
use Rattle.std.proofs.Common.{◌≡◌, inl, inr, ℕ, true, List, ◌∷◌, ◌++◌, Option, Some, None, refl, sym, ap, subst, ◌∙◌, arith, append_assoc, true≢false}
use Rattle.ts_model.specs.declared.term.TermKind.{TermKind}
use Rattle.ts_nt.specs.Reading.{Finds}
use Rattle.ts_nt.specs.Terms.{StringAt, TypeAt, TagAt, EndingAt, LiteralAt, TermAt, begins_ending}
use Rattle.ts_nt.proofs.FindsLaws.{Finds-as}
use Rattle.ts_nt.proofs.TermLaws.{begins_once, type_begins, tag_begins, string_at_once}

-- it is a type where it begins with `^`
pub ending_from_type : (text others old new : List ℕ) (found : Option (List ℕ)) → text ≡ 0x5E ∷ others → Finds TypeAt (0x5E ∷ others) old new found → Finds EndingAt text old new found
ending_from_type text others old new found begins = Finds-as TypeAt EndingAt (0x5E ∷ others) text old new found there back
  where
    there : (ending rest : List ℕ) → TypeAt (0x5E ∷ others) ending rest → EndingAt text ending rest
    there ending rest at = inl (subst (λ t. TypeAt t ending rest) (sym begins) at)

    back : (ending rest : List ℕ) → EndingAt text ending rest → TypeAt (0x5E ∷ others) ending rest
    back ending rest (inl at) = subst (λ t. TypeAt t ending rest) begins at
    back ending rest (inr (inl at)) = let same = begins_once text 0x40 0x5E (tag_begins text ending rest at) (others, begins) in absurd (omega (arith, same))
    back ending rest (inr (inr at)) = let ends : begins_ending text ≡ true = ap begins_ending begins in absurd (true≢false (sym ends ∙ at.0))

-- a tag where it begins with `@`
pub ending_from_tag : (text others old new : List ℕ) (found : Option (List ℕ)) → text ≡ 0x40 ∷ others → Finds TagAt text old new found → Finds EndingAt text old new found
ending_from_tag text others old new found begins = Finds-as TagAt EndingAt text text old new found (λ ending rest at. inr (inl at)) back
  where
    back : (ending rest : List ℕ) → EndingAt text ending rest → TagAt text ending rest
    back ending rest (inl at) = let same = begins_once text 0x5E 0x40 (type_begins text ending rest at) (others, begins) in absurd (omega (arith, same))
    back ending rest (inr (inl at)) = at
    back ending rest (inr (inr at)) = let ends : begins_ending text ≡ true = ap begins_ending begins in absurd (true≢false (sym ends ∙ at.0))

-- a literal, behind its string
pub literal_from_ending : (text behind old mid new : List ℕ) (found : Option (List ℕ)) → Finds StringAt text old mid (Some behind) → Finds EndingAt behind mid new found
    → Finds LiteralAt text old new found
literal_from_ending text behind old mid new (Some rest) string ending =
    (string.0 ++ ending.0, (string.0, behind, ending.0, string.1, ending.1, refl), ending.2 ∙ ap (λ b. b ++ ending.0) string.2 ∙ append_assoc old string.0 ending.0)
literal_from_ending text behind old mid new None string none =
    λ spelling rest at. none at.2 rest (subst (λ t. EndingAt t at.2 rest) (string_at_once text _ _ _ _ at.3 string.1).1 at.4)

pub no_literal : (text old mid : List ℕ) → Finds StringAt text old mid None → (spelling rest : List ℕ) → LiteralAt text spelling rest → ⊥
no_literal text old mid none spelling rest at = none at.0 at.1 at.3

pub finds_kind : (kind other : TermKind) (text old new : List ℕ) (found : Option (List ℕ)) → kind ≡ other → Finds (TermAt other) text old new found → Finds (TermAt kind) text old new found
finds_kind kind other text old new found same = subst (λ k. Finds (TermAt k) text old new found) (sym same)
