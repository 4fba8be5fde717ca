use Rattle.std.proofs.Common.{ℕ, ◌++◌, ◌∙◌, ap, ap₂, ◌∷◌, [], List}
use Rattle.std.specs.Int.{w16, to_be_bytes}
use Rattle.std.specs.Prelude.{codes}
use Rattle.ts_part.proofs.WriteLemmas.{joined}
use Rattle.ts_part.proofs.header.write_kind.Goals as goal

pub returns : goal.returns
returns c =
    let old = c.args.into.now.items in
    let begins : List ℕ = codes "TSPART" ++ to_be_bytes w16 1 in
    let byte : ℕ = c.byte.result in
    let two = joined old begins (byte ∷ 1 ∷ []) _ _ c.in_ok-extend_from_slice.ensures.items c.in_ok-extend_from_slice-2.ensures.items in
    joined old (begins ++ byte ∷ 1 ∷ []) c.to_be_bytes.result _ _ two c.in_ok-extend_from_slice-3.ensures.items
    ∙ ap (λ (l : List ℕ). old ++ ((codes "TSPART" ++ to_be_bytes w16 1) ++ byte ∷ 1 ∷ [] ++ l)) c.to_be_bytes.ensures
    ∙ ap₂ (λ (b n : ℕ). old ++ ((codes "TSPART" ++ to_be_bytes w16 1) ++ b ∷ 1 ∷ [] ++ to_be_bytes w16 n)) c.byte.ensures c.sections.ensures
