-- A plain file is that of one layer.
use Rattle.std.proofs.Common.{◌≡◌, ◌^◌, ◌<◌, ℕ, List, [], ◌++◌, Option, refl, sym, ap, ◌∙◌, subst}
use Rattle.ts_model.specs.TextTriple.{TextTriple}
use Rattle.ts_plain.specs.PlainFile.{plain_file, head_line, change_lines}
use Rattle.ts_plain.specs.PlainReading.{IsParent}
use Rattle.ts_plain.specs.PlainRules.{IsPlainLayer}
use Rattle.ts_plain.proofs.HeadLaws.{head_once, number_once}
use Rattle.ts_plain.proofs.LineLaws.{section_once}
use Rattle.ts_plain.proofs.PlainLaws.{no_addition, nothing, parent_of, file_parts}

pub same_layer : (number other_number : ℕ) (parent other_parent : Option ℕ) (additions removals other_additions other_removals : List TextTriple) → number < 2 ^ 32 → other_number < 2 ^ 32
    → IsPlainLayer number parent additions removals → IsPlainLayer other_number other_parent other_additions other_removals
    → plain_file number parent additions removals ≡ plain_file other_number other_parent other_additions other_removals
    → (number ≡ other_number) × (parent ≡ other_parent) × (additions ≡ other_additions) × (removals ≡ other_removals)
same_layer number other_number parent other_parent additions removals other_additions other_removals small below layer other e =
    let body = change_lines 0x2B additions ++ change_lines 0x2D removals in
    let other_body = change_lines 0x2B other_additions ++ change_lines 0x2D other_removals in
    let whole : head_line number parent ++ body ≡ head_line other_number other_parent ++ other_body =
    sym (file_parts number parent additions removals) ∙ e ∙ file_parts other_number other_parent other_additions other_removals in
    let numbers : number ≡ other_number = number_once number other_number parent other_parent body other_body small below whole in
    let named : head_line number parent ++ body ≡ head_line number other_parent ++ other_body = whole ∙ ap (λ n. head_line n other_parent ++ other_body) (sym numbers) in
    let here = parent_of number parent additions removals layer in
    let there = subst (λ n. IsParent n other_parent) (sym numbers) (parent_of other_number other_parent other_additions other_removals other) in
    let heads = head_once number parent other_parent body other_body (head_line number parent ++ body) small here there refl named in
    let added = section_once 0x2B additions other_additions (change_lines 0x2D removals) (change_lines 0x2D other_removals) layer.1 other.1 (no_addition removals) (no_addition other_removals) heads.1 in
    let ends : change_lines 0x2D removals ++ [] ≡ change_lines 0x2D other_removals ++ [] = ap (λ l. l ++ []) added.1 in
    let removed = section_once 0x2D removals other_removals [] [] layer.2 other.2 (nothing 0x2D) (nothing 0x2D) ends in
    (numbers, heads.0, added.0, removed.0)
