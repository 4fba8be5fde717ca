use Rattle.std.proofs.Common.{◌≡◌, ◌+◌, ◌++◌, ℕ, List, length, take, zero-add, sym, ap, ◌∙◌, arith}
use Rattle.std.specs.Prelude.{codes}
use Rattle.ts_replace.specs.Names.{label_file_name}
use Rattle.ts_replace.proofs.NameLemmas.{IsFileName-of_label}
use Rattle.ts_replace.proofs.names.label_file.Goals as goal

pub unwrap-requires : goal.unwrap-requires
unwrap-requires c =
    let label = c.bytes-bytes.result.now in
    let front : take (length label) c.put.new.name ≡ label = ap (λ n. take n c.put.new.name) (sym (zero-add (length label))) ∙ c.put.ensures in
    let whole : take (length label + 6) c.put-2.new.name ≡ label_file_name label = c.put-2.ensures ∙ ap (λ (l : List ℕ). l ++ codes ".label") front in
    c.of.ensures.rule.1 (IsFileName-of_label label _ c.bytes-bytes.ensures.is_name (grind (arith, whole)))
