use Rattle.std.proofs.Common.{◌≡◌, ◌++◌, ℕ, List, ◌∙◌, ap}
use Rattle.std.specs.Prelude.{codes}
use Rattle.ts_replace.proofs.NameLemmas.{rollup_name-IsFileName}
use Rattle.ts_replace.proofs.names.rollup_file.Goals as goal

pub unwrap-requires : goal.unwrap-requires
unwrap-requires c = c.of.ensures.rule.1 (rw (c.copy_from_slice.ensures.after, c.layer_text.ensures) (rollup_name-IsFileName c.args.number))

pub returns : goal.returns
returns c =
    let named : c.unwrap.result ≡ c.copy_from_slice.new.self ++ codes ".rollup" = rw c.unwrap.ensures at c.of.ensures.name in
    named ∙ ap (λ (text : List ℕ). text ++ codes ".rollup") (c.copy_from_slice.ensures.after ∙ c.layer_text.ensures)
