use Rattle.std.proofs.Common.{◌≡◌, ◌++◌, ℕ, List, ◌∙◌, ap}
use Rattle.std.specs.Prelude.{codes}
use Rattle.ts_replace.proofs.NameLemmas.{layer_name-IsFileName, layer_name-other}
use Rattle.ts_replace.proofs.names.layer_file.Goals as goal

pub unwrap-requires : goal.unwrap-requires
unwrap-requires c = c.of.ensures.rule.1 (rw (c.copy_from_slice.ensures.after, c.layer_text.ensures) (layer_name-IsFileName c.args.number))

pub returns-clause-name : goal.returns-clause-name
returns-clause-name c =
    let named : c.unwrap.result ≡ c.copy_from_slice.new.self ++ codes ".layer" = rw c.unwrap.ensures at c.of.ensures.name in
    named ∙ ap (λ (text : List ℕ). text ++ codes ".layer") (c.copy_from_slice.ensures.after ∙ c.layer_text.ensures)

pub returns-clause-other : goal.returns-clause-other
returns-clause-other c = layer_name-other c.args.number
