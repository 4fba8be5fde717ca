-- Which triples a pattern takes.
use Rattle.std.specs.Prelude.{Bool, true, ◌&&◌, Option, Some, None}
use Rattle.std.specs.Ordering.{eq_by_cmp}
use Rattle.ts_model.specs.declared.pattern.Pattern.{Pattern}
use Rattle.ts_model.specs.TextTerm.{TextTerm}
use Rattle.ts_model.specs.TextTriple.{TextTriple}
use Rattle.ts_model.specs.Order.{term_cmp}

-- a term that is given fits itself alone; where none is given, every term fits
abbrev pub term_fits : Option TextTerm → TextTerm → Bool
term_fits None term = true
term_fits (Some given) term = eq_by_cmp term_cmp given term

abbrev pub fits : Pattern → TextTriple → Bool
fits pattern triple = term_fits pattern.subject triple.subject && term_fits pattern.predicate triple.predicate && term_fits pattern.object triple.object
