use Rattle.std.proofs.Common.{refl, sym, ◌∙◌}
use Rattle.ts_builder.proofs.RankLemmas.{ends_by_last}
use Rattle.ts_builder.proofs.ranks.is_last.Goals as goal

pub returns-in-Some : goal.returns-in-Some
returns-in-Some c = c.eq.ensures ∙ ends_by_last c.args.terms.now c.args.term.now c.in-Some.last.now _ refl (sym c.in-Some.ensures.value)
