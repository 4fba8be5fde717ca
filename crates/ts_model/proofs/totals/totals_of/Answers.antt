use Rattle.std.proofs.Common.{ℕ, List, [], ◌∷◌, Bor, ap, ◌∙◌}
use Rattle.ts_model.specs.TextTerm.{TextTerm}
use Rattle.ts_model.specs.TextTriple.{TextTriple}
use Rattle.ts_model.specs.Order.{term_cmp}
use Rattle.ts_model.specs.Sets.{from_list, size}
use Rattle.ts_model.proofs.LentLaws.{map-lent}
use Rattle.ts_model.proofs.ListLaws.{flat_map-map}
use Rattle.ts_model.proofs.totals.totals_of.Goals as goal

abbrev different : List TextTerm → ℕ
different terms = size (from_list {R = term_cmp} terms)

pub returns-clause-terms : goal.returns-clause-terms
returns-clause-terms c =
    c.distinct.ensures
    ∙ ap different (c.in_ok-terms.ensures ∙ flat_map-map (λ (triple : TextTriple). triple.subject ∷ triple.object ∷ []) (λ (triple : Bor TextTriple). triple.now) c.args.triples.now)

pub returns-clause-predicates : goal.returns-clause-predicates
returns-clause-predicates c =
    c.distinct-2.ensures
    ∙ ap different (c.in_ok-predicates.ensures ∙ map-lent (λ (triple : TextTriple). triple.predicate) c.args.triples.now)
