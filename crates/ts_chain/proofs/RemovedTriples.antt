-- The terms of a triple that a layer removes are terms of the layer, and its numbers name them.
use Rattle.std.proofs.Common.{◌≡◌, ℕ, List, true, sym, ap, ◌∙◌}
use Rattle.std.proofs.lemmas.Bool.{and_parts}
use Rattle.ts_model.specs.History.{History, content_at, content_at_parent, parent_at, removals_at}
use Rattle.ts_model.specs.Sets.{contains}
use Rattle.ts_model.specs.TextTriple.{TextTriple}
use Rattle.ts_model.proofs.HistoryLaws.{Found, found}
use Rattle.ts_part.specs.Facts.{Facts}
use Rattle.ts_part.specs.Numbers.{id_triple}
use Rattle.ts_part.proofs.ContentStep.{removals_lost}
use Rattle.ts_chain.specs.Spelled.{IsSpelledBy}
use Rattle.ts_chain.specs.Stands.{StandsFor}
use Rattle.ts_chain.proofs.OneHistory.{parent_proper}
use Rattle.ts_chain.proofs.StepsContent.{in_lost, still_triple}
use Rattle.ts_chain.proofs.Strangers.{triple_named}

pub removed_named : (history : History) (k : ℕ) (parts : List Facts) (triple : TextTriple) → StandsFor parts history k → contains (removals_at history k) triple ≡ true
    → IsSpelledBy parts (id_triple history k triple) triple
removed_named history k parts triple stands gone =
    let it : Found history k = found history k stands.there in
    let from = parent_at history k in
    let proper = parent_proper history stands.kept k stands.there in
    let was : contains (content_at_parent history from) triple ≡ true =
    (and_parts (contains (content_at_parent history from) triple) _
    (sym (in_lost history stands.kept k from proper triple) ∙ ap (λ set. contains set triple) (sym (removals_lost history stands.kept k it.0 it.1)) ∙ gone)).0 in
    triple_named history k parts triple stands (still_triple history stands.kept from k proper triple was)
