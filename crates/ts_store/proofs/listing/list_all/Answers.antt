use Rattle.std.proofs.Common.{List, false, subst}
use Rattle.ts_model.specs.TextTriple.{TextTriple}
use Rattle.ts_store.specs.Does.{Answers}
use Rattle.ts_store.specs.Step.{listing_text}
use Rattle.ts_store.proofs.PrefixLaws.{all_fit, triples_lent}
use Rattle.ts_store.proofs.listing.list_all.Goals as goal

pub returns-clause-answers : goal.returns-clause-answers
returns-clause-answers g c =
    subst (λ (triples : List TextTriple). Answers (listing_text triples) false c.list.result (g.W.Disk.outside c.args.site.now) (g.W.Disk.outside c.list.new.site)) (all_fit (triples_lent c.args.triples.now)) c.list.ensures.answers
