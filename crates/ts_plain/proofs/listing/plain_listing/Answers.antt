use Rattle.std.proofs.Common.{◌≡◌, ◌∙◌, List, map, IfOk, ap, subst}
use denote.Ref.{Bor}
use Rattle.ts_model.specs.TextTriple.{TextTriple}
use Rattle.ts_plain.proofs.listing.plain_listing.Goals as goal

pub returns : goal.returns
returns c =
    subst (λ (these : List TextTriple). IfOk c.copies.result (λ triples. triples.items ≡ these))
    (ap (map (λ (triple : Bor TextTriple). triple.now)) c.as_slice.ensures.value ∙ c.in_ok-listed.ensures) c.copies.ensures
