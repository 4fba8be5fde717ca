use Rattle.std.proofs.Common.{◌≡◌, ◌∙◌, List, map, IfOk, ap, subst, Bor}
use Rattle.ts_model.specs.TextTriple.{TextTriple}
use Rattle.ts_plain.proofs.content.content_of.Goals as goal

pub returns : goal.returns
returns c =
    subst (λ (these : List TextTriple). IfOk c.copies.result (λ triples. triples.items ≡ these)) (ap (map (λ (triple : Bor TextTriple). triple.now)) c.as_slice.ensures.value ∙ c.in_ok-rising.ensures) c.copies.ensures
