use Rattle.std.proofs.Common.{◌≡◌, List, map, IfOk, subst, Vec, Global}
use Rattle.std.proofs.lemmas.Result.{IfOk-weaker}
use denote.Ref.{Bor}
use Rattle.ts_model.specs.History.{content_at}
use Rattle.ts_model.specs.Sets.{members}
use Rattle.ts_model.specs.TextTriple.{TextTriple}
use Rattle.ts_plain.specs.Chain.{content_over}
use Rattle.ts_plain.specs.History.{history_of}
use Rattle.ts_plain.proofs.ChainLaws.{members-chain}
use Rattle.ts_plain.proofs.LayerLaws.{seen}
use Rattle.ts_plain.proofs.content.rising_of.Goals as goal

pub returns : goal.returns
returns c =
    IfOk-weaker c.content.result
    (λ (v : Vec (Bor TextTriple) Global). map (λ triple. triple.now) v.items ≡ members (content_over (seen c.as_slice.result.now)))
    (λ (v : Vec (Bor TextTriple) Global). map (λ triple. triple.now) v.items ≡ members (content_at (history_of c.args.layers.now) c.args.number))
    (λ v content. members-chain (history_of c.args.layers.now) c.args.number c.in_ok-chain.chain.items c.as_slice.result.now v.items c.in_ok-chain.ensures c.as_slice.ensures.value content)
    c.content.ensures
