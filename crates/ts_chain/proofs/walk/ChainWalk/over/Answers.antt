use Rattle.std.proofs.Common.{ap, map, ◌∙◌}
use Rattle.ts_chain.specs.Streams.{coming}
use Rattle.ts_chain.proofs.NamedLemmas.{walk-left}
use Rattle.ts_chain.proofs.WalkedLemmas.{coming-walked}
use Rattle.ts_chain.proofs.walk.ChainWalk.over.Goals as goal

pub returns : goal.returns
returns c =
    walk-left c.in_ok-stream.stream c.in_ok-streams.streams.items c.in_ok-stream.ensures.some c.in_ok-stream.ensures.none
    ∙ ap coming c.in_ok-streams.ensures.left
    ∙ coming-walked (map (λ part. part.value.facts) c.args.parts.now) c.args.pattern c.args.after
