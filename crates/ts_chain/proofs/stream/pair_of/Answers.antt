use Rattle.std.proofs.Common.{ap, sym, ◌∙◌, ◌∷◌, option_to_list}
use Rattle.ts_chain.specs.Streams.{left_in_all}
use Rattle.ts_chain.proofs.PairLemmas.{left-alone}
use Rattle.ts_chain.proofs.stream.pair_of.Goals as goal

pub returns-in-None-clause-left : goal.returns-in-None-clause-left
returns-in-None-clause-left c = left-alone c.args.newer c.requires.newer ∙ sym (ap (λ o. left_in_all (c.args.newer ∷ option_to_list o)) c.in-None.is)
