use Rattle.std.proofs.Common.{◌++◌, sym, ap, ◌∙◌}
use Rattle.std.specs.Option.{option_map}
use Rattle.ts_chain.specs.Chain.{parts_or_none}
use Rattle.ts_rollup.specs.Rolled.{beyond, more_than}
use Rattle.ts_rollup.proofs.WholeWalks.{all_gained, none_lost, whole_walk}
use Rattle.ts_rollup.proofs.difference.difference_of.Goals as goal

pub returns-in_ok-found-in-Some-clause-gained : goal.returns-in_ok-found-in-Some-clause-gained
returns-in_ok-found-in-Some-clause-gained c =
    c.in_ok-found-in-Some.ensures.gained
    ∙ (λ i. beyond ((c.in_ok-upper.ensures.walked ∙ whole_walk c.args.chain.now) i) ((c.in_ok-lower-in-Some.ensures.walked ∙ whole_walk c.in-Some.chain.now) i))
    ∙ ap (λ upto. more_than c.args.chain.now (parts_or_none (option_map (λ chain. chain.now) upto))) (sym c.in-Some.is)

pub returns-in_ok-found-in-Some-clause-lost : goal.returns-in_ok-found-in-Some-clause-lost
returns-in_ok-found-in-Some-clause-lost c =
    c.in_ok-found-in-Some.ensures.lost
    ∙ (λ i. beyond ((c.in_ok-lower-in-Some.ensures.walked ∙ whole_walk c.in-Some.chain.now) i) ((c.in_ok-upper.ensures.walked ∙ whole_walk c.args.chain.now) i))
    ∙ ap (λ upto. more_than (parts_or_none (option_map (λ chain. chain.now) upto)) c.args.chain.now) (sym c.in-Some.is)

pub returns-in_ok-append_rest-in-None-clause-gained : goal.returns-in_ok-append_rest-in-None-clause-gained
returns-in_ok-append_rest-in-None-clause-gained c =
    c.in_ok-append_rest-in-None.ensures
    ∙ ap (λ l. l ++ c.in_ok-upper.upper) c.new-gained.ensures.items
    ∙ c.in_ok-upper.ensures.walked ∙ whole_walk c.args.chain.now ∙ all_gained c.args.chain.now
    ∙ ap (λ upto. more_than c.args.chain.now (parts_or_none (option_map (λ chain. chain.now) upto))) (sym c.in-None.is)

pub returns-in_ok-append_rest-in-None-clause-lost : goal.returns-in_ok-append_rest-in-None-clause-lost
returns-in_ok-append_rest-in-None-clause-lost c =
    c.new.ensures.items ∙ none_lost c.args.chain.now
    ∙ ap (λ upto. more_than (parts_or_none (option_map (λ chain. chain.now) upto)) c.args.chain.now) (sym c.in-None.is)
