use Rattle.ts_chain.proofs.GrownChains.{same_layer_facts, same_rollup_facts, same_select, stands_grown}
use Rattle.ts_chain.proofs.grown.new_layers_change_no_others.Goals as goal
use Rattle.ts_chain.proofs.GrownHistories.{IsWellKept-grown, same_content_at, same_births, same_numbers, same_totals}
use Rattle.std.proofs.Common.{Some}

pub returns-clause-kept : goal.returns-clause-kept
returns-clause-kept c = λ history n layer kept fresh new. IsWellKept-grown history kept n fresh layer new

pub returns-clause-content : goal.returns-clause-content
returns-clause-content c = λ history n k layer kept fresh stands. same_content_at history kept n fresh layer k stands

pub returns-clause-births : goal.returns-clause-births
returns-clause-births c = λ history n k layer term kept fresh stands. same_births history kept n fresh layer k term stands

pub returns-clause-numbers : goal.returns-clause-numbers
returns-clause-numbers c = λ history n k layer term kept fresh stands. same_numbers history kept n fresh layer k term stands

pub returns-clause-totals : goal.returns-clause-totals
returns-clause-totals c = λ history n k layer kept fresh stands. same_totals history kept n fresh layer (Some k) stands

pub returns-clause-listings : goal.returns-clause-listings
returns-clause-listings c = λ history n k layer pattern kept fresh stands. same_select history kept n fresh layer k stands pattern

pub returns-clause-chains : goal.returns-clause-chains
returns-clause-chains c = λ history n k layer parts fresh new stands. stands_grown history stands.kept n fresh layer parts k new stands

pub returns-clause-layers : goal.returns-clause-layers
returns-clause-layers c = λ history n k layer kept fresh stands. same_layer_facts history kept n fresh layer k stands

pub returns-clause-rollups : goal.returns-clause-rollups
returns-clause-rollups c = λ history n k from layer kept fresh stands below. same_rollup_facts history kept n fresh layer k stands from below
