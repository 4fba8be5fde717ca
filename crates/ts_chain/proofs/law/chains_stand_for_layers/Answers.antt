use Rattle.ts_chain.proofs.Strangers.{content_named, layer_at, one_predicate, one_term, strangers}
use Rattle.ts_chain.proofs.ReadParts.{layers_stand, read_names, read_stands}
use Rattle.ts_chain.proofs.StepsContent.{steps_content}
use Rattle.ts_chain.proofs.StepsLink.{steps_link, steps_total}
use Rattle.ts_chain.proofs.law.chains_stand_for_layers.Goals as goal

pub returns-clause-read : goal.returns-clause-read
returns-clause-read c = read_stands

pub returns-clause-linked : goal.returns-clause-linked
returns-clause-linked c = steps_link

pub returns-clause-totals : goal.returns-clause-totals
returns-clause-totals c = steps_total

pub returns-clause-content : goal.returns-clause-content
returns-clause-content c = steps_content

pub returns-clause-layers : goal.returns-clause-layers
returns-clause-layers c = layers_stand

pub returns-clause-spelled : goal.returns-clause-spelled
returns-clause-spelled c = content_named

pub returns-clause-one_term : goal.returns-clause-one_term
returns-clause-one_term c = λ history k id parts a b. one_term history k parts id a b

pub returns-clause-one_predicate : goal.returns-clause-one_predicate
returns-clause-one_predicate c = λ history k id parts a b. one_predicate history k parts id a b

pub returns-clause-strangers : goal.returns-clause-strangers
returns-clause-strangers c = strangers

pub returns-clause-layer : goal.returns-clause-layer
returns-clause-layer c = layer_at

pub returns-clause-names : goal.returns-clause-names
returns-clause-names c = read_names
