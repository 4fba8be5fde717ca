use Rattle.ts_chain.proofs.OneName.{each_predicate, each_term, one_predicate, one_term}
use Rattle.ts_chain.proofs.RemovedTriples.{removed_named}
use Rattle.ts_chain.proofs.Strangers.{predicate_named, term_named}
use Rattle.ts_chain.proofs.law.numbers_name_terms.Goals as goal

pub returns-clause-one_term : goal.returns-clause-one_term
returns-clause-one_term c = λ parts id a b chain. one_term parts chain id a b

pub returns-clause-one_predicate : goal.returns-clause-one_predicate
returns-clause-one_predicate c = λ parts id a b chain. one_predicate parts chain id a b

pub returns-clause-each_term : goal.returns-clause-each_term
returns-clause-each_term c = λ parts id chain. each_term parts chain id

pub returns-clause-each_predicate : goal.returns-clause-each_predicate
returns-clause-each_predicate c = λ parts id chain. each_predicate parts chain id

pub returns-clause-terms : goal.returns-clause-terms
returns-clause-terms c = term_named

pub returns-clause-predicates : goal.returns-clause-predicates
returns-clause-predicates c = predicate_named

pub returns-clause-removed : goal.returns-clause-removed
returns-clause-removed c = removed_named
