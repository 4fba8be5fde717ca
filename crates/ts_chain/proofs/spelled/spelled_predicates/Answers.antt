use Rattle.ts_model.specs.declared.term.TermKind.TheVariants.{Predicate}
use Rattle.ts_chain.specs.Views.{NamesPredicate}
use Rattle.ts_chain.proofs.SpelledLists.{one_predicate, put_counted, put_ids, put_named, put_once, put_rule}
use Rattle.ts_chain.proofs.SortedTerms.{terms_are}
use Rattle.ts_chain.proofs.spelled.spelled_predicates.Goals as goal

pub returns-clause-predicates : goal.returns-clause-predicates
returns-clause-predicates c = λ history k stands.
    put_rule (NamesPredicate c.args.chain.now) Predicate c.args.ids.now _ c.in_ok-entries.ensures.named c.in_ok-entries.ensures.ids c.requires.rise _ _ _ c.new-spelled_ids.ensures.items c.in_ok-predicates.ensures
    (one_predicate history k c.args.chain.now stands)

pub returns-clause-ids : goal.returns-clause-ids
returns-clause-ids c = λ id.
    put_ids (NamesPredicate c.args.chain.now) Predicate c.args.ids.now _ c.in_ok-entries.ensures.named c.in_ok-entries.ensures.ids c.requires.rise _ _ _ c.new-spelled_ids.ensures.items c.in_ok-predicates.ensures id

pub returns-clause-once : goal.returns-clause-once
returns-clause-once c =
    put_once (NamesPredicate c.args.chain.now) Predicate c.args.ids.now _ c.in_ok-entries.ensures.named c.in_ok-entries.ensures.ids c.requires.rise _ _ _ c.new-spelled_ids.ensures.items c.in_ok-predicates.ensures

pub returns-clause-counted : goal.returns-clause-counted
returns-clause-counted c =
    put_counted (NamesPredicate c.args.chain.now) Predicate c.args.ids.now _ c.in_ok-entries.ensures.named c.in_ok-entries.ensures.ids c.requires.rise _ _ _ c.new-spelled_ids.ensures.items c.in_ok-predicates.ensures

pub returns-clause-named : goal.returns-clause-named
returns-clause-named c =
    put_named (NamesPredicate c.args.chain.now) Predicate c.args.ids.now _ c.in_ok-entries.ensures.named c.in_ok-entries.ensures.ids c.requires.rise _ _ _ c.new-spelled_ids.ensures.items c.in_ok-predicates.ensures

pub returns-clause-predicates_are : goal.returns-clause-predicates_are
returns-clause-predicates_are c = terms_are (NamesPredicate c.args.chain.now) Predicate _ c.in_ok-entries.ensures.named _ _ _ c.in_ok-predicates.ensures
