use Rattle.ts_part.specs.Views.{AppendsPredicate}
use Rattle.ts_chain.specs.Views.{Appends, IsPredicateOf, NamesPredicate}
use Rattle.ts_chain.proofs.Naming.{appends_weaker, names_predicate, on_ok}
use Rattle.ts_chain.proofs.NamesAtLayers.{names_predicate_at}
use Rattle.ts_chain.proofs.chain.Chain.predicate_text.Goals as goal

pub returns-clause-written : goal.returns-clause-written
returns-clause-written c =
    on_ok c.predicate_text.result (AppendsPredicate c.part_of.result.now.facts c.args.id c.args.into.now.items c.predicate_text.new.into.items)
    (Appends (NamesPredicate c.args.self.now c.args.id) c.args.into.now.items c.predicate_text.new.into.items)
    (names_predicate c.args.self.now c.part_of.ensures.chain c.part_of.result.now.facts c.args.id c.args.into.now.items c.predicate_text.new.into.items c.part_of.ensures.part)
    c.predicate_text.ensures.written

pub returns-clause-at : goal.returns-clause-at
returns-clause-at c = λ history k stands.
    on_ok c.predicate_text.result (AppendsPredicate c.part_of.result.now.facts c.args.id c.args.into.now.items c.predicate_text.new.into.items)
    (Appends (IsPredicateOf history k c.args.id) c.args.into.now.items c.predicate_text.new.into.items)
    (λ written. appends_weaker (NamesPredicate c.args.self.now c.args.id) (IsPredicateOf history k c.args.id) c.args.into.now.items c.predicate_text.new.into.items
    (λ term named. names_predicate_at history k c.args.self.now c.args.id term stands named)
    (names_predicate c.args.self.now c.part_of.ensures.chain c.part_of.result.now.facts c.args.id c.args.into.now.items c.predicate_text.new.into.items c.part_of.ensures.part written))
    c.predicate_text.ensures.written
