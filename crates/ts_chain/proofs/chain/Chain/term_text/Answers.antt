use Rattle.ts_part.specs.Views.{AppendsTerm}
use Rattle.ts_chain.specs.Views.{Appends, IsTermOf, NamesTerm}
use Rattle.ts_chain.proofs.Naming.{appends_weaker, names_term, on_ok}
use Rattle.ts_chain.proofs.NamesAtLayers.{names_term_at}
use Rattle.ts_chain.proofs.chain.Chain.term_text.Goals as goal

pub returns-clause-written : goal.returns-clause-written
returns-clause-written c =
    on_ok c.term_text.result (AppendsTerm c.part_of.result.now.facts c.args.id c.args.into.now.items c.term_text.new.into.items)
    (Appends (NamesTerm c.args.self.now c.args.id) c.args.into.now.items c.term_text.new.into.items)
    (names_term c.args.self.now c.part_of.ensures.chain c.part_of.result.now.facts c.args.id c.args.into.now.items c.term_text.new.into.items c.part_of.ensures.part)
    c.term_text.ensures.written

pub returns-clause-at : goal.returns-clause-at
returns-clause-at c = λ history k stands.
    on_ok c.term_text.result (AppendsTerm c.part_of.result.now.facts c.args.id c.args.into.now.items c.term_text.new.into.items)
    (Appends (IsTermOf history k c.args.id) c.args.into.now.items c.term_text.new.into.items)
    (λ written. appends_weaker (NamesTerm c.args.self.now c.args.id) (IsTermOf history k c.args.id) c.args.into.now.items c.term_text.new.into.items
    (λ term named. names_term_at history k c.args.self.now c.args.id term stands named)
    (names_term c.args.self.now c.part_of.ensures.chain c.part_of.result.now.facts c.args.id c.args.into.now.items c.term_text.new.into.items c.part_of.ensures.part written))
    c.term_text.ensures.written
