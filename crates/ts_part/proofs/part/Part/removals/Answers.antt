use Rattle.ts_part.proofs.part.Part.removals.Goals as goal

pub returns : goal.returns
returns c = c.removals.ensures c.args.self.now.facts c.sections.ensures
