use Rattle.ts_part.proofs.part.Part.additions.Goals as goal

pub returns : goal.returns
returns c = c.additions.ensures c.args.self.now.facts c.sections.ensures
