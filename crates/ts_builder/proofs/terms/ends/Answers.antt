use Rattle.std.proofs.Common.{arith, subst}
use Rattle.std.proofs.lemmas.Grind.{common_steps}
use Rattle.std.proofs.lemmas.List.Elements.{All-more}
use Rattle.ts_model.specs.TextTriple.{IsTriple}
use Rattle.ts_builder.proofs.terms.ends.Goals as goal

pub loop-triple-preserved : goal.loop-triple-preserved
loop-triple-preserved c = record {
  terms = grind (arith, common_steps);
  kinds = All-more IsTriple c.args.triples.now c.loop-triple.triple-index c.triple-item.result c.loop-triple-test.true c.loop-triple.invariant.kinds
      (subst IsTriple c.triple-item.is c.subject.ensures.is_triple);
}
