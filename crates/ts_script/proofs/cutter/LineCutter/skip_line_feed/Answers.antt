use Rattle.std.proofs.Common.{refl, arith}
use Rattle.ts_script.proofs.LinesLemmas.{settled_feed, settled_other}
use Rattle.ts_script.proofs.OffsetLemmas.{feed-one, feed-other}
use Rattle.ts_script.proofs.EndLemmas.{first_length-feed, first_length-other}
use Rattle.ts_script.proofs.cutter.LineCutter.skip_line_feed.Goals as goal

pub returns-then-index-eq10-clause-keeps : goal.returns-then-index-eq10-clause-keeps
returns-then-index-eq10-clause-keeps c = record {
  lines = λ left. settled_feed _ _ c.args.self.now.buffer.items left c.args.self.now.start c.args.self.now.end c.index.result.now c.args.self.now.one_of_two c.if-self.true (omega arith) (omega arith) c.index.ensures c.if-index-eq10.true;
  taken = refl;
  limit = refl;
  number = refl;
  has_ended = refl;
  offset = λ left. omega (arith, feed-one c.args.self.now.after_return c.args.self.now.buffer.items left c.args.self.now.start c.args.self.now.end c.index.result.now c.if-self.true (omega arith) (omega arith) c.index.ensures c.if-index-eq10.true);
  end = λ left. omega (arith, first_length-feed c.args.self.now.after_return c.args.self.now.buffer.items left c.args.self.now.start c.args.self.now.end c.index.result.now c.if-self.true (omega arith) (omega arith) c.index.ensures c.if-index-eq10.true);
}

pub returns-else-index-eq10-clause-keeps : goal.returns-else-index-eq10-clause-keeps
returns-else-index-eq10-clause-keeps c = record {
  lines = λ left. settled_other _ _ c.args.self.now.buffer.items left c.args.self.now.start c.args.self.now.end c.index.result.now c.args.self.now.one_of_two c.if-self.true (omega arith) (omega arith) c.index.ensures c.if-index-eq10.false;
  taken = refl;
  limit = refl;
  number = refl;
  has_ended = refl;
  offset = λ left. omega (arith, feed-other c.args.self.now.after_return c.args.self.now.buffer.items left c.args.self.now.start c.args.self.now.end c.index.result.now c.if-self.true (omega arith) (omega arith) c.index.ensures c.if-index-eq10.false);
  end = λ left. omega (arith, first_length-other c.args.self.now.after_return c.args.self.now.buffer.items left c.args.self.now.start c.args.self.now.end c.index.result.now c.if-self.true (omega arith) (omega arith) c.index.ensures c.if-index-eq10.false);
}
