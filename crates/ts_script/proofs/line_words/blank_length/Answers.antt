use Rattle.std.proofs.Common.{refl, sym, ◌∙◌, arith}
use Rattle.ts_script.proofs.LineWordLemmas.{blank-step}
use Rattle.ts_script.proofs.line_words.blank_length.Goals as goal

pub loop-at-preserved : goal.loop-at-preserved
loop-at-preserved c = record {
  inside = omega arith;
  words = c.loop-at.invariant.words ∙ blank-step c.args.text.now c.loop-at.at _ c.loop-at-test.true refl (sym c.is_blank.ensures ∙ c.if-is_blank.true);
}
