use Rattle.std.proofs.Common.{refl, sym, ◌∙◌, arith}
use Rattle.ts_script.specs.LineWords.{within}
use Rattle.ts_script.proofs.LineWordLemmas.{onto-within, one_more, within-step, word-cut, word-ends}
use Rattle.ts_script.proofs.line_words.rest_length.Goals as goal

pub loop-at-init : goal.loop-at-init
loop-at-init c = record {
  inside = omega arith;
  words = sym (onto-within c.args.text.now);
}

pub loop-at-preserved : goal.loop-at-preserved
loop-at-preserved c = record {
  inside = omega arith;
  words = one_more within within _ c.args.text.now c.loop-at.at _ c.loop-at-test.true refl (within-step _ (sym c.is_blank.ensures ∙ c.if-not-is_blank.true)) c.loop-at.invariant.words;
}

pub returns-else-not-is_blank-clause-words : goal.returns-else-not-is_blank-clause-words
returns-else-not-is_blank-clause-words c =
    word-cut c.args.text.now c.loop-at.at _ c.loop-at-test.true refl (sym c.is_blank.ensures ∙ c.if-not-is_blank.false) _ c.loop-at.invariant.words

pub returns-after-loop-at-clause-words : goal.returns-after-loop-at-clause-words
returns-after-loop-at-clause-words c = word-ends c.args.text.now c.loop-at.at (omega arith) _ c.loop-at.invariant.words
