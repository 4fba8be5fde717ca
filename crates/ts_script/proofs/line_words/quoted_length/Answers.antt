use Rattle.std.proofs.Common.{false, refl, sym, arith}
use Rattle.ts_script.specs.LineWords.{quoted, within}
use Rattle.ts_script.proofs.LineWordLemmas.{onto-quoted, one_more, quoted-step, closes-quote, backslash, other-byte, quoted-ends}
use Rattle.ts_script.proofs.line_words.quoted_length.Goals as goal

pub loop-at-init : goal.loop-at-init
loop-at-init c = record {
  inside = omega arith;
  words = sym (onto-quoted false c.args.text.now);
}

pub returns-then-not-odd-clause-words : goal.returns-then-not-odd-clause-words
returns-then-not-odd-clause-words c =
    one_more (quoted c.loop-at.odd) within _ c.args.text.now c.loop-at.at _ c.loop-at-test.true refl
    (quoted-step c.loop-at.odd _ within (closes-quote c.loop-at.odd _ c.if-byte-eq34.true c.if-not-odd.true)) c.loop-at.invariant.words

pub loop-at-preserved-then-byte-eq92 : goal.loop-at-preserved-then-byte-eq92
loop-at-preserved-then-byte-eq92 c = record {
  inside = omega arith;
  words = one_more (quoted c.loop-at.odd) _ _ c.args.text.now c.loop-at.at _ c.loop-at-test.true refl
      (quoted-step c.loop-at.odd _ _ (backslash c.loop-at.odd _ c.if-byte-eq92.true)) c.loop-at.invariant.words;
}

pub loop-at-preserved : goal.loop-at-preserved
loop-at-preserved c = record {
  inside = omega arith;
  words = one_more (quoted c.loop-at.odd) _ _ c.args.text.now c.loop-at.at _ c.loop-at-test.true refl
      (quoted-step c.loop-at.odd _ _ (other-byte c.loop-at.odd _ c.else-byte-eq34.either c.if-byte-eq92.false)) c.loop-at.invariant.words;
}

pub returns-clause-words : goal.returns-clause-words
returns-clause-words c = quoted-ends c.args.text.now c.loop-at.at c.loop-at.odd (omega arith) _ c.loop-at.invariant.words
