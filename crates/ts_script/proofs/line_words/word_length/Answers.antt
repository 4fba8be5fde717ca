use Rattle.std.proofs.Common.{◌+◌}
use Rattle.ts_script.proofs.LineWordLemmas.{from_on, plain-some, plain-word, quoted-word}
use Rattle.ts_script.proofs.line_words.word_length.Goals as goal

pub returns-then-text-ne34-clause-some : goal.returns-then-text-ne34-clause-some
returns-then-text-ne34-clause-some c = plain-some c.args.text.now c.rest_length.result c.requires.some c.requires.begins c.rest_length.ensures.words

pub returns-then-text-ne34-clause-words : goal.returns-then-text-ne34-clause-words
returns-then-text-ne34-clause-words c = plain-word c.args.text.now c.rest_length.result c.requires.some c.requires.begins c.if-text-ne34.true c.rest_length.ensures.words

pub returns-clause-words : goal.returns-clause-words
returns-clause-words c =
    quoted-word c.args.text.now c.quoted_length-closed.result c.rest_length-2.result c.requires.some c.if-text-ne34.false
    (rw (from_on c.args.text.now 1) at c.quoted_length-closed.ensures.words)
    (rw (from_on c.args.text.now (1 + c.quoted_length-closed.result)) at c.rest_length-2.ensures.words)
