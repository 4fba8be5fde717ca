use Rattle.ts_script.proofs.LineWordLemmas.{no_word}
use Rattle.ts_script.proofs.line_words.cut_word.Goals as goal

pub returns-then-is_empty-clause-words : goal.returns-then-is_empty-clause-words
returns-then-is_empty-clause-words c = no_word c.args.text.now c.blank_length.result c.blank_length.ensures.words c.if-is_empty.ensures
