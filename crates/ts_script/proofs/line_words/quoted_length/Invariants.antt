use Rattle.std.proofs.Common.{◌≡◌, ◌≤◌, ◌-◌, false, length, take, drop}
use Rattle.ts_script.specs.LineWords.{quoted, onto, words_from}
use Rattle.ts_script.proofs.line_words.quoted_length.Given as goal

-- so many bytes are of the word, whose quote isn't closed among them
abbrev pub invariant-loop-at : goal.invariant-loop-at
invariant-loop-at l = record {
  inside : l.at ≤ length l.text;
  words : words_from (quoted false) l.text ≡ onto (take l.at l.text) (words_from (quoted l.odd) (drop l.at l.text));
}

abbrev pub decreases-loop-at : goal.decreases-loop-at
decreases-loop-at l = length l.text - l.at
