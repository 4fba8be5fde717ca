use Rattle.std.proofs.Common.{◌≡◌, ◌≤◌, ◌-◌, length, take, drop}
use Rattle.ts_script.specs.LineWords.{within, onto, words_from}
use Rattle.ts_script.proofs.line_words.rest_length.Given as goal

-- so many bytes are of the word
abbrev pub invariant-loop-at : goal.invariant-loop-at
invariant-loop-at l = record {
  inside : l.at ≤ length l.text;
  words : words_from within l.text ≡ onto (take l.at l.text) (words_from within (drop l.at l.text));
}

abbrev pub decreases-loop-at : goal.decreases-loop-at
decreases-loop-at l = length l.text - l.at
