use Rattle.std.proofs.Common.{◌≡◌, ◌≤◌, ◌-◌, length, drop}
use Rattle.ts_script.specs.LineWords.{words_in}
use Rattle.ts_script.proofs.line_words.blank_length.Given as goal

-- so many blanks were passed
abbrev pub invariant-loop-at : goal.invariant-loop-at
invariant-loop-at l = record {
  inside : l.at ≤ length l.text;
  words : words_in l.text ≡ words_in (drop l.at l.text);
}

abbrev pub decreases-loop-at : goal.decreases-loop-at
decreases-loop-at l = length l.text - l.at
