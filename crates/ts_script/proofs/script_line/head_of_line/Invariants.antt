use Rattle.std.proofs.Common.{◌≡◌, ◌≤◌, ◌++◌, length, take}
use Rattle.ts_script.specs.LineWords.{words_in}
use Rattle.ts_script.specs.Words.{texts}
use Rattle.ts_script.proofs.script_line.head_of_line.Given as goal

-- so many words were cut, and stand in the array
abbrev pub invariant-loop-word : goal.invariant-loop-word
invariant-loop-word l = record {
  few : l.count ≤ 6;
  room : length l.texts ≡ 6;
  words : words_in l.line ≡ texts (take l.count l.texts) ++ words_in l.rest;
}

abbrev pub decreases-loop-word : goal.decreases-loop-word
decreases-loop-word l = length l.rest
