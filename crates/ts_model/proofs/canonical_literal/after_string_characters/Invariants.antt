use Rattle.std.proofs.Common.{◌↔◌, ℕ, List, length}
use denote.Text.{Utf8}
use denote.Shadow.{shadow}
use Rattle.ts_model.specs.Literal.{string_character}
use Rattle.ts_model.specs.Delimited.{EndsAt}
use Rattle.ts_model.proofs.canonical_literal.after_string_characters.Given as goal

abbrev pub invariant-loop-rest : goal.invariant-loop-rest
invariant-loop-rest l = record {
  is_text : shadow (Utf8 l.left);
  same_end : (rest : List ℕ) → EndsAt string_character 0x22 l.text rest ↔ EndsAt string_character 0x22 l.left rest;
}

abbrev pub decreases-loop-rest : goal.decreases-loop-rest
decreases-loop-rest l = length l.left
