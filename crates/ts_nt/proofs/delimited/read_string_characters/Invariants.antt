use denote.Shadow.{shadow}
use denote.Text.{Utf8}
use Rattle.std.proofs.Common.{◌≡◌, ℕ, List, ◌++◌, length, chars, flat_map, string_bytes}
use Rattle.ts_model.specs.Literal.{string_character}
use Rattle.ts_nt.specs.Items.{string_item}
use Rattle.ts_nt.specs.Reading.{Reads}
use Rattle.ts_nt.proofs.delimited.read_string_characters.Given as goal

abbrev pub invariant-loop-c : goal.invariant-loop-c
invariant-loop-c l = record {
  is_text : shadow (Utf8 l.rest);
  read : (characters : List ℕ)
      × Reads string_item (chars l.text) characters (chars l.rest)
      × (string_bytes l.into ≡ string_bytes l.fn.into ++ flat_map string_character characters);
}

abbrev pub decreases-loop-c : goal.decreases-loop-c
decreases-loop-c l = length (chars l.rest)
