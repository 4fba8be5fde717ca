use denote.Shadow.{shadow}
use denote.Text.{Utf8}
use Rattle.std.proofs.Common.{◌≡◌, ◌-◌, ◌<◌, ◌^◌, chars}
use Rattle.ts_nt.proofs.HexDigits.{digits_from}
use Rattle.ts_nt.proofs.items.hex_digits.Given as goal

abbrev pub invariant-loop : goal.invariant-loop
invariant-loop l = record {
  is_text : shadow (Utf8 l.rest);
  small : l.number < 16 ^ l.counter;
  same : digits_from l.number (l.count - l.counter) (chars l.rest) ≡ digits_from 0 l.count (chars l.text);
}
