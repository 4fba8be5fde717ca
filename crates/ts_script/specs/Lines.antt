-- The lines of a text.
use Rattle.std.specs.Prelude.{◌≡◌, ℕ, ◌+◌, ◌==◌, ◌||◌, nat_le, Bool, true, false, if◌then◌else◌, List, [], ◌∷◌, length, map, drop, refl}
use Rattle.std.specs.List.{list_any}
use Rattle.ts_nt.specs.Limits.{line_limit}

-- how many bytes a cutter buffers: a line, and a piece of the input behind it
abbrev pub buffer_size : ℕ
buffer_size = line_limit + 65536

-- a line feed or a carriage return
abbrev pub is_end : ℕ → Bool
is_end b = (b == 10) || (b == 13)

-- the text has no end of a line
abbrev pub HasNoEnd : List ℕ → Type 0
HasNoEnd text = list_any is_end text ≡ false

-- a byte before the first line
abbrev pub onto_first : ℕ → List (List ℕ) → List (List ℕ)
onto_first b [] = (b ∷ []) ∷ []
onto_first b (line ∷ lines) = (b ∷ line) ∷ lines

-- The lines of a text, each without its end, which is a line feed, a carriage return, or both in this order.
-- The bytes after the last end are a line where there are any. Where a return stands directly before the text,
-- a line feed at its front belongs to the end that the return began.
unfoldable pub lines_after : Bool → List ℕ → List (List ℕ)
lines_after after_return [] = []
lines_after after_return (b ∷ text) =
    if b == 13 then [] ∷ lines_after true text
    else if b == 10 then (if after_return then lines_after false text else [] ∷ lines_after false text)
    else onto_first b (lines_after false text)

abbrev pub lines_of : List ℕ → List (List ℕ)
lines_of text = lines_after false text

-- a byte before the first line, where there is one
abbrev pub onto_some : ℕ → List (List ℕ) → List (List ℕ)
onto_some b [] = []
onto_some b (line ∷ lines) = (b ∷ line) ∷ lines

-- The lines that end in a text: not the bytes behind its last end.
unfoldable pub whole_lines_after : Bool → List ℕ → List (List ℕ)
whole_lines_after after_return [] = []
whole_lines_after after_return (b ∷ text) =
    if b == 13 then [] ∷ whole_lines_after true text
    else if b == 10 then (if after_return then whole_lines_after false text else [] ∷ whole_lines_after false text)
    else onto_some b (whole_lines_after false text)

abbrev pub whole_lines : List ℕ → List (List ℕ)
whole_lines text = whole_lines_after false text

-- a line feed at the front, which belongs to the end that a return began
abbrev pub feed_of : Bool → List ℕ → ℕ
feed_of false text = 0
feed_of true [] = 0
feed_of true (b ∷ text) = if b == 10 then 1 else 0

-- How many bytes the first line takes up with its end. A line feed at the front that belongs to the end before is one
-- of them.
unfoldable pub first_length : Bool → List ℕ → ℕ
first_length after_return [] = 0
first_length after_return (b ∷ text) =
    if b == 13 then 1 + feed_of true text
    else if b == 10 then (if after_return then 1 + first_length false text else 1)
    else 1 + first_length false text

-- what a cutter lends of a line: not its bytes where it is over the limit
pub record LineView : Type 0 where
  pub bytes : List ℕ
  pub too_long : Bool

abbrev pub line_view : List ℕ → LineView
line_view line = if nat_le (length line) line_limit then record { bytes = line; too_long = false } else record { bytes = []; too_long = true }

abbrev pub overlong : LineView
overlong = record { bytes = []; too_long = true }

-- the same, where the front of the line was discarded if it was over the limit
abbrev pub view_after : Bool → List ℕ → LineView
view_after is_overlong line = if is_overlong then overlong else line_view line

-- What is lent of the lines, where these bytes follow. Of an overlong line the front was discarded, more than a line
-- may have, so it ends with the first end that follows.
unfoldable pub lines_behind : Bool → Bool → List ℕ → List LineView
lines_behind is_overlong after_return text =
    if is_overlong then overlong ∷ map line_view (drop 1 (lines_of text)) else map line_view (lines_after after_return text)

-- `ab`, the three ends, a line between two ends, and `c` without an end
lines-example : lines_of (97 ∷ 98 ∷ 10 ∷ 13 ∷ 10 ∷ 13 ∷ 10 ∷ 10 ∷ 99 ∷ []) ≡ (97 ∷ 98 ∷ []) ∷ [] ∷ [] ∷ [] ∷ (99 ∷ []) ∷ []
unfolding lines_after
lines-example = refl

-- the last end begins no line
lines-ended : lines_of (97 ∷ 13 ∷ 10 ∷ []) ≡ (97 ∷ []) ∷ []
unfolding lines_after
lines-ended = refl

-- a line is whole once the first byte of its end stands there; `c` isn't
lines-whole : whole_lines (97 ∷ 98 ∷ 10 ∷ 13 ∷ 10 ∷ 99 ∷ []) ≡ (97 ∷ 98 ∷ []) ∷ [] ∷ []
unfolding whole_lines_after
lines-whole = refl

lines-return : whole_lines (97 ∷ 13 ∷ []) ≡ (97 ∷ []) ∷ []
unfolding whole_lines_after
lines-return = refl

-- the line feed of the end before, `a`, and both bytes of its end
first_length-example : first_length true (10 ∷ 97 ∷ 13 ∷ 10 ∷ 98 ∷ []) ≡ 4
unfolding first_length
first_length-example = refl
