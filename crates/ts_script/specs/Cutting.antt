-- What a cutter keeps between two lines, and what a call gives.
use Rattle.std.specs.Prelude.{◌⊎◌, Option, None, Some, Result, Ok, Err, IfOk, IfErr, ◌≡◌, ℕ, ◌+◌, ◌-◌, ◌<◌, ◌≤◌, Bool, true, false, List, [], ◌∷◌, ◌++◌, length, drop, slice_range}
use Rattle.ts_script.specs.Lines.{HasNoEnd, LineView, lines_behind, feed_of, first_length}
use Rattle.ts_nt.specs.Limits.{line_limit}
use Rattle.ts_script.specs.declared.cutter.LineCutter.{LineCutter}
use Rattle.ts_script.specs.declared.cutter.Span.{Span}
use Rattle.ts_script.specs.declared.cutter.Line.{Line}
use Rattle.ts_script.specs.declared.cutter.InputStop.{InputStop}
use Rattle.ts_script.specs.declared.cutter.InputStop.TheVariants.{Fault, Limit}

-- How far a cutter has come.
pub record Progress : Type 0 where
  -- in bytes
  pub taken : ℕ
  pub limit : ℕ
  -- the number of the line that was given last, 0 before the first
  pub lines : ℕ
  -- whether the end of the input was seen
  pub has_ended : Bool

abbrev pub progress : LineCutter → Progress
progress c = record { taken = c.taken; limit = c.limit; lines = c.number; has_ended = c.has_ended }

-- the bytes that were taken and belong to no line so far, but for those of an overlong line that were discarded
abbrev pub buffered : LineCutter → List ℕ
buffered c = slice_range c.buffer.items c.start c.end

-- whether bytes of the next line were discarded, since it is over its limit
abbrev pub has_discarded : LineCutter → Bool
has_discarded c = c.is_overlong

-- the lines to come where these bytes are left in the source
abbrev pub lines_to_come : LineCutter → List ℕ → List LineView
lines_to_come c left = lines_behind c.is_overlong c.after_return (buffered c ++ left)

-- the number of taken bytes that lie before the next line
abbrev pub next_offset : LineCutter → ℕ
next_offset c = c.passed + feed_of c.after_return (buffered c)

-- the offset of the next line, once these bytes were taken
abbrev pub offset_behind : LineCutter → List ℕ → ℕ
offset_behind c bytes = c.passed + feed_of c.after_return (buffered c ++ bytes)

-- the offset behind the next line and its end, once these bytes were taken
abbrev pub end_behind : LineCutter → List ℕ → ℕ
end_behind c bytes = c.taken - (c.end - c.start) + first_length c.after_return (buffered c ++ bytes)

-- the lines to come stay, whatever is left in the source, and so do where the next one begins and ends, and the counts
pub record MeansSame (old new : LineCutter) : Type 0 where
  pub lines : (left : List ℕ) → lines_to_come new left ≡ lines_to_come old left
  pub taken : (progress new).taken ≡ (progress old).taken
  pub limit : (progress new).limit ≡ (progress old).limit
  pub number : (progress new).lines ≡ (progress old).lines
  pub has_ended : (progress new).has_ended ≡ (progress old).has_ended
  pub offset : (left : List ℕ) → offset_behind new left ≡ offset_behind old left
  pub end : (left : List ℕ) → end_behind new left ≡ end_behind old left

-- no whole line is buffered, and what is buffered is no more than a line may have
pub record HasNoWholeLine (c : LineCutter) : Type 0 where
  pub no_end : HasNoEnd (buffered c)
  pub small : c.end - c.start ≤ line_limit
  pub scanned : c.scanned ≡ c.end
  pub settled : c.after_return ≡ true → c.start ≡ c.end

-- a whole line is buffered: an end stands behind a line feed that belongs to the end before
abbrev pub HasWholeLine : LineCutter → Type 0
HasWholeLine c = HasNoEnd (drop (feed_of c.after_return (buffered c)) (buffered c)) → ⊥

-- the line in the buffer at a span
abbrev pub view_at : LineCutter → Span → LineView
view_at c span = record { bytes = slice_range c.buffer.items span.from span.to; too_long = span.too_long }

-- a line that is lent
abbrev pub view_of : Line → LineView
view_of line = record { bytes = line.bytes.now; too_long = line.too_long }

-- The line is the next one, whatever is left in the source, and what follows it is still to come. The line behind it
-- begins where it ends, and no byte of that one was discarded.
pub record GivesWhole (old new : LineCutter) (line : LineView) : Type 0 where
  pub lines : (left : List ℕ) → lines_to_come old left ≡ line ∷ lines_to_come new left
  pub taken : (progress new).taken ≡ (progress old).taken
  pub limit : (progress new).limit ≡ (progress old).limit
  pub number : (progress new).lines ≡ (progress old).lines + 1
  pub has_ended : (progress new).has_ended ≡ (progress old).has_ended
  pub offset : next_offset old < next_offset new
  pub end : (left : List ℕ) → offset_behind new left ≡ end_behind old left
  pub begins : has_discarded new ≡ false

-- The lines to come are those of before, once these bytes were taken, and so is where the next one begins and ends. It
-- begins where it began, or behind a line feed among these bytes that belongs to the end before.
pub record Takes (old new : LineCutter) (bytes : List ℕ) : Type 0 where
  pub lines : (more : List ℕ) → lines_to_come new more ≡ lines_to_come old (bytes ++ more)
  pub taken : (progress new).taken ≡ (progress old).taken + length bytes
  pub limit : (progress new).limit ≡ (progress old).limit
  pub number : (progress new).lines ≡ (progress old).lines
  pub offset : (more : List ℕ) → offset_behind new more ≡ offset_behind old (bytes ++ more)
  pub end : (more : List ℕ) → end_behind new more ≡ end_behind old (bytes ++ more)
  pub ended : (progress old).has_ended ≡ true → (progress new).has_ended ≡ true

-- After these bytes the line is the next one, whatever follows; or the input ends with them, and it is the last.
abbrev pub IsNext : LineCutter → LineCutter → List ℕ → LineView → Type 0
IsNext old new bytes line =
    ((more : List ℕ) → lines_to_come old (bytes ++ more) ≡ line ∷ lines_to_come new more)
    ⊎ (((progress new).has_ended ≡ true) × (lines_to_come old bytes ≡ line ∷ []) × (lines_to_come new [] ≡ []))

-- The next line is given once these bytes were taken. The line behind it begins where it ends, and no byte of that one
-- was discarded.
pub record GivesLine (old new : LineCutter) (bytes : List ℕ) (line : LineView) : Type 0 where
  pub next : IsNext old new bytes line
  pub taken : (progress new).taken ≡ (progress old).taken + length bytes
  pub limit : (progress new).limit ≡ (progress old).limit
  pub number : (progress new).lines ≡ (progress old).lines + 1
  pub offset : next_offset old < next_offset new
  pub end : next_offset new ≡ end_behind old bytes
  pub begins : has_discarded new ≡ false
  pub ended : (progress old).has_ended ≡ true → (progress new).has_ended ≡ true

-- The input has ended with these bytes, and no line is left. A line feed among them belongs to the end before.
pub record HasEnded (old new : LineCutter) (bytes : List ℕ) : Type 0 where
  pub ended : (progress new).has_ended ≡ true
  pub none : lines_to_come old bytes ≡ []
  pub after : lines_to_come new [] ≡ []
  pub taken : (progress new).taken ≡ (progress old).taken + length bytes
  pub limit : (progress new).limit ≡ (progress old).limit
  pub number : (progress new).lines ≡ (progress old).lines
  pub offset : next_offset new ≡ offset_behind old bytes

-- These bytes were taken: at least one, or none at the end or at a fault.
pub record Fills (old new : LineCutter) (bytes : List ℕ) (result : Result (Unit {0}) InputStop) : Type 0 where
  pub takes : Takes old new bytes
  pub cause : IfErr result (λ stop. (stop ≡ Fault) × HasNoWholeLine new × ((progress new).has_ended ≡ false))
  pub goes_on : IfOk result (λ _. (0 < length bytes) ⊎ ((progress new).has_ended ≡ true))
  pub ended : (progress new).has_ended ≡ true → HasNoWholeLine new × (bytes ≡ [])

-- as many bytes were taken as the limit allows, no whole line of them is left, and the end wasn't seen
pub record IsAtLimit (c : LineCutter) : Type 0 where
  pub full : (progress c).taken ≡ (progress c).limit
  pub waits : HasNoWholeLine c
  pub unended : (progress c).has_ended ≡ false

-- these bytes were taken, no whole line is left, none is given, and the end wasn't seen
pub record IsStopped (old new : LineCutter) (bytes : List ℕ) (stop : InputStop) : Type 0 where
  pub takes : Takes old new bytes
  pub waits : HasNoWholeLine new
  pub unended : (progress new).has_ended ≡ false
  pub limited : stop ≡ Limit → IsAtLimit new

-- what the call gives once these bytes were taken
abbrev pub NextIs : {A : Type 0} → (A → LineView) → LineCutter → LineCutter → List ℕ → Result (Option A) InputStop → Type 0
NextIs show old new bytes (Ok (Some line)) = GivesLine old new bytes (show line)
NextIs show old new bytes (Ok None) = HasEnded old new bytes
NextIs show old new bytes (Err stop) = IsStopped old new bytes stop

-- nothing was taken yet
pub record IsFresh (c : LineCutter) (most : ℕ) : Type 0 where
  pub limit : (progress c).limit ≡ most
  pub taken : (progress c).taken ≡ 0
  pub offset : next_offset c ≡ 0
  pub number : (progress c).lines ≡ 0
  pub has_ended : (progress c).has_ended ≡ false

-- These bytes were taken, and the limit stays. Of the lines to come the first were given, whatever follows these bytes, unless the end
-- was seen.
pub record Took (old new : LineCutter) (bytes : List ℕ) : Type 0 where
  pub taken : (progress new).taken ≡ (progress old).taken + length bytes
  pub limit : (progress new).limit ≡ (progress old).limit
  pub given : List LineView
  pub number : (progress new).lines ≡ (progress old).lines + length given
  pub lines : (progress new).has_ended ≡ false → (more : List ℕ) → lines_to_come old (bytes ++ more) ≡ given ++ lines_to_come new more
  pub ended : (progress old).has_ended ≡ true → (progress new).has_ended ≡ true

-- where the end was seen, nothing is left
abbrev pub HasSeenAll : LineCutter → List ℕ → Type 0
HasSeenAll c left = (progress c).has_ended ≡ true → left ≡ []
