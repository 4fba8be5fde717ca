-- What reading the next command of a script gives.
use Rattle.std.specs.Prelude.{◌≡◌, ℕ, ◌+◌, Bool, true, false, List, [], ◌++◌, length, map, Option, None, Some, Result}
use Rattle.ts_model.specs.declared.signed.SignedTriple.{SignedTriple}
use Rattle.ts_script.specs.Cutting.{lines_to_come, progress, HasNoWholeLine, HasSeenAll}
use Rattle.ts_script.specs.Lines.{line_view}
use Rattle.ts_script.specs.Script.{HasNoWholeCommand, IsNextCommand, IsPassedOver, IsWholeCommand}
use Rattle.ts_script.specs.ScriptBody.{AreAll, GoesOn, IsBodyUpTo}
use Rattle.ts_script.specs.declared.body.BodyFault.{BodyFault}
use Rattle.ts_script.specs.declared.command.Command.{Command}
use Rattle.ts_script.specs.declared.cutter.LineCutter.{LineCutter}

-- some lines were read as a body, as many as were given
pub record ReadsBody (old new : LineCutter) (read : Result (List SignedTriple) BodyFault) (is_closed : Bool) : Type 0 where
  pub taken : List (List ℕ)
  pub rest : List (List ℕ)
  pub is : IsBodyUpTo (progress old).lines taken rest read is_closed
  pub number : (progress new).lines ≡ (progress old).lines + length taken

-- the body is the first of the lines that were to come, and the lines behind it are still to come
pub record GivesBody (old new : LineCutter) (left : List ℕ) (lines : List (List ℕ)) (read : Result (List SignedTriple) BodyFault) (is_closed : Bool) : Type 0 where
  pub taken : List (List ℕ)
  pub rest : List (List ℕ)
  pub all : lines ≡ taken ++ rest
  pub is : IsBodyUpTo (progress old).lines taken rest read is_closed
  pub to_come : lines_to_come new left ≡ map line_view rest
  pub number : (progress new).lines ≡ (progress old).lines + length taken
  pub seen : HasSeenAll new left
  pub closed : (progress new).has_ended ≡ false → is_closed ≡ true

-- the lines don't end the body, no whole line is left of the bytes that were taken, and the end wasn't seen
pub record WaitsForEnd (old new : LineCutter) (lines : List (List ℕ)) : Type 0 where
  pub given : List (List ℕ)
  pub rest : List (List ℕ)
  pub all : lines ≡ given ++ rest
  pub goes_on : AreAll GoesOn given
  pub number : (progress new).lines ≡ (progress old).lines + length given
  pub waits : HasNoWholeLine new
  pub unended : (progress new).has_ended ≡ false

-- The command is the next of the lines that were to come, and the lines behind it are still to come. It is whole, unless the end was
-- seen.
pub record GivesCommand (old new : LineCutter) (left : List ℕ) (lines : List (List ℕ)) (asked : Command) : Type 0 where
  pub taken : List (List ℕ)
  pub rest : List (List ℕ)
  pub next : IsNextCommand (progress old).lines lines asked taken rest
  pub to_come : lines_to_come new left ≡ map line_view rest
  pub number : (progress new).lines ≡ (progress old).lines + length taken
  pub seen : HasSeenAll new left
  pub whole : (progress new).has_ended ≡ false → IsWholeCommand (progress old).lines taken asked

-- No command stands whole in the lines that were given, no whole line is left of the bytes that were taken, and the end wasn't seen.
pub record WaitsForMore (old new : LineCutter) (lines : List (List ℕ)) : Type 0 where
  pub given : List (List ℕ)
  pub rest : List (List ℕ)
  pub all : lines ≡ given ++ rest
  pub none : HasNoWholeCommand (progress old).lines given
  pub number : (progress new).lines ≡ (progress old).lines + length given
  pub waits : HasNoWholeLine new
  pub unended : (progress new).has_ended ≡ false

-- or the lines that were to come are passed over, all of them, and nothing is left
abbrev pub NextCommandIs : LineCutter → LineCutter → List ℕ → List (List ℕ) → Option Command → Type 0
NextCommandIs old new left lines (Some asked) = GivesCommand old new left lines asked
NextCommandIs old new left lines None = AreAll IsPassedOver lines × (left ≡ [])
