-- What a line spells, and what reading it answers.
use Rattle.std.specs.Prelude.{◌⊎◌, ℕ, ◌<◌, ◌≤◌, List, [], length, chars, IsUtf8, Option, None, Some}
use Rattle.ts_model.specs.declared.term.TermKind.{TermKind}
use Rattle.ts_model.specs.declared.signed.Sign.{Sign}
use Rattle.ts_model.specs.declared.signed.SignedTriple.{SignedTriple}
use Rattle.ts_model.specs.Limits.{term_limit}
use Rattle.ts_model.specs.TextTriple.{TextTriple}
use Rattle.ts_nt.specs.Limits.{line_limit}
use Rattle.ts_nt.specs.Terms.{TermAt}
use Rattle.ts_nt.specs.TripleText.{IsTripleText, IsNothingOrComment, after_blanks}
use Rattle.ts_nt.specs.declared.read.LineError.{LineError}
use Rattle.ts_nt.specs.declared.read.LineError.TheVariants.{TooLong, Bad, Memory}

-- the line is a line of this triple with this sign
abbrev pub Spells : List ℕ → Sign → TextTriple → Type 0
Spells line sign triple = IsUtf8 line × IsTripleText (chars line) sign triple

-- the line is blank or a comment
abbrev pub IsSilent : List ℕ → Type 0
IsSilent line = IsUtf8 line × IsNothingOrComment (after_blanks (chars line))

-- each term is within its limit
abbrev pub IsWithinLimits : TextTriple → Type 0
IsWithinLimits triple =
    (length triple.subject.spelling ≤ term_limit) × (length triple.predicate.spelling ≤ term_limit) × (length triple.object.spelling ≤ term_limit)

-- the line and its terms are within their limits, and it is a line of this triple
abbrev pub IsReadAs : List ℕ → SignedTriple → Type 0
IsReadAs line signed = (length line ≤ line_limit) × Spells line signed.sign signed.triple × IsWithinLimits signed.triple

-- the line is over its limit, or is a line of a triple with a term over its own
abbrev pub IsTooLong : List ℕ → Type 0
IsTooLong line = (line_limit < length line) ⊎ ((sign : Sign) × (triple : TextTriple) × Spells line sign triple × (IsWithinLimits triple → ⊥))

-- the line is within its limit, and neither blank, a comment nor a line of a triple
abbrev pub IsBad : List ℕ → Type 0
IsBad line = (length line ≤ line_limit) × (IsSilent line → ⊥) × ((sign : Sign) (triple : TextTriple) → Spells line sign triple → ⊥)

-- The causes exclude each other, but for memory. It runs out only at a line within its limit that is UTF-8, and neither blank nor a comment.
abbrev pub IsRefusedFor : List ℕ → LineError → Type 0
IsRefusedFor line TooLong = IsTooLong line
IsRefusedFor line Bad = IsBad line
IsRefusedFor line Memory = (length line ≤ line_limit) × IsUtf8 line × (IsSilent line → ⊥)

-- the line is read as nothing, or as a triple
abbrev pub Answers : List ℕ → Option SignedTriple → Type 0
Answers line None = (length line ≤ line_limit) × IsSilent line
Answers line (Some signed) = IsReadAs line signed

-- the whole of the bytes spells this term
abbrev pub SpellsTerm : List ℕ → TermKind → List ℕ → Type 0
SpellsTerm bytes kind spelling = IsUtf8 bytes × TermAt kind (chars bytes) spelling []
