-- Why bytes are refused as the spelling of a term.
use Rattle.std.specs.Prelude.{ℕ, ◌<◌, ◌≤◌, List, length}
use Rattle.ts_model.specs.declared.term.TermKind.{TermKind}
use Rattle.ts_model.specs.declared.term.TermError.{TermError}
use Rattle.ts_model.specs.declared.term.TermError.TheVariants.{TooLong, NotCanonical, Memory}
use Rattle.ts_model.specs.Canonical.{IsCanonical}
use Rattle.ts_model.specs.Limits.{term_limit}

-- over the limit; within it and no canonical spelling of that kind; or memory ran out, which only bytes that spell a term can meet
abbrev pub IsRefusedAs : List ℕ → TermKind → TermError → Type 0
IsRefusedAs bytes kind TooLong = term_limit < length bytes
IsRefusedAs bytes kind NotCanonical = (length bytes ≤ term_limit) × (IsCanonical kind bytes → ⊥)
IsRefusedAs bytes kind Memory = (length bytes ≤ term_limit) × IsCanonical kind bytes
