-- A term as contracts see it: its kind and its spelling.
use Rattle.std.specs.Prelude.{ℕ, ◌≤◌, List, length}
use Rattle.ts_model.specs.declared.term.TermKind.{TermKind}
use Rattle.ts_model.specs.Canonical.{IsCanonical}
use Rattle.ts_model.specs.Limits.{term_limit}

pub record TextTerm : Type 0 where
  pub kind : TermKind
  pub spelling : List ℕ

-- the spelling is canonical and within the limit
abbrev pub IsTerm : TextTerm → Type 0
IsTerm term = IsCanonical term.kind term.spelling × (length term.spelling ≤ term_limit)
