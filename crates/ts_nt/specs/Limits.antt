-- The limit of a line.
use Rattle.std.specs.Prelude.{ℕ}

-- the most bytes of a line, without its end
abbrev pub line_limit : ℕ
line_limit = 4194304
