-- The limits of a store.
use Rattle.std.specs.Prelude.{ℕ, ◌^◌}

-- the most bytes of a term's spelling
abbrev pub term_limit : ℕ
term_limit = 1048576

-- the numbers of layers are below it, and so are the numbers of a layer's terms and those of its predicates
abbrev pub number_limit : ℕ
number_limit = 2 ^ 32
