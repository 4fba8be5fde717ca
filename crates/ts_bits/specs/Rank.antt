-- How many ones stand in a list of bits, and in its front.
use Rattle.std.specs.Prelude.{ℕ, ◌-◌, Bool, List, take}
use Rattle.std.specs.List.{count_by}

-- the ones among the bits
abbrev pub ones : List Bool → ℕ
ones bits = count_by (λ bit. bit) bits

-- the ones among the first i bits
abbrev pub rank : List Bool → ℕ → ℕ
rank bits i = ones (take i bits)

-- the ones from place `from` up to place `to`, that one left out
abbrev pub ones_between : List Bool → ℕ → ℕ → ℕ
ones_between bits from to = rank bits to - rank bits from

-- the zeros among the first i bits, where there are as many bits
abbrev pub zero_rank : List Bool → ℕ → ℕ
zero_rank bits i = i - rank bits i
