use Rattle.std.specs.Prelude.{ℕ, ◌+◌, ◌<◌, ◌≤◌, List, slice_index}

-- from one place up to before another, each number is below the next
abbrev pub RisesBetween : List ℕ → ℕ → ℕ → Type 0
RisesBetween xs from to = (k : ℕ) → from ≤ k → k + 1 < to → slice_index xs k < slice_index xs (k + 1)
