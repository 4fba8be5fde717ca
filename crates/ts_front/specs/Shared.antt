use Rattle.std.specs.Prelude.{ℕ, suc, ◌==◌, if◌then◌else◌, List, [], ◌∷◌, slice_index_or}

-- how many bytes the longest start has that two texts share
unfoldable pub shared_length : List ℕ → List ℕ → ℕ
shared_length [] ys = 0
shared_length (x ∷ xs) [] = 0
shared_length (x ∷ xs) (y ∷ ys) = if x == y then suc (shared_length xs ys) else 0

-- the text at a place of a list of texts
abbrev pub text_at : List (List ℕ) → ℕ → List ℕ
text_at texts i = slice_index_or texts i []
