use Rattle.std.specs.Prelude.{ℕ, zero, suc, ◌+◌, ◌-◌, ◌*◌, ◌/◌, ◌%◌, ◌^◌, ◌≡◌, ◌<◌, ◌≤◌, All, List, [], ◌∷◌, length}

-- a number cut into `count` groups of `width` binary digits, the top group first
unfoldable pub groups : ℕ → ℕ → ℕ → List ℕ
groups width zero x = []
groups width (suc count) x = x / 2 ^ (width * count) ∷ groups width count (x % 2 ^ (width * count))

-- the number that groups of `width` binary digits make, the top group first
unfoldable pub joined : ℕ → List ℕ → ℕ
joined width [] = 0
joined width (x ∷ xs) = x * 2 ^ (width * length xs) + joined width xs

-- the first `count` groups of `width` binary digits among those of the bytes
unfoldable pub elements_in : ℕ → ℕ → List ℕ → List ℕ
elements_in width count bytes = groups width count (joined 8 bytes / 2 ^ (8 * length bytes - width * count))

-- group i among them
unfoldable pub element_in : ℕ → ℕ → List ℕ → ℕ
element_in width i bytes = joined 8 bytes / 2 ^ (8 * length bytes - (width * i + width)) % 2 ^ width

-- the bytes are whole words with room for `count` groups of 1 to 64 binary digits
pub record IsPacked (width count : ℕ) (bytes : List ℕ) : Type 0 where
  pub positive : 1 ≤ width
  pub narrow : width ≤ 64
  pub whole : length bytes % 8 ≡ 0
  pub bytes_fit : All (λ byte. byte < 2 ^ 8) bytes
  pub room : width * count ≤ 8 * length bytes
