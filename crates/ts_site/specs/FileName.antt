-- Names of files.
use Rattle.std.specs.Prelude.{ℕ, ◌≤◌, ◌≢◌, List, All, length}

-- a byte of a name: a visible ASCII character, and no slash
pub record IsNameByte (b : ℕ) : Type 0 where
  pub low : 0x21 ≤ b
  pub high : b ≤ 0x7E
  pub no_slash : b ≢ 0x2F

-- 1 to 206 such bytes
pub record IsFileName (bytes : List ℕ) : Type 0 where
  pub not_empty : 1 ≤ length bytes
  pub within : length bytes ≤ 206
  pub visible : All IsNameByte bytes
