-- What a read of as many bytes as fit does to what a reader has left.
use Rattle.std.specs.Prelude.{ℕ, ◌<◌, List, Option, length, take}
use Rattle.std.specs.Io.KnownBytes.{Consumes, IsAtEnd}

-- the reader gave the first bytes of the buffer, and only at its end fewer than fit
pub record FillsOrEnds (old new : Option (List ℕ)) (count : ℕ) (buffer : List ℕ) : Type 0 where
  pub given : Consumes old new (take count buffer)
  pub end : count < length buffer → IsAtEnd new
