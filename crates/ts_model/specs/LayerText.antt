-- A layer's number as text.
use Rattle.std.specs.Prelude.{ℕ, List}
use Rattle.std.specs.Int.{w32, to_be_bytes}
use Rattle.hex.specs.Hex.{encode_lower}

-- its four bytes, the highest first, in lower-case hexadecimal
abbrev pub layer_text : ℕ → List ℕ
layer_text number = encode_lower (to_be_bytes w32 number)
