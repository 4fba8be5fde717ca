use Rattle.std.specs.Prelude.{ℕ, zero, suc, ◌/◌, ◌%◌, ◌^◌, List, [], ◌∷◌, take, drop}
use Rattle.std.specs.Int.Digits.{number_from_digits}

-- the lowest `count` binary digits of a number, the top one of them first
unfoldable pub binary_digits : ℕ → ℕ → List ℕ
binary_digits zero x = []
binary_digits (suc count) x = x / 2 ^ count % 2 ∷ binary_digits count x

-- as many bytes as asked for, each filled by the next eight binary digits, the top one first
unfoldable pub bytes_of_digits : ℕ → List ℕ → List ℕ
bytes_of_digits zero digits = []
bytes_of_digits (suc count) digits = number_from_digits 2 (take 8 digits) ∷ bytes_of_digits count (drop 8 digits)
