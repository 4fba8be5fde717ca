use Rattle.std.specs.Prelude.{◌≡◌, ℕ, ◌+◌, ◌-◌, ◌*◌, ◌/◌, ◌^◌, ◌<◌, ◌≤◌, max, List, [], ◌∷◌, ◌++◌, length, take, replicate, All}
use Rattle.std.specs.List.{flat_map}
use Rattle.std.specs.Int.{w64, to_be_bytes}
use Rattle.std.specs.Int.Digits.{digits_of}
use Rattle.ts_log.specs.BinaryDigits.{binary_digits, bytes_of_digits}
use Rattle.ts_log.specs.Groups.{elements_in, IsPacked}

-- the greatest of the numbers, and 0 where there is none
unfoldable pub greatest : List ℕ → ℕ
greatest [] = 0
greatest (x ∷ xs) = max x (greatest xs)

-- the width of a list: the number of binary digits of its greatest element, and 1 where that is 0 or there is none
unfoldable pub width_of : List ℕ → ℕ
width_of xs = max 1 (length (digits_of 2 (greatest xs)))

-- how many words of 64 binary digits hold `count` elements of `width` digits
unfoldable pub words_for : ℕ → ℕ → ℕ
words_for width count = (width * count + 63) / 64

-- the 16 bytes of control: the number of elements, the width, seven zero bytes
unfoldable pub control : ℕ → ℕ → List ℕ
control width count = to_be_bytes w64 count ++ width ∷ replicate 7 0

-- the elements' binary digits one after another, then zeros to the end of the last word
unfoldable pub packed_digits : ℕ → List ℕ → List ℕ
packed_digits width xs =
    flat_map (binary_digits width) xs ++ replicate (64 * words_for width (length xs) - width * length xs) 0

-- the words' bytes
unfoldable pub packed : ℕ → List ℕ → List ℕ
packed width xs = bytes_of_digits (8 * words_for width (length xs)) (packed_digits width xs)

-- the one log array of a list
unfoldable pub log_array_of : List ℕ → List ℕ
log_array_of xs = control (width_of xs) (length xs) ++ packed (width_of xs) xs

-- the words are those of a list of `count` numbers with this width
pub record AreWords (width count : ℕ) (words : List ℕ) : Type 0 where
  pub holds : IsPacked width count words
  pub spelled : words ≡ packed width (elements_in width count words)
  pub needed : width_of (elements_in width count words) ≡ width

-- the bytes, whole, are the log array of these numbers
pub record LogSays (bytes numbers : List ℕ) : Type 0 where
  pub spelled : bytes ≡ log_array_of numbers
  pub fits : All (λ x. x < 2 ^ 64) numbers
  pub counted : length numbers < 2 ^ 64

-- the bytes, whole, are the log array of no other numbers
abbrev pub LogSaysOnly : List ℕ → List ℕ → Type 0
LogSaysOnly bytes numbers = (others : List ℕ) → LogSays bytes others → others ≡ numbers

-- no other front of the bytes is a log array, and this one is that of no other numbers
abbrev pub FrontSaysOnly : List ℕ → ℕ → List ℕ → Type 0
FrontSaysOnly bytes size numbers = (front : ℕ) (others : List ℕ)
    → front ≤ length bytes → LogSays (take front bytes) others → (front ≡ size) × (others ≡ numbers)
