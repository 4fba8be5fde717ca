-- The names of labels and of cursors.
use Rattle.std.specs.Prelude.{◌≢◌, ℕ, ◌≤◌, Bool, not, ◌&&◌, ◌||◌, nat_le, ◌==◌, List, length, slice_get, Some, All, IsTrue}

-- printable ASCII with no blank, `/` or `"`
abbrev pub is_label_byte : ℕ → Bool
is_label_byte b = nat_le 0x21 b && nat_le b 0x7E && not (b == 0x2F) && not (b == 0x22)

-- 1 to 200 such bytes, of which the first is no dot
abbrev pub IsLabelName : List ℕ → Type 0
IsLabelName bytes =
    (1 ≤ length bytes) × (length bytes ≤ 200) × All (λ b. IsTrue (is_label_byte b)) bytes × (slice_get bytes 0 ≢ Some 0x2E)

-- `a` to `z` and `0` to `9`
abbrev pub is_cursor_byte : ℕ → Bool
is_cursor_byte b = (nat_le 0x61 b && nat_le b 0x7A) || (nat_le 0x30 b && nat_le b 0x39)

-- 1 to 32 such bytes
abbrev pub IsCursorName : List ℕ → Type 0
IsCursorName bytes = (1 ≤ length bytes) × (length bytes ≤ 32) × All (λ b. IsTrue (is_cursor_byte b)) bytes
