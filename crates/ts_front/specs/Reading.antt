use Rattle.std.specs.Prelude.{ℕ, zero, suc, ◌+◌, ◌-◌, ◌*◌, ◌%◌, ◌==◌, nat_le, if◌then◌else◌, List, [], ◌∷◌, ◌++◌, take, drop, map}
use Rattle.std.specs.List.{range_with_len}

-- the number at the start of the bytes
unfoldable pub number_in : List ℕ → ℕ
number_in [] = 0
number_in (b ∷ bs) = if nat_le 128 b then b - 128 else b + 128 * number_in bs

-- what stands after it: after the first byte with bit 7
unfoldable pub after_number : List ℕ → List ℕ
after_number [] = []
after_number (b ∷ bs) = if nat_le 128 b then bs else after_number bs

-- the whole text at the start of the bytes: as many bytes as the number there says
unfoldable pub whole_in : List ℕ → List ℕ
whole_in bytes = take (number_in bytes) (after_number bytes)

-- what stands after it
unfoldable pub after_whole : List ℕ → List ℕ
after_whole bytes = drop (number_in bytes) (after_number bytes)

-- what stands after the shared length of entry i, at its bytes: the first entry of a block has no shared length
unfoldable pub after_shared : ℕ → List ℕ → List ℕ
after_shared i bytes = if i % 8 == 0 then bytes else after_number bytes

-- the bytes from entry i on
unfoldable pub from_entry : List ℕ → ℕ → List ℕ
from_entry body zero = body
from_entry body (suc i) = after_whole (after_shared i (from_entry body i))

-- how much entry i shares with the one before it
unfoldable pub shared_in : List ℕ → ℕ → ℕ
shared_in body i = if i % 8 == 0 then 0 else number_in (from_entry body i)

-- and what it adds to that
unfoldable pub suffix_in : List ℕ → ℕ → List ℕ
suffix_in body i = whole_in (after_shared i (from_entry body i))

-- entry i
unfoldable pub text_in : List ℕ → ℕ → List ℕ
text_in body zero = suffix_in body zero
text_in body (suc i) = take (shared_in body (suc i)) (text_in body i) ++ suffix_in body (suc i)

-- the texts of the first entries
unfoldable pub texts_in : ℕ → List ℕ → List (List ℕ)
texts_in count body = map (text_in body) (range_with_len 0 count)
