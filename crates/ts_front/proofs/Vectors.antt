use Rattle.std.proofs.Common.{◌≡◌, ℕ, List, [], ◌∷◌, refl}
use Rattle.ts_log.specs.BinaryDigits.{binary_digits, bytes_of_digits}
use Rattle.ts_log.specs.LogArray.{greatest, width_of, words_for, control, packed_digits, packed, log_array_of}
use Rattle.ts_vbyte.specs.Spelling.{spelling, groups_of, mark_last}
use Rattle.ts_front.specs.Shared.{shared_length}
use Rattle.ts_front.specs.Dictionary.{whole, added, entry_bytes, entries_bytes, block_starts, dictionary_starts, dictionary_bytes}

-- `<a>`, `<ab>` and `<b>`
three : List (List ℕ)
three = (0x3c ∷ 0x61 ∷ 0x3e ∷ []) ∷ (0x3c ∷ 0x61 ∷ 0x62 ∷ 0x3e ∷ []) ∷ (0x3c ∷ 0x62 ∷ 0x3e ∷ []) ∷ []

bytes_of_three : dictionary_bytes three
    ≡ 0 ∷ 0 ∷ 0 ∷ 0 ∷ 0 ∷ 0 ∷ 0 ∷ 3 ∷ 0x83 ∷ 0x3c ∷ 0x61 ∷ 0x3e ∷ 0x82 ∷ 0x82 ∷ 0x62 ∷ 0x3e ∷ 0x81 ∷ 0x82 ∷ 0x62 ∷ 0x3e ∷ []
unfolding dictionary_bytes entries_bytes entry_bytes whole added shared_length spelling groups_of mark_last three
bytes_of_three = refl

starts_of_three : dictionary_starts three
    ≡ 0 ∷ 0 ∷ 0 ∷ 0 ∷ 0 ∷ 0 ∷ 0 ∷ 1 ∷ 1 ∷ 0 ∷ 0 ∷ 0 ∷ 0 ∷ 0 ∷ 0 ∷ 0 ∷ 0 ∷ 0 ∷ 0 ∷ 0 ∷ 0 ∷ 0 ∷ 0 ∷ 0 ∷ []
unfolding dictionary_starts block_starts entries_bytes entry_bytes whole added shared_length spelling groups_of mark_last three log_array_of control packed packed_digits width_of words_for greatest binary_digits bytes_of_digits
starts_of_three = refl
