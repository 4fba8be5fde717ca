use Rattle.std.proofs.Common.{◌≡◌, ℕ, List, [], ◌∷◌, refl, sym, rules, arith}
use Rattle.ts_log.specs.BinaryDigits.{binary_digits, bytes_of_digits}
use Rattle.ts_log.specs.LogArray.{greatest, width_of, words_for, control, packed_digits, packed, log_array_of}
use Rattle.ts_idmap.specs.Permutation.{Permutes, place_in, inverse_of}
use Rattle.ts_idmap.specs.IdMap.{map_of, MapSays}

-- entry 0 has the number 2, which stands in place 0 of the permutation
inverse_of_three : inverse_of (2 ∷ 0 ∷ 1 ∷ []) ≡ 1 ∷ 2 ∷ 0 ∷ []
unfolding inverse_of place_in
inverse_of_three = refl

-- the map of no entry: the empty log array twice
map_of_none : map_of [] ≡ 0 ∷ 0 ∷ 0 ∷ 0 ∷ 0 ∷ 0 ∷ 0 ∷ 0 ∷ 1 ∷ 0 ∷ 0 ∷ 0 ∷ 0 ∷ 0 ∷ 0 ∷ 0
    ∷ 0 ∷ 0 ∷ 0 ∷ 0 ∷ 0 ∷ 0 ∷ 0 ∷ 0 ∷ 1 ∷ 0 ∷ 0 ∷ 0 ∷ 0 ∷ 0 ∷ 0 ∷ 0 ∷ []
unfolding map_of inverse_of place_in log_array_of packed packed_digits control words_for width_of greatest binary_digits bytes_of_digits
map_of_none = refl

abbrev pub two : List ℕ
two = 0 ∷ 0 ∷ 0 ∷ 0 ∷ 0 ∷ 0 ∷ 0 ∷ 2 ∷ 1 ∷ 0 ∷ 0 ∷ 0 ∷ 0 ∷ 0 ∷ 0 ∷ 0 ∷ 0x80 ∷ 0 ∷ 0 ∷ 0 ∷ 0 ∷ 0 ∷ 0 ∷ 0
    ∷ 0 ∷ 0 ∷ 0 ∷ 0 ∷ 0 ∷ 0 ∷ 0 ∷ 2 ∷ 1 ∷ 0 ∷ 0 ∷ 0 ∷ 0 ∷ 0 ∷ 0 ∷ 0 ∷ 0x80 ∷ 0 ∷ 0 ∷ 0 ∷ 0 ∷ 0 ∷ 0 ∷ 0 ∷ []

-- the map of two entries whose numbers are exchanged
map_of_two : map_of (1 ∷ 0 ∷ []) ≡ two
unfolding map_of inverse_of place_in log_array_of packed packed_digits control words_for width_of greatest binary_digits bytes_of_digits
map_of_two = refl

exchanged : Permutes (1 ∷ 0 ∷ [])
exchanged = record { within = search rules; distinct = search rules }

pub says_two : MapSays two (1 ∷ 0 ∷ [])
says_two = record { permutes = exchanged; spelled = sym map_of_two; counted = omega arith }
