-- The ranked bit array of 1, 0, 1, and that of no bits, byte for byte.
use Rattle.std.specs.Prelude.{◌≡◌, [], ◌∷◌, true, false, refl}
use Rattle.ts_bits.specs.BitArray.{number_of_bits, numbers_of, bit_array_of}

pub vector_of_three_bits : bit_array_of (true ∷ false ∷ true ∷ []) ≡
    0 ∷ 0 ∷ 0 ∷ 0 ∷ 0 ∷ 0 ∷ 0 ∷ 3
    ∷ 160 ∷ 0 ∷ 0 ∷ 0 ∷ 0 ∷ 0 ∷ 0 ∷ 0
    ∷ 0 ∷ 0 ∷ 0 ∷ 0 ∷ 0 ∷ 0 ∷ 0 ∷ 0
    ∷ 0 ∷ 0 ∷ 0 ∷ 0 ∷ 0 ∷ 0 ∷ 0 ∷ 0 ∷ []
unfolding number_of_bits numbers_of bit_array_of
vector_of_three_bits = refl

pub vector_of_no_bits : bit_array_of [] ≡ 0 ∷ 0 ∷ 0 ∷ 0 ∷ 0 ∷ 0 ∷ 0 ∷ 0 ∷ []
unfolding number_of_bits numbers_of bit_array_of
vector_of_no_bits = refl
