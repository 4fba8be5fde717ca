-- The wavelet tree of 1, 2, 1, byte for byte, and what its lookups answer.
use Rattle.std.specs.Prelude.{◌≡◌, [], ◌∷◌, true, false, refl}
use Rattle.ts_bits.specs.BitArray.{number_of_bits, numbers_of, bit_array_of}
use Rattle.ts_wavelet.specs.WaveletTree.{ordered, level_bits, tree_bits, wavelet_of}
use Rattle.ts_wavelet.specs.Sequence.{occurrences, places_from}

pub vector_of_levels : tree_bits 2 (1 ∷ 2 ∷ 1 ∷ []) ≡ false ∷ true ∷ false ∷ true ∷ true ∷ false ∷ []
unfolding ordered level_bits tree_bits
vector_of_levels = refl

pub vector_of_tree : wavelet_of 2 (1 ∷ 2 ∷ 1 ∷ []) ≡
    2 ∷ 0 ∷ 0 ∷ 0 ∷ 0 ∷ 0 ∷ 0 ∷ 0
    ∷ 0 ∷ 0 ∷ 0 ∷ 0 ∷ 0 ∷ 0 ∷ 0 ∷ 6
    ∷ 88 ∷ 0 ∷ 0 ∷ 0 ∷ 0 ∷ 0 ∷ 0 ∷ 0
    ∷ 0 ∷ 0 ∷ 0 ∷ 0 ∷ 0 ∷ 0 ∷ 0 ∷ 0
    ∷ 0 ∷ 0 ∷ 0 ∷ 0 ∷ 0 ∷ 0 ∷ 0 ∷ 0 ∷ []
unfolding ordered level_bits tree_bits wavelet_of number_of_bits numbers_of bit_array_of
vector_of_tree = refl

pub vector_of_rank : occurrences (1 ∷ 2 ∷ 1 ∷ []) 1 3 ≡ 2
vector_of_rank = refl

pub vector_of_places : places_from (1 ∷ 2 ∷ 1 ∷ []) 1 0 ≡ 0 ∷ 2 ∷ []
unfolding places_from
vector_of_places = refl
