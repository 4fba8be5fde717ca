use Rattle.std.proofs.Common.{◌≡◌, ℕ, zero, suc, ◌+◌, ◌<◌, ◌≤◌, List, [], ◌∷◌, refl, sym, subst, arith, rules}
use Rattle.std.specs.Prelude.{slice_index}
use Rattle.ts_log.specs.BinaryDigits.{binary_digits, bytes_of_digits}
use Rattle.ts_log.specs.LogArray.{greatest, width_of, words_for, control, packed_digits, packed, log_array_of, LogSays, LogSaysOnly}
use Rattle.ts_log.specs.Rising.{RisesBetween}

abbrev pub numbers : List ℕ
numbers = 1 ∷ 2 ∷ 3 ∷ []

abbrev pub bytes : List ℕ
bytes = 0 ∷ 0 ∷ 0 ∷ 0 ∷ 0 ∷ 0 ∷ 0 ∷ 3 ∷ 2 ∷ 0 ∷ 0 ∷ 0 ∷ 0 ∷ 0 ∷ 0 ∷ 0 ∷ 0x6c ∷ 0 ∷ 0 ∷ 0 ∷ 0 ∷ 0 ∷ 0 ∷ 0 ∷ []

-- the log array of 1, 2, 3
one_two_three : log_array_of numbers ≡ bytes
unfolding log_array_of packed packed_digits control words_for width_of greatest binary_digits bytes_of_digits
one_two_three = refl

-- the log array of no number
none : log_array_of [] ≡ 0 ∷ 0 ∷ 0 ∷ 0 ∷ 0 ∷ 0 ∷ 0 ∷ 0 ∷ 1 ∷ 0 ∷ 0 ∷ 0 ∷ 0 ∷ 0 ∷ 0 ∷ 0 ∷ []
unfolding log_array_of packed packed_digits control words_for width_of greatest binary_digits bytes_of_digits
none = refl

pub says_one_two_three : LogSays bytes numbers
says_one_two_three = record { spelled = sym one_two_three; fits = search rules; counted = omega arith }

rises : (k : ℕ) → 0 ≤ k → k + 1 < 3 → slice_index numbers k < slice_index numbers (k + 1)
rises zero p l = omega arith
rises (suc zero) p l = omega arith
rises (suc (suc k)) p l = absurd (omega arith)

-- what the bytes say rises
pub one_two_three_rise : (view : List ℕ) → LogSaysOnly bytes view → RisesBetween view 0 3
one_two_three_rise view only = subst (λ xs. RisesBetween xs 0 3) (only numbers says_one_two_three) rises
