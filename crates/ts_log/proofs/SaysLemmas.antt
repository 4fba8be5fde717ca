use Rattle.std.proofs.Common.{◌≡◌, ◌%◌, ℕ, ◌+◌, ◌-◌, ◌*◌, ◌^◌, ◌<◌, ◌≤◌, min, List, ◌++◌, length, get_or, take, drop, sym, ◌∙◌, ap, arith, length-append}
use Rattle.std.specs.Prelude.{All}
use Rattle.std.proofs.lemmas.List.{length-take, length-take-le, take_at, drop_at, take-take, drop-take, take-append-drop, take_all}
use Rattle.ts_log.specs.Groups.{joined, elements_in, IsPacked}
use Rattle.ts_log.specs.LogArray.{words_for, control, packed, log_array_of, width_of, LogSays, FrontSaysOnly}
use Rattle.ts_log.proofs.GroupsLemmas.{Below, Below-All, Below-from_get_or}
use Rattle.ts_log.proofs.WidthLemmas.{width_le, greatest_lt, Below_width}
use Rattle.ts_log.proofs.ControlLemmas.{ControlWords, length-control, same_control, control_words}
use Rattle.ts_log.proofs.ArrayLemmas.{length-packed, elements_in-packed, Below-packed, words_enough}

-- where the parts of a log array stand at the start of the bytes
pub record IsFront (xs bytes : List ℕ) : Type 0 where
  pub starts : take 16 bytes ≡ control (width_of xs) (length xs)
  pub long : 16 + 8 * words_for (width_of xs) (length xs) ≤ length bytes
  pub goes_on : take (8 * words_for (width_of xs) (length xs)) (drop 16 bytes) ≡ packed (width_of xs) xs

pub length-log_array_of : (xs : List ℕ) → length (log_array_of xs) ≡ 16 + 8 * words_for (width_of xs) (length xs)
unfolding log_array_of
length-log_array_of xs =
    omega (arith, length-append (control (width_of xs) (length xs)) (packed (width_of xs) xs), length-control (width_of xs) (length xs), length-packed (width_of xs) xs)

pub front_of_says : (size : ℕ) (bytes xs : List ℕ) → take size bytes ≡ log_array_of xs → IsFront xs bytes
unfolding log_array_of
front_of_says size bytes xs e =
    let w : ℕ = width_of xs in
    let n : ℕ = length xs in
    let words : ℕ = 8 * words_for w n in
    let many : min size (length bytes) ≡ 16 + words = sym (length-take size bytes) ∙ ap length e ∙ length-log_array_of xs in
    let rest : 16 + (size - 16) ≡ size = omega arith in
    let all : take (size - 16) (drop 16 bytes) ≡ packed w xs =
    sym (drop-take 16 (size - 16) bytes) ∙ ap (λ k. drop 16 (take k bytes)) rest ∙ ap (drop 16) e
    ∙ drop_at (control w n) (packed w xs) 16 (length-control w n) in
    record {
      starts = sym (take-take 16 size bytes (omega arith)) ∙ ap (take 16) e ∙ take_at (control w n) (packed w xs) 16 (length-control w n);
      long = omega arith;
      goes_on = sym (take-take words (size - 16) (drop 16 bytes) (omega arith)) ∙ ap (take words) all ∙ take_all words (packed w xs) (omega (arith, length-packed w xs));
    }

-- and where they stand there, that much of the bytes is the log array
pub says_of_front : (bytes xs : List ℕ) → IsFront xs bytes → take (16 + 8 * words_for (width_of xs) (length xs)) bytes ≡ log_array_of xs
unfolding log_array_of
says_of_front bytes xs front =
    let words : ℕ = 8 * words_for (width_of xs) (length xs) in
    sym (take-append-drop 16 (take (16 + words) bytes))
    ∙ ap (λ t. t ++ drop 16 (take (16 + words) bytes)) (take-take 16 (16 + words) bytes (omega arith) ∙ front.starts)
    ∙ ap (λ t. control (width_of xs) (length xs) ++ t) (drop-take 16 words bytes ∙ front.goes_on)

pub Below_said : (xs : List ℕ) → All (λ x. x < 2 ^ 64) xs → Below (2 ^ 64) xs
Below_said xs h = Below-from_get_or (2 ^ 64) xs (λ i k. h i 0 k)

-- the width of numbers of 64 binary digits
pub width_fits : (xs : List ℕ) → All (λ x. x < 2 ^ 64) xs → width_of xs ≤ 64
width_fits xs h = width_le 64 xs (omega arith) (greatest_lt (2 ^ 64) xs (omega arith) (Below_said xs h))

-- bytes have at most one log array at their start
pub same_front : (xs ys bytes : List ℕ) → length xs < 2 ^ 64 → length ys < 2 ^ 64 → IsFront xs bytes → IsFront ys bytes → xs ≡ ys
same_front xs ys bytes h k f g =
    let both : (width_of xs ≡ width_of ys) × (length xs ≡ length ys) =
    same_control (width_of xs) (length xs) (width_of ys) (length ys) bytes h k f.starts g.starts in
    let words : packed (width_of xs) xs ≡ packed (width_of ys) ys =
    sym f.goes_on ∙ ap (λ n. take (8 * n) (drop 16 bytes)) (ap (λ w. words_for w (length xs)) both.0 ∙ ap (words_for (width_of ys)) both.1) ∙ g.goes_on in
    sym (elements_in-packed (width_of xs) xs (Below_width xs))
    ∙ ap (λ w. elements_in w (length xs) (packed (width_of xs) xs)) both.0
    ∙ ap (λ n. elements_in (width_of ys) n (packed (width_of xs) xs)) both.1
    ∙ ap (elements_in (width_of ys) (length ys)) words
    ∙ elements_in-packed (width_of ys) ys (Below_width ys)

-- bytes say one list at most
pub one_list_said : (bytes xs ys : List ℕ) → LogSays bytes xs → LogSays bytes ys → xs ≡ ys
one_list_said bytes xs ys p q =
    let whole : take (length bytes) bytes ≡ bytes = take_all (length bytes) bytes (omega arith) in
    same_front xs ys bytes p.counted q.counted
    (front_of_says (length bytes) bytes xs (whole ∙ p.spelled)) (front_of_says (length bytes) bytes ys (whole ∙ q.spelled))

-- no log array begins with another: where two prefixes of the bytes are log arrays, they are one prefix and one list
pub one_prefix_says : (m n : ℕ) (bytes xs ys : List ℕ) → m ≤ length bytes → n ≤ length bytes
    → LogSays (take m bytes) xs → LogSays (take n bytes) ys → (m ≡ n) × (xs ≡ ys)
one_prefix_says m n bytes xs ys h k p q =
    let same : xs ≡ ys =
    same_front xs ys bytes p.counted q.counted (front_of_says m bytes xs p.spelled) (front_of_says n bytes ys q.spelled) in
    (sym (length-take-le m bytes h) ∙ ap length (p.spelled ∙ ap log_array_of same ∙ sym q.spelled) ∙ length-take-le n bytes k, same)

pub only_front : (n : ℕ) (bytes xs : List ℕ) → n ≤ length bytes → LogSays (take n bytes) xs → FrontSaysOnly bytes n xs
only_front n bytes xs h says m ys k other = one_prefix_says m n bytes ys xs k h other says

-- what stands after the control of a log array, whole
pub record IsWhole (xs bytes : List ℕ) : Type 0 where
  pub long : 16 ≤ length bytes
  pub count : joined 8 (take 8 bytes) ≡ length xs
  pub width : get_or bytes 8 0 ≡ width_of xs
  pub words : drop 16 bytes ≡ packed (width_of xs) xs

pub whole_of_says : (bytes xs : List ℕ) → LogSays bytes xs → IsWhole xs bytes
unfolding log_array_of control
whole_of_says bytes xs says =
    let w : ℕ = width_of xs in
    let n : ℕ = length xs in
    let all : take (length bytes) bytes ≡ bytes = take_all (length bytes) bytes (omega arith) in
    let front : IsFront xs bytes = front_of_says (length bytes) bytes xs (all ∙ says.spelled) in
    let words : ControlWords w n bytes = control_words w n bytes says.counted front.starts in
    record {
      long = words.long;
      count = words.first;
      width = ap (λ b. get_or b 8 0) says.spelled;
      words = ap (drop 16) says.spelled ∙ drop_at (control w n) (packed w xs) 16 (length-control w n);
    }

pub IsPacked-packed : (w : ℕ) (xs : List ℕ) → 1 ≤ w → w ≤ 64 → IsPacked w (length xs) (packed w xs)
IsPacked-packed w xs p q = record {
  positive = p;
  narrow = q;
  whole = omega (arith, length-packed w xs);
  bytes_fit = Below-All (2 ^ 8) (packed w xs) (Below-packed w xs);
  room = omega (arith, length-packed w xs, words_enough w (length xs));
}

-- the whole bytes as a prefix
pub says_as_prefix : (bytes xs : List ℕ) → LogSays bytes xs → LogSays (take (length bytes) bytes) xs
says_as_prefix bytes xs says =
    record { spelled = take_all (length bytes) bytes (omega arith) ∙ says.spelled; fits = says.fits; counted = says.counted }

-- the bytes of a log array are whole words
pub log_array_of-whole : (xs : List ℕ) → length (log_array_of xs) % 8 ≡ 0
log_array_of-whole xs = omega (arith, length-log_array_of xs)
