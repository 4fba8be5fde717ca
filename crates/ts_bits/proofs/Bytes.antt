-- Numbers one after the other in bytes, written and read.
use Rattle.std.proofs.Common.{◌≡◌, ℕ, zero, suc, ◌+◌, ◌*◌, ◌^◌, ◌<◌, List, ◌++◌, length, take, drop, map, get_or, refl, sym, ap, subst, ◌∙◌, arith, inl, inr}
use Rattle.std.proofs.lemmas.List.{append_assoc, drop-drop, drop_at, length-append, length-drop, length-take-le, length-take, get_or_past, take-append-drop, get_or-take, get_or-drop, nil_from_length}
use Rattle.std.proofs.lemmas.Bool.{cases_lt}
use Rattle.std.proofs.lemmas.Nat.{be_bytes_2, be_bytes_8}
use Rattle.std.specs.List.{flat_map, range_with_len}
use Rattle.byteorder.specs.Endian.{big_bytes, big_number}
use Rattle.byteorder.specs.Numbers.{big_from-append, big_number-reads_back, length-bytes_high_first}
use Rattle.ts_bits.specs.BitArray.{numbers_of}
use Rattle.ts_bits.specs.Ranked.{number_in}

-- the numbers f a, f (a + 1) and so on
abbrev numbers_from : ℕ → ℕ → ℕ → (ℕ → ℕ) → List ℕ
numbers_from n a count f = flat_map (big_bytes n) (map f (range_with_len a count))

-- there are n bytes for each number
length-numbers_from : (n a count : ℕ) (f : ℕ → ℕ) → length (numbers_from n a count f) ≡ n * count
length-numbers_from n a zero f = omega arith
length-numbers_from n a (suc count) f =
    let ih = length-numbers_from n (a + 1) count f in
    let head = length-bytes_high_first n (f a) in
    let both = length-append (big_bytes n (f a)) (numbers_from n (a + 1) count f) in
    omega (arith, ih, head, both)

pub length-numbers_of : (n count : ℕ) (f : ℕ → ℕ) → length (numbers_of n count f) ≡ n * count
unfolding numbers_of
length-numbers_of n count f = length-numbers_from n 0 count f

-- what is read at place k of numbers
number_in-numbers_from : (n a count k : ℕ) (f : ℕ → ℕ) (rest : List ℕ) → k < count → f (a + k) < 256 ^ n
    → number_in n (numbers_from n a count f ++ rest) k ≡ f (a + k)
unfolding number_in
number_in-numbers_from n a zero k f rest h fits = absurd (omega arith)
number_in-numbers_from n a (suc count) zero f rest h fits =
    let z : n * 0 ≡ 0 = omega arith in
    let e : a + 0 ≡ a = omega arith in
    let fits : f a < 256 ^ n = subst (λ (x : ℕ). f x < 256 ^ n) e fits in
    rw (z, e, append_assoc) (big_number-reads_back n (f a) (numbers_from n (a + 1) count f ++ rest) fits)
number_in-numbers_from n a (suc count) (suc k) f rest h fits =
    let step : n * suc k ≡ n + n * k = omega arith in
    let e : a + suc k ≡ (a + 1) + k = omega arith in
    let fits : f ((a + 1) + k) < 256 ^ n = subst (λ (x : ℕ). f x < 256 ^ n) e fits in
    let ih = number_in-numbers_from n (a + 1) count k f rest (omega arith) fits in
    let skip : drop (n * suc k) ((big_bytes n (f a) ++ numbers_from n (a + 1) count f) ++ rest) ≡ drop (n * k) (numbers_from n (a + 1) count f ++ rest) =
    rw (step, append_assoc, ← drop-drop (n * k) n (big_bytes n (f a) ++ (numbers_from n (a + 1) count f ++ rest)))
    (ap (drop (n * k)) (drop_at (big_bytes n (f a)) (numbers_from n (a + 1) count f ++ rest) n (length-bytes_high_first n (f a)))) in
    ap (big_number n) skip ∙ ih ∙ ap f (sym e)

pub number_in-numbers_of : (n count k : ℕ) (f : ℕ → ℕ) (rest : List ℕ) → k < count → f k < 256 ^ n
    → number_in n (numbers_of n count f ++ rest) k ≡ f k
unfolding numbers_of
number_in-numbers_of n count k f rest h fits =
    let e : 0 + k ≡ k = omega arith in
    let fits : f (0 + k) < 256 ^ n = subst (λ (x : ℕ). f x < 256 ^ n) (sym e) fits in
    number_in-numbers_from n 0 count k f rest h fits ∙ ap f e

-- n bytes are the only ones of their number
abbrev pub OnlyBytes : ℕ → Type 0
OnlyBytes n = (bytes : List ℕ) → length bytes ≡ n → ((i : ℕ) → get_or bytes i 0 < 256) → big_bytes n (big_number n bytes) ≡ bytes

only_bytes_2 : OnlyBytes 2
only_bytes_2 bytes len small = be_bytes_2 bytes (big_number 2 bytes) len small (omega arith)

pub only_bytes_8 : OnlyBytes 8
only_bytes_8 bytes len small = be_bytes_8 bytes (big_number 8 bytes) len small (omega arith)

-- a front of bytes is bytes
pub small-take : (n : ℕ) (bytes : List ℕ) → ((i : ℕ) → get_or bytes i 0 < 256) → (i : ℕ) → get_or (take n bytes) i 0 < 256
small-take n bytes small i = elim (cases_lt i n) [
  | inl in_front ↦ rw (get_or-take n bytes i 0 in_front) (small i)
  | inr behind ↦ rw (get_or_past (take n bytes) i 0 (omega (arith, length-take n bytes))) (omega arith)
]

-- bytes are those of the numbers that are read in them
numbers_from_are : (n : ℕ) → OnlyBytes n → (a count : ℕ) (f : ℕ → ℕ) (bytes : List ℕ)
    → length bytes ≡ n * count → ((i : ℕ) → get_or bytes i 0 < 256)
    → ((k : ℕ) → k < count → number_in n bytes k ≡ f (a + k))
    → bytes ≡ numbers_from n a count f
unfolding number_in
numbers_from_are n only a zero f bytes len small same = nil_from_length bytes (omega arith)
numbers_from_are n only a (suc count) f bytes len small same =
    let whole = take-append-drop n bytes in
    let front : length (take n bytes) ≡ n = length-take-le n bytes (omega arith) in
    let z : n * 0 ≡ 0 = omega arith in
    let e : a + 0 ≡ a = omega arith in
    let first : big_number n bytes ≡ f a =
    ap (λ (m : ℕ). big_number n (drop m bytes)) (sym z) ∙ same 0 (omega arith) ∙ ap f e in
    let read : big_number n (take n bytes) ≡ big_number n bytes =
    sym (big_from-append n (take n bytes) (drop n bytes) (omega arith)) ∙ ap (big_number n) whole in
    let head : take n bytes ≡ big_bytes n (f a) =
    sym (only (take n bytes) front (small-take n bytes small)) ∙ ap (big_bytes n) (read ∙ first) in
    let tail : drop n bytes ≡ numbers_from n (a + 1) count f =
    numbers_from_are n only (a + 1) count f (drop n bytes)
    (omega (arith, length-drop n bytes))
    (λ i. rw (get_or-drop n bytes i 0) (small (n + i)))
    (λ k h.
    let step : n + n * k ≡ n * suc k = omega arith in
    let place : a + suc k ≡ (a + 1) + k = omega arith in
    ap (big_number n) (drop-drop (n * k) n bytes ∙ ap (λ (m : ℕ). drop m bytes) step) ∙ same (suc k) (omega arith) ∙ ap f place) in
    sym whole ∙ rw (head, tail) refl

pub numbers_of_2_are : (count : ℕ) (f : ℕ → ℕ) (bytes : List ℕ) → length bytes ≡ 2 * count → ((i : ℕ) → get_or bytes i 0 < 256)
    → ((k : ℕ) → k < count → number_in 2 bytes k ≡ f k) → bytes ≡ numbers_of 2 count f
unfolding numbers_of
numbers_of_2_are count f bytes len small same =
    numbers_from_are 2 only_bytes_2 0 count f bytes len small (λ k h. let e : k ≡ 0 + k = omega arith in same k h ∙ ap f e)

pub numbers_of_8_are : (count : ℕ) (f : ℕ → ℕ) (bytes : List ℕ) → length bytes ≡ 8 * count → ((i : ℕ) → get_or bytes i 0 < 256)
    → ((k : ℕ) → k < count → number_in 8 bytes k ≡ f k) → bytes ≡ numbers_of 8 count f
unfolding numbers_of
numbers_of_8_are count f bytes len small same =
    numbers_from_are 8 only_bytes_8 0 count f bytes len small (λ k h. let e : k ≡ 0 + k = omega arith in same k h ∙ ap f e)
