-- Numbers that stand in bytes, each with its most significant byte first.
use Rattle.std.proofs.Common.{◌≡◌, ℕ, ◌+◌, ◌<◌, ◌≤◌, ◌^◌, List, [], ◌∷◌, ◌++◌, length, take, drop, get_or, inl, inr, refl, sym, ◌∙◌, ap, ap₂, subst, arith}
use Rattle.std.specs.Int.{w16, w32, w64, Width, byte_len, from_be_bytes, to_be_bytes}
use Rattle.std.proofs.Math.Seq.{take-add}
use Rattle.std.proofs.lemmas.Bool.{cases_lt}
use Rattle.std.proofs.lemmas.List.{get_or-take, get_or-drop, get_or_past, length-take, length-take-le, length-drop, take-take, drop-take, drop-drop}
use Rattle.std.proofs.lemmas.Nat.{be_bytes_2, be_bytes_4, be_bytes_8}
use Rattle.ts_log.proofs.ElementLemmas.{eight_bytes}
use Rattle.ts_part.specs.Read.{number_at}

-- a piece of the first bytes of a list
pub piece_same : (n m w : ℕ) (xs ys : List ℕ) → n + m ≤ w → take w xs ≡ take w ys → take m (drop n xs) ≡ take m (drop n ys)
piece_same n m w xs ys h e =
    sym (drop-take n m xs) ∙ ap (drop n) (sym (take-take (n + m) w xs h) ∙ ap (take (n + m)) e ∙ take-take (n + m) w ys h) ∙ drop-take n m ys

pub piece_within : {X : Type 0} (n m w : ℕ) (xs : List X) → n + m ≤ w → take m (drop n (take w xs)) ≡ take m (drop n xs)
piece_within n m w xs h = sym (drop-take n m (take w xs)) ∙ ap (drop n) (take-take (n + m) w xs h) ∙ drop-take n m xs

-- and of the bytes from a place on
pub piece_at : (k n m w : ℕ) (file bytes : List ℕ) → n + m ≤ w → take w (drop k file) ≡ bytes → take m (drop (k + n) file) ≡ take m (drop n bytes)
piece_at k n m w file bytes h e =
    ap (take m) (sym (drop-drop n k file))
    ∙ sym (drop-take n m (drop k file))
    ∙ ap (drop n) (sym (take-take (n + m) w (drop k file) h))
    ∙ drop-take n m (take w (drop k file))
    ∙ ap (λ xs. take m (drop n xs)) e

pub number_there : (w : Width) (k n size : ℕ) (file bytes : List ℕ) → n + byte_len w ≤ size → take size (drop k file) ≡ bytes
    → number_at w file (k + n) ≡ number_at w bytes n
unfolding number_at
number_there w k n size file bytes h e = ap (from_be_bytes w) (piece_at k n (byte_len w) size file bytes h e)

-- two pieces side by side
pub side_by_side : (n m : ℕ) (xs ys zs : List ℕ) → take n xs ≡ ys → take m (drop n xs) ≡ zs → take (n + m) xs ≡ ys ++ zs
side_by_side n m xs ys zs e f = take-add n m xs ∙ ap₂ (λ a b. a ++ b) e f

-- each is a byte
abbrev pub AreBytes : List ℕ → Type 0
AreBytes xs = (i : ℕ) → get_or xs i 0 < 256

pub bytes_take : (n : ℕ) (xs : List ℕ) → AreBytes xs → AreBytes (take n xs)
bytes_take n xs h i = elim (cases_lt i n) [
  | inl low ↦ (let e = get_or-take n xs i 0 low in let b = h i in omega arith)
  | inr high ↦ (let e = get_or_past (take n xs) i 0 (omega (arith, length-take n xs)) in omega arith)
]

pub bytes_drop : (n : ℕ) (xs : List ℕ) → AreBytes xs → AreBytes (drop n xs)
bytes_drop n xs h i = let e = get_or-drop n xs i 0 in let b = h (n + i) in omega arith

long_there : (n m : ℕ) (xs : List ℕ) → n + m ≤ length xs → length (take m (drop n xs)) ≡ m
long_there n m xs h = length-take-le m (drop n xs) (omega (arith, length-drop n xs))

-- the bytes at a place are those of the number there
pub bytes_there_2 : (n : ℕ) (xs : List ℕ) → AreBytes xs → n + 2 ≤ length xs → take 2 (drop n xs) ≡ to_be_bytes w16 (number_at w16 xs n)
unfolding number_at
bytes_there_2 n xs h long =
    sym (be_bytes_2 (take 2 (drop n xs)) (from_be_bytes w16 (take 2 (drop n xs))) (long_there n 2 xs long) (bytes_take 2 (drop n xs) (bytes_drop n xs h)) refl)

pub bytes_there_4 : (n : ℕ) (xs : List ℕ) → AreBytes xs → n + 4 ≤ length xs → take 4 (drop n xs) ≡ to_be_bytes w32 (number_at w32 xs n)
unfolding number_at
bytes_there_4 n xs h long =
    sym (be_bytes_4 (take 4 (drop n xs)) (from_be_bytes w32 (take 4 (drop n xs))) (long_there n 4 xs long) (bytes_take 4 (drop n xs) (bytes_drop n xs h)) refl)

pub bytes_there_8 : (n : ℕ) (xs : List ℕ) → AreBytes xs → n + 8 ≤ length xs → take 8 (drop n xs) ≡ to_be_bytes w64 (number_at w64 xs n)
unfolding number_at
bytes_there_8 n xs h long =
    sym (be_bytes_8 (take 8 (drop n xs)) (from_be_bytes w64 (take 8 (drop n xs))) (long_there n 8 xs long) (bytes_take 8 (drop n xs) (bytes_drop n xs h)) refl)

-- a list by its elements
pub two_bytes : (xs : List ℕ) → length xs ≡ 2 → xs ≡ get_or xs 0 0 ∷ get_or xs 1 0 ∷ []
two_bytes (a ∷ b ∷ []) l = refl
two_bytes _ l = absurd (omega arith)

pub four_bytes : (xs : List ℕ) → length xs ≡ 4 → xs ≡ get_or xs 0 0 ∷ get_or xs 1 0 ∷ get_or xs 2 0 ∷ get_or xs 3 0 ∷ []
four_bytes (a ∷ b ∷ c ∷ d ∷ []) l = refl
four_bytes _ l = absurd (omega arith)

below_4 : (a b c d : ℕ) → a < 256 → b < 256 → c < 256 → d < 256 → from_be_bytes w32 (a ∷ b ∷ c ∷ d ∷ []) < 2 ^ 32
below_4 a b c d ha hb hc hd = omega arith

below_8 : (a b c d e f g h : ℕ) → a < 256 → b < 256 → c < 256 → d < 256 → e < 256 → f < 256 → g < 256 → h < 256
    → from_be_bytes w64 (a ∷ b ∷ c ∷ d ∷ e ∷ f ∷ g ∷ h ∷ []) < 2 ^ 64
below_8 a b c d e f g h ha hb hc hd he hf hg hh = omega arith

-- a number fits its bytes
pub number_below_4 : (n : ℕ) (xs : List ℕ) → AreBytes xs → n + 4 ≤ length xs → number_at w32 xs n < 2 ^ 32
unfolding number_at
number_below_4 n xs are long =
    let bytes = take 4 (drop n xs) in
    let b : AreBytes (take 4 (drop n xs)) = bytes_take 4 (drop n xs) (bytes_drop n xs are) in
    subst (λ l. from_be_bytes w32 l < 2 ^ 32) (sym (four_bytes (take 4 (drop n xs)) (long_there n 4 xs long)))
    (below_4 (get_or bytes 0 0) (get_or bytes 1 0) (get_or bytes 2 0) (get_or bytes 3 0) (b 0) (b 1) (b 2) (b 3))

pub number_below_8 : (n : ℕ) (xs : List ℕ) → AreBytes xs → n + 8 ≤ length xs → number_at w64 xs n < 2 ^ 64
unfolding number_at
number_below_8 n xs are long =
    let bytes = take 8 (drop n xs) in
    let b : AreBytes (take 8 (drop n xs)) = bytes_take 8 (drop n xs) (bytes_drop n xs are) in
    subst (λ l. from_be_bytes w64 l < 2 ^ 64) (sym (eight_bytes (take 8 (drop n xs)) (long_there n 8 xs long)))
    (below_8 (get_or bytes 0 0) (get_or bytes 1 0) (get_or bytes 2 0) (get_or bytes 3 0) (get_or bytes 4 0) (get_or bytes 5 0) (get_or bytes 6 0) (get_or bytes 7 0)
    (b 0) (b 1) (b 2) (b 3) (b 4) (b 5) (b 6) (b 7))
