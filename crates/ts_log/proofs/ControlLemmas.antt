use Rattle.std.proofs.Common.{◌≡◌, ℕ, ◌*◌, ◌%◌, ◌^◌, ◌<◌, ◌≤◌, min, List, ◌∷◌, ◌++◌, length, take, drop, replicate, refl, sym, ◌∙◌, ap, arith}
use Rattle.std.specs.Int.{w64, to_be_bytes, byte_at}
use Rattle.std.proofs.lemmas.Nat.{mod_below, from_be_bytes-to_be_bytes_8}
use Rattle.std.proofs.lemmas.List.{length-take, length-take-le, length-drop, take-take, drop-take, take-append-drop}
use Rattle.ts_log.specs.Groups.{joined}
use Rattle.ts_log.specs.LogArray.{control}
use Rattle.ts_log.proofs.GroupsLemmas.{Below, Below-take, Below-drop, same_from_joined}
use Rattle.ts_log.proofs.ElementLemmas.{from_be_bytes-joined}

pub length-control : (w n : ℕ) → length (control w n) ≡ 16
unfolding control
length-control w n = refl

pub Below-to_be_bytes : (n : ℕ) → Below (2 ^ 8) (to_be_bytes w64 n)
Below-to_be_bytes n =
    let byte : (x : ℕ) → x % 256 < 256 = λ x. mod_below x 256 (omega arith) in
    (byte _, (byte _, (byte _, (byte _, (byte _, (byte _, (byte _, (byte _, tt))))))))

pub joined-to_be_bytes : (n : ℕ) → n < 2 ^ 64 → joined 8 (to_be_bytes w64 n) ≡ n
joined-to_be_bytes n h =
    sym (from_be_bytes-joined (byte_at 7 n) (byte_at 6 n) (byte_at 5 n) (byte_at 4 n) (byte_at 3 n) (byte_at 2 n) (byte_at 1 n) (byte_at 0 n))
    ∙ from_be_bytes-to_be_bytes_8 n h

-- the second word of a control
pub joined-second : (w : ℕ) → joined 8 (w ∷ replicate 7 0) ≡ w * 2 ^ 56
unfolding joined
joined-second w = omega arith

Below-second : (w : ℕ) → w < 2 ^ 8 → Below (2 ^ 8) (w ∷ replicate 7 0)
Below-second w h = (h, (omega arith, (omega arith, (omega arith, (omega arith, (omega arith, (omega arith, (omega arith, tt))))))))

-- the two words at the start of the bytes are those of a control that stands there
pub record ControlWords (w n : ℕ) (bytes : List ℕ) : Type 0 where
  pub long : 16 ≤ length bytes
  pub first : joined 8 (take 8 bytes) ≡ n
  pub second : joined 8 (take 8 (drop 8 bytes)) ≡ w * 2 ^ 56

pub control_words : (w n : ℕ) (bytes : List ℕ) → n < 2 ^ 64 → take 16 bytes ≡ control w n → ControlWords w n bytes
unfolding control
control_words w n bytes h e =
    let many : min 16 (length bytes) ≡ 16 = sym (length-take 16 bytes) ∙ ap length e in
    record {
      long = omega arith;
      first = ap (joined 8) (sym (take-take 8 16 bytes (omega arith)) ∙ ap (take 8) e) ∙ joined-to_be_bytes n h;
      second = ap (joined 8) (sym (drop-take 8 8 bytes) ∙ ap (drop 8) e) ∙ joined-second w;
    }

-- and where they are, the control stands there
pub control_from_words : (w n : ℕ) (bytes : List ℕ) → Below (2 ^ 8) bytes → n < 2 ^ 64 → w < 2 ^ 8 → ControlWords w n bytes
    → take 16 bytes ≡ control w n
unfolding control
control_from_words w n bytes b h k words =
    let front : List ℕ = take 8 bytes in
    let back : List ℕ = take 8 (drop 8 bytes) in
    let front_len : length front ≡ 8 = length-take-le 8 bytes (omega (arith, words.long)) in
    let back_len : length back ≡ 8 = length-take-le 8 (drop 8 bytes) (omega (arith, words.long, length-drop 8 bytes)) in
    let split : take 16 bytes ≡ front ++ back =
    sym (take-append-drop 8 (take 16 bytes))
    ∙ ap (λ t. t ++ drop 8 (take 16 bytes)) (take-take 8 16 bytes (omega arith))
    ∙ ap (λ t. front ++ t) (drop-take 8 8 bytes) in
    let first : front ≡ to_be_bytes w64 n =
    same_from_joined 8 front (to_be_bytes w64 n) (Below-take (2 ^ 8) 8 bytes b) (Below-to_be_bytes n) front_len
    (words.first ∙ sym (joined-to_be_bytes n h)) in
    let second : back ≡ w ∷ replicate 7 0 =
    same_from_joined 8 back (w ∷ replicate 7 0) (Below-take (2 ^ 8) 8 (drop 8 bytes) (Below-drop (2 ^ 8) 8 bytes b)) (Below-second w k) back_len
    (words.second ∙ sym (joined-second w)) in
    split ∙ ap (λ t. t ++ back) first ∙ ap (λ t. to_be_bytes w64 n ++ t) second

-- a control tells its width and its count
pub same_control : (w n v m : ℕ) (bytes : List ℕ) → n < 2 ^ 64 → m < 2 ^ 64 → take 16 bytes ≡ control w n → take 16 bytes ≡ control v m
    → (w ≡ v) × (n ≡ m)
same_control w n v m bytes h k e f =
    let a : ControlWords w n bytes = control_words w n bytes h e in
    let b : ControlWords v m bytes = control_words v m bytes k f in
    (omega (arith, a.second, b.second), sym a.first ∙ b.first)

-- the second word of a control, as the writer makes it
pub second-word : (w : ℕ) → w < 2 ^ 8 → to_be_bytes w64 (w * 2 ^ 56) ≡ w ∷ replicate 7 0
second-word w h =
    same_from_joined 8 (to_be_bytes w64 (w * 2 ^ 56)) (w ∷ replicate 7 0) (Below-to_be_bytes (w * 2 ^ 56)) (Below-second w h) refl
    (joined-to_be_bytes (w * 2 ^ 56) (omega arith) ∙ sym (joined-second w))

pub control-words : (w n : ℕ) → w < 2 ^ 8 → control w n ≡ to_be_bytes w64 n ++ to_be_bytes w64 (w * 2 ^ 56)
unfolding control
control-words w n h = ap (λ t. to_be_bytes w64 n ++ t) (sym (second-word w h))
