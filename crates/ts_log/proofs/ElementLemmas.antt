use Rattle.std.proofs.Common.{◌≡◌, ℕ, suc, ◌+◌, ◌-◌, ◌*◌, ◌/◌, ◌%◌, ◌^◌, ◌<◌, ◌≤◌, List, [], ◌∷◌, length, get_or, take, drop, refl, sym, ◌∙◌, ap, subst, arith, Fits, w8}
use Rattle.std.specs.Int.{w64, from_be_bytes}
use Rattle.std.proofs.lemmas.Nat.{pow_pos, pow-add, shr-shr, mod-pow-add, field_of, mod_below, div-add-mod', mul-le, shr_below, shl_whole, mul-add-lt}
use Rattle.std.proofs.Math.Nat.{pow-le-pow_right, zero-mod}
use Rattle.ts_log.specs.Groups.{joined, elements_in, element_in}
use Rattle.ts_log.proofs.GroupsLemmas.{Below, Below-from_get_or, joined-at, joined-lt, window, mod-mod_pow, get_or-groups, length-groups}

-- eight bytes, read the most significant first, make the number that they make as groups
pub from_be_bytes-joined : (a b c d e f g h : ℕ)
    → from_be_bytes w64 (a ∷ b ∷ c ∷ d ∷ e ∷ f ∷ g ∷ h ∷ []) ≡ joined 8 (a ∷ b ∷ c ∷ d ∷ e ∷ f ∷ g ∷ h ∷ [])
unfolding joined
from_be_bytes-joined a b c d e f g h = omega arith

cons_from_length : (n : ℕ) (xs : List ℕ) → length xs ≡ suc n → xs ≡ get_or xs 0 0 ∷ drop 1 xs
cons_from_length n [] l = absurd (omega arith)
cons_from_length n (x ∷ xs) l = refl

pub eight_bytes : (xs : List ℕ) → length xs ≡ 8
    → xs ≡ get_or xs 0 0 ∷ get_or xs 1 0 ∷ get_or xs 2 0 ∷ get_or xs 3 0 ∷ get_or xs 4 0 ∷ get_or xs 5 0 ∷ get_or xs 6 0 ∷ get_or xs 7 0 ∷ []
eight_bytes (a ∷ b ∷ c ∷ d ∷ e ∷ f ∷ g ∷ h ∷ []) l = refl
eight_bytes _ l = absurd (omega arith)

-- where element i begins: its word, and its place there
pub place_of : (w i : ℕ) → 64 * (i / 64 * w + i % 64 * w / 64) + i % 64 * w % 64 ≡ w * i
place_of w i =
    let p : i / 64 * 64 + i % 64 ≡ i = div-add-mod' i 64 in
    let q : (i / 64 * 64 + i % 64) * w ≡ i * w = ap (λ n. n * w) p in
    let r : i % 64 * w / 64 * 64 + i % 64 * w % 64 ≡ i % 64 * w = div-add-mod' (i % 64 * w) 64 in
    omega arith

-- digits within one word
pub from_one_word : (n e₁ word w c off e : ℕ) → n / 2 ^ e₁ % 2 ^ 64 ≡ word → off + w + c ≡ 64 → e ≡ e₁ + c
    → word / 2 ^ c % 2 ^ w ≡ n / 2 ^ e % 2 ^ w
from_one_word n e₁ word w c off e h m f =
    ap (λ x. x / 2 ^ c % 2 ^ w) (sym h)
    ∙ window (n / 2 ^ e₁) 64 c off w (sym m)
    ∙ ap (λ x. x % 2 ^ w) (shr-shr n e₁ c)
    ∙ ap (λ p. n / 2 ^ p % 2 ^ w) (sym f)

-- digits that cross from one word to the next
pub from_two_words : (n e₀ high low w off rest e : ℕ) → n / 2 ^ (e₀ + 64) % 2 ^ 64 ≡ high → n / 2 ^ e₀ % 2 ^ 64 ≡ low
    → off + w ≡ 64 + rest → off ≤ 64 → rest ≤ 64 → e ≡ e₀ + (64 - rest)
    → high % 2 ^ (64 - off) * 2 ^ rest + low / 2 ^ (64 - rest) ≡ n / 2 ^ e % 2 ^ w
from_two_words n e₀ high low w off rest e h l m o r f =
    let a : ℕ = 64 - off in
    let c : ℕ = 64 - rest in
    let width : w ≡ a + rest = omega arith in
    let above : n / 2 ^ e / 2 ^ rest ≡ n / 2 ^ (e₀ + 64) =
    shr-shr n e rest ∙ ap (λ p. n / 2 ^ p) (let g : e + rest ≡ e₀ + 64 = omega arith in g) in
    let first : n / 2 ^ e / 2 ^ rest % 2 ^ a ≡ high % 2 ^ a =
    ap (λ x. x % 2 ^ a) above
    ∙ sym (mod-mod_pow (n / 2 ^ (e₀ + 64)) off a)
    ∙ ap (λ p. n / 2 ^ (e₀ + 64) % 2 ^ p % 2 ^ a) (let g : off + a ≡ 64 = omega arith in g)
    ∙ ap (λ x. x % 2 ^ a) h in
    let second : n / 2 ^ e % 2 ^ rest ≡ low / 2 ^ c =
    ap (λ p. n / 2 ^ p % 2 ^ rest) f
    ∙ ap (λ x. x % 2 ^ rest) (sym (shr-shr n e₀ c))
    ∙ sym (field_of (n / 2 ^ e₀) rest c)
    ∙ ap (λ p. n / 2 ^ e₀ % 2 ^ p / 2 ^ c) (let g : rest + c ≡ 64 = omega arith in g)
    ∙ ap (λ x. x / 2 ^ c) l in
    sym (ap (λ p. n / 2 ^ e % 2 ^ p) width
    ∙ mod-pow-add (n / 2 ^ e) a rest
    ∙ ap (λ x. x * 2 ^ rest + n / 2 ^ e % 2 ^ rest) first
    ∙ ap (λ x. high % 2 ^ a * 2 ^ rest + x) second)

-- a slice of bytes has bytes
pub Below_bytes : (bytes : List ℕ) → ((i : ℕ) → Fits w8 (get_or bytes i 0)) → Below (2 ^ 8) bytes
Below_bytes bytes h = Below-from_get_or (2 ^ 8) bytes (λ i k. (h i).fits)

-- element i begins in word j, `off` digits after its top one; that word lies within the bytes
pub first_word : (w i j off len : ℕ) → 64 * j + off ≡ w * i → 1 ≤ w → len % 8 ≡ 0 → w * i + w ≤ 8 * len → j * 8 + 8 ≤ len
first_word w i j off len p q r s = omega arith

-- and so does the next one where the element goes on there
pub second_word : (w i j off len : ℕ) → 64 * j + off ≡ w * i → 64 < off + w → len % 8 ≡ 0 → w * i + w ≤ 8 * len → j * 8 + 8 + 8 ≤ len
second_word w i j off len p q r s = omega arith

pub element_within_word : (w i j off word : ℕ) (bytes : List ℕ) → Below (2 ^ 8) bytes → 64 * j + off ≡ w * i
    → w * i + w ≤ 8 * length bytes → j * 8 + 8 ≤ length bytes → off + w ≤ 64
    → word ≡ joined 8 (take 8 (drop (j * 8) bytes)) → word / 2 ^ (64 - (off + w)) % 2 ^ w ≡ element_in w i bytes
unfolding element_in
element_within_word w i j off word bytes h p q r s t =
    let e₁ : ℕ = 8 * length bytes - 8 * (j * 8 + 8) in
    let there : joined 8 bytes / 2 ^ e₁ % 2 ^ 64 ≡ word = joined-at 8 (j * 8) 8 e₁ bytes h r (omega arith) ∙ sym t in
    from_one_word (joined 8 bytes) e₁ word w (64 - (off + w)) off (8 * length bytes - (w * i + w)) there (omega arith) (omega arith)

pub element_across_words : (w i j off high low : ℕ) (bytes : List ℕ) → Below (2 ^ 8) bytes → 64 * j + off ≡ w * i
    → w * i + w ≤ 8 * length bytes → j * 8 + 8 + 8 ≤ length bytes → 64 < off + w → w ≤ 64 → off ≤ 64
    → high ≡ joined 8 (take 8 (drop (j * 8) bytes)) → low ≡ joined 8 (take 8 (drop (j * 8 + 8) bytes))
    → high % 2 ^ (64 - off) * 2 ^ (off + w - 64) + low / 2 ^ (64 - (off + w - 64)) ≡ element_in w i bytes
unfolding element_in
element_across_words w i j off high low bytes h p q r s m o t u =
    let e₀ : ℕ = 8 * length bytes - 8 * (j * 8 + 8 + 8) in
    let first : joined 8 bytes / 2 ^ (e₀ + 64) % 2 ^ 64 ≡ high =
    joined-at 8 (j * 8) 8 (e₀ + 64) bytes h (omega arith) (omega arith) ∙ sym t in
    let second : joined 8 bytes / 2 ^ e₀ % 2 ^ 64 ≡ low = joined-at 8 (j * 8 + 8) 8 e₀ bytes h r (omega arith) ∙ sym u in
    from_two_words (joined 8 bytes) e₀ high low w off (off + w - 64) (8 * length bytes - (w * i + w)) first second (omega arith) o (omega arith) (omega arith)

-- the digits that cross fit a word, also on the way
pub shifted_high : (high off rest : ℕ) → off ≤ 64 → rest ≤ off
    → high % 2 ^ (64 - off) * 2 ^ rest % 2 ^ 64 ≡ high % 2 ^ (64 - off) * 2 ^ rest
shifted_high high off rest h k =
    shl_whole (high % 2 ^ (64 - off)) (64 - off) rest 64 (mod_below high (2 ^ (64 - off)) (pow_pos (64 - off))) (omega arith)

pub across_fits : (high low off rest : ℕ) → off ≤ 64 → rest ≤ off → low < 2 ^ 64
    → high % 2 ^ (64 - off) * 2 ^ rest + low / 2 ^ (64 - rest) < 2 ^ 64
across_fits high low off rest h k l =
    let j : ℕ = 64 - off in
    let top : high % 2 ^ j < 2 ^ j = mod_below high (2 ^ j) (pow_pos j) in
    let small : low < 2 ^ (rest + (64 - rest)) =
    subst (λ p. low < 2 ^ p) (let g : 64 ≡ rest + (64 - rest) = omega arith in g) l in
    let bottom : low / 2 ^ (64 - rest) < 2 ^ rest = shr_below low rest (64 - rest) small in
    let both : high % 2 ^ j * 2 ^ rest + low / 2 ^ (64 - rest) < 2 ^ rest * 2 ^ j =
    mul-add-lt (high % 2 ^ j) (2 ^ rest) (low / 2 ^ (64 - rest)) (2 ^ j) top bottom in
    let width : 2 ^ (rest + j) ≤ 2 ^ 64 = let le : rest + j ≤ 64 = omega arith in pow-le-pow_right {n = 2} (omega arith) le in
    omega (arith, pow-add 2 rest j)

-- an element of those that the bytes hold
pub get_or-elements_in : (w n i : ℕ) (bytes : List ℕ) → Below (2 ^ 8) bytes → w * n ≤ 8 * length bytes → i < n
    → get_or (elements_in w n bytes) i 0 ≡ element_in w i bytes
unfolding elements_in element_in
get_or-elements_in w n i bytes h room k =
    let pad : ℕ = 8 * length bytes - w * n in
    let small : joined 8 bytes < 2 ^ (w * n + pad) =
    subst (λ p. joined 8 bytes < 2 ^ p) (let g : 8 * length bytes ≡ w * n + pad = omega arith in g) (joined-lt 8 bytes h) in
    let fits : w * (i + 1) ≤ w * n = mul-le w (i + 1) w n (omega arith) (omega arith) in
    let e : ℕ = w * n - (w * i + w) in
    get_or-groups w n (joined 8 bytes / 2 ^ pad) i e (shr_below (joined 8 bytes) (w * n) pad small) k (omega arith)
    ∙ ap (λ x. x % 2 ^ w) (shr-shr (joined 8 bytes) pad e)
    ∙ ap (λ p. joined 8 bytes / 2 ^ p % 2 ^ w) (let g : pad + e ≡ 8 * length bytes - (w * i + w) = omega arith in g)

pub length-elements_in : (w n : ℕ) (bytes : List ℕ) → length (elements_in w n bytes) ≡ n
unfolding elements_in
length-elements_in w n bytes = length-groups w n (joined 8 bytes / 2 ^ (8 * length bytes - w * n))

-- how many words, without the product
pub words_for_split : (w n : ℕ) → n / 64 * w + (n % 64 * w + 63) / 64 ≡ (w * n + 63) / 64
words_for_split w n =
    let p : n / 64 * 64 + n % 64 ≡ n = div-add-mod' n 64 in
    let q : (n / 64 * 64 + n % 64) * w ≡ n * w = ap (λ k. k * w) p in
    omega arith

-- the last digits of words are those of the last word
pub last_digits : (count last : ℕ) (bytes : List ℕ) → Below (2 ^ 8) bytes → 8 ≤ length bytes → count ≤ 64
    → last ≡ joined 8 (take 8 (drop (length bytes - 8) bytes)) → joined 8 bytes % 2 ^ count ≡ last % 2 ^ count
last_digits count last bytes h l k e =
    let there : joined 8 bytes / 2 ^ 0 % 2 ^ 64 ≡ last = joined-at 8 (length bytes - 8) 8 0 bytes h (omega arith) (omega arith) ∙ sym e in
    let whole : joined 8 bytes / 2 ^ 0 ≡ joined 8 bytes = omega arith in
    sym (mod-mod_pow (joined 8 bytes) (64 - count) count)
    ∙ ap (λ p. joined 8 bytes % 2 ^ p % 2 ^ count) (let g : 64 - count + count ≡ 64 = omega arith in g)
    ∙ ap (λ x. x % 2 ^ count) (ap (λ x. x % 2 ^ 64) (sym whole) ∙ there)

pub no_digits : (count : ℕ) (bytes : List ℕ) → length bytes ≡ 0 → joined 8 bytes % 2 ^ count ≡ 0
unfolding joined
no_digits count [] l = zero-mod (2 ^ count)
no_digits count (b ∷ bytes) l = absurd (omega arith)
