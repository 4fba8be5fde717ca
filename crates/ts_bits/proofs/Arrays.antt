-- The bytes of an array and its parts: cut, written and read.
use Rattle.std.proofs.Common.{◌≡◌, ℕ, ◌+◌, ◌-◌, ◌*◌, ◌/◌, ◌%◌, ◌^◌, ◌<◌, ◌≤◌, Bool, List, [], ◌++◌, length, take, drop, get_or, refl, sym, ap, subst, ◌∙◌, arith}
use Rattle.std.proofs.lemmas.List.{append_assoc, append-nil, length-append, length-replicate, length-take-le, take-append-drop, take_at, drop_at}
use Rattle.byteorder.specs.Endian.{big_bytes, big_number}
use Rattle.byteorder.specs.Numbers.{big_from-append, big_number-reads_back, length-bytes_high_first}
use Rattle.ts_bits.specs.BitArray.{words_in, superblocks_in, word_at, superblock_count, word_count, numbers_of, zeros_after, bit_array_of, BitsSay}
use Rattle.ts_bits.specs.Ranked.{number_in, bits_of_words, IsSplit, IsClearBehind, HasCounts}
use Rattle.ts_bits.proofs.WordBits.{number_of_bits-lt, bits_of_words_are, clear_behind, word_at-bits_of_words, length-bits_of_words}
use Rattle.ts_bits.proofs.Ranks.{rank-le-length, rank-mono}
use Rattle.ts_bits.proofs.Bytes.{length-numbers_of, number_in-numbers_of, numbers_of_2_are, numbers_of_8_are, only_bytes_8, small-take}

-- two lists joined in one way, cut at one length
append_cut : {X : Type 0} (a b c d : List X) → a ++ b ≡ c ++ d → length a ≡ length c → (a ≡ c) × (b ≡ d)
append_cut a b c d e l = (
  sym (take_at a b (length c) l) ∙ ap (take (length c)) e ∙ take_at c d (length c) refl,
  sym (drop_at a b (length c) l) ∙ ap (drop (length c)) e ∙ drop_at c d (length c) refl,
)

-- the parts are those of the bits
pub record IsSaid (bits : List Bool) (n : ℕ) (words superblocks counts padding : List ℕ) : Type 0 where
  pub len : n ≡ length bits
  pub words_are : words ≡ numbers_of 8 (words_in (length bits)) (word_at bits)
  pub superblocks_are : superblocks ≡ numbers_of 8 (superblocks_in (length bits)) (superblock_count bits)
  pub counts_are : counts ≡ numbers_of 2 (words_in (length bits)) (word_count bits)
  pub padding_is : padding ≡ zeros_after (2 * words_in (length bits))

-- five lists joined, the first told apart
regroup : (a b c d e : List ℕ) → a ++ b ++ c ++ d ++ e ≡ a ++ (b ++ c ++ d ++ e)
regroup a b c d e = simp append_assoc

-- the first 8 bytes are the number of bits
pub says_number : (bytes : List ℕ) (bits : List Bool) → BitsSay bytes bits → big_number 8 bytes ≡ length bits
unfolding bit_array_of
says_number bytes bits said =
    let n = length bits in
    ap (big_number 8) said.form
    ∙ ap (big_number 8) (regroup (big_bytes 8 (length bits)) (numbers_of 8 (words_in (length bits)) (word_at bits)) (numbers_of 8 (superblocks_in (length bits)) (superblock_count bits)) (numbers_of 2 (words_in (length bits)) (word_count bits)) (zeros_after (2 * words_in (length bits))))
    ∙ big_number-reads_back 8 (length bits) (numbers_of 8 (words_in (length bits)) (word_at bits) ++ numbers_of 8 (superblocks_in (length bits)) (superblock_count bits) ++ numbers_of 2 (words_in (length bits)) (word_count bits) ++ zeros_after (2 * words_in (length bits))) (omega (arith, said.fits))

-- how many bytes an array of n bits has
abbrev pub array_length : ℕ → ℕ
array_length n = 8 + 8 * words_in n + 8 * superblocks_in n + 2 * words_in n + (8 - 2 * words_in n % 8) % 8

-- five lists joined have their lengths together
length-five : (a b c d e : List ℕ) → length (a ++ b ++ c ++ d ++ e) ≡ length a + length b + length c + length d + length e
length-five a b c d e = simp length-append

pub length-bit_array_of : (bits : List Bool) → length (bit_array_of bits) ≡ array_length (length bits)
unfolding bit_array_of
length-bit_array_of bits =
    let five = length-five (big_bytes 8 (length bits)) (numbers_of 8 (words_in (length bits)) (word_at bits)) (numbers_of 8 (superblocks_in (length bits)) (superblock_count bits)) (numbers_of 2 (words_in (length bits)) (word_count bits)) (zeros_after (2 * words_in (length bits))) in
    let a = length-bytes_high_first 8 (length bits) in
    let b = length-numbers_of 8 (words_in (length bits)) (word_at bits) in
    let c = length-numbers_of 8 (superblocks_in (length bits)) (superblock_count bits) in
    let d = length-numbers_of 2 (words_in (length bits)) (word_count bits) in
    let e = length-replicate {A = ℕ} ((8 - 2 * words_in (length bits) % 8) % 8) 0 in
    five ∙ rw (a, b, c, d, e) refl

-- bytes that say bits have the length that their number of bits asks
pub says_length : (bytes : List ℕ) (bits : List Bool) → BitsSay bytes bits → length bytes ≡ array_length (big_number 8 bytes)
says_length bytes bits said =
    ap length said.form ∙ length-bit_array_of bits ∙ ap array_length (sym (says_number bytes bits said))

-- five lists joined in one way, cut at one length each
five_cut : (a b c d e a' b' c' d' e' : List ℕ) → a ++ b ++ c ++ d ++ e ≡ a' ++ b' ++ c' ++ d' ++ e'
    → length a ≡ length a' → length b ≡ length b' → length c ≡ length c' → length d ≡ length d'
    → (b ≡ b') × (c ≡ c') × (d ≡ d') × (e ≡ e')
five_cut a b c d e a' b' c' d' e' whole la lb lc ld =
    let first = append_cut (a ++ b ++ c ++ d) e (a' ++ b' ++ c' ++ d') e' whole (simp length-append (omega arith)) in
    let second = append_cut (a ++ b ++ c) d (a' ++ b' ++ c') d' first.0 (simp length-append (omega arith)) in
    let third = append_cut (a ++ b) c (a' ++ b') c' second.0 (simp length-append (omega arith)) in
    let fourth = append_cut a b a' b' third.0 la in
    (fourth.1, third.1, second.1, first.1)

-- the parts of bytes that say bits are those of the bits
pub split_says : (bytes : List ℕ) (bits : List Bool) (n : ℕ) (words superblocks counts padding : List ℕ)
    → IsSplit bytes n words superblocks counts padding → BitsSay bytes bits → IsSaid bits n words superblocks counts padding
unfolding bit_array_of
split_says bytes bits n words superblocks counts padding split said =
    let joined : big_bytes 8 n ++ (words ++ superblocks ++ counts ++ padding) ≡ bytes = sym (split.whole ∙ regroup (big_bytes 8 n) words superblocks counts padding) in
    let n_is : n ≡ length bits =
    sym (big_number-reads_back 8 n (words ++ superblocks ++ counts ++ padding) (omega (arith, split.fits))) ∙ ap (big_number 8) joined ∙ says_number bytes bits said in
    let a = length-bytes_high_first 8 (length bits) in
    let b = length-numbers_of 8 (words_in (length bits)) (word_at bits) in
    let c = length-numbers_of 8 (superblocks_in (length bits)) (superblock_count bits) in
    let d = length-numbers_of 2 (words_in (length bits)) (word_count bits) in
    let lw : length words ≡ 8 * words_in (length bits) = split.words_length ∙ ap (λ (m : ℕ). 8 * words_in m) n_is in
    let ls : length superblocks ≡ 8 * superblocks_in (length bits) = split.superblocks_length ∙ ap (λ (m : ℕ). 8 * superblocks_in m) n_is in
    let lc : length counts ≡ 2 * words_in (length bits) = split.counts_length ∙ ap (λ (m : ℕ). 2 * words_in m) n_is in
    let lp : length padding ≡ (8 - 2 * words_in (length bits) % 8) % 8 = split.padding_length ∙ ap (λ (m : ℕ). (8 - 2 * words_in m % 8) % 8) n_is in
    let h = length-bytes_high_first 8 n in
    let cut = five_cut (big_bytes 8 n) words superblocks counts padding (big_bytes 8 (length bits)) (numbers_of 8 (words_in (length bits)) (word_at bits)) (numbers_of 8 (superblocks_in (length bits)) (superblock_count bits)) (numbers_of 2 (words_in (length bits)) (word_count bits)) (zeros_after (2 * words_in (length bits)))
    (sym split.whole ∙ said.form) (omega arith) (omega arith) (omega arith) (omega arith) in
    record { len = n_is; words_are = cut.0; superblocks_are = cut.1; counts_are = cut.2; padding_is = cut.3 }

-- parts of bits say them
pub says_from_parts : (bytes : List ℕ) (bits : List Bool) (n : ℕ) (words superblocks counts padding : List ℕ)
    → IsSplit bytes n words superblocks counts padding → IsSaid bits n words superblocks counts padding → BitsSay bytes bits
unfolding bit_array_of
says_from_parts bytes bits n words superblocks counts padding split said = record {
  form = split.whole ∙ rw (said.words_are, said.superblocks_are, said.counts_are, said.padding_is, said.len) refl;
  fits = rw (← said.len) split.fits;
}

-- what stands at a place of the numbers alone
number_in-whole : (n count k : ℕ) (f : ℕ → ℕ) (bytes : List ℕ) → bytes ≡ numbers_of n count f → k < count → f k < 256 ^ n → number_in n bytes k ≡ f k
number_in-whole n count k f bytes e h fits =
    ap (λ xs. number_in n xs k) (e ∙ sym (append-nil (numbers_of n count f))) ∙ number_in-numbers_of n count k f [] h fits

-- the words of an array, read
pub said_words : (bits : List Bool) (n : ℕ) (words superblocks counts padding : List ℕ) → IsSaid bits n words superblocks counts padding
    → (k : ℕ) → k < words_in (length bits) → number_in 8 words k ≡ word_at bits k
said_words bits n words superblocks counts padding said k h =
    number_in-whole 8 (words_in (length bits)) k (word_at bits) words said.words_are h (number_of_bits-lt 64 (drop (64 * k) bits))

-- an array's parts hold its bits
pub said_bits : (bits : List Bool) (n : ℕ) (words superblocks counts padding : List ℕ) → IsSaid bits n words superblocks counts padding
    → bits_of_words n (number_in 8 words) ≡ bits
said_bits bits n words superblocks counts padding said =
    ap (λ (m : ℕ). bits_of_words m (number_in 8 words)) said.len
    ∙ bits_of_words_are bits (number_in 8 words) (said_words bits n words superblocks counts padding said)

-- and are clear behind them
pub said_clear : (bits : List Bool) (n : ℕ) (words superblocks counts padding : List ℕ) → IsSaid bits n words superblocks counts padding
    → IsClearBehind n (number_in 8 words)
said_clear bits n words superblocks counts padding said =
    subst (λ (m : ℕ). IsClearBehind m (number_in 8 words)) (sym said.len)
    (clear_behind bits (number_in 8 words) (said_words bits n words superblocks counts padding said))

-- and count their ones
pub said_counts : (bits : List Bool) (n : ℕ) (words superblocks counts padding : List ℕ) → length bits < 2 ^ 64 → IsSaid bits n words superblocks counts padding
    → HasCounts bits superblocks counts
said_counts bits n words superblocks counts padding fits said = record {
  superblock = λ k h. number_in-whole 8 (superblocks_in (length bits)) k (superblock_count bits) superblocks said.superblocks_are h (omega (arith, rank-le-length bits (512 * k)));
  count = λ k h. number_in-whole 2 (words_in (length bits)) k (word_count bits) counts said.counts_are h
      (let within = rank-mono bits (512 * (k / 8)) (64 * k) (omega arith) in omega (arith, within.1));
}

-- parts that are read as the bits' are the bits'
pub read_said : (n : ℕ) (words superblocks counts padding : List ℕ)
    → ((i : ℕ) → get_or words i 0 < 256) → ((i : ℕ) → get_or superblocks i 0 < 256) → ((i : ℕ) → get_or counts i 0 < 256)
    → length words ≡ 8 * words_in n → length superblocks ≡ 8 * superblocks_in n → length counts ≡ 2 * words_in n
    → ((k : ℕ) → k < words_in n → number_in 8 words k < 2 ^ 64)
    → IsClearBehind n (number_in 8 words) → HasCounts (bits_of_words n (number_in 8 words)) superblocks counts
    → padding ≡ zeros_after (2 * words_in n)
    → IsSaid (bits_of_words n (number_in 8 words)) n words superblocks counts padding
read_said n words superblocks counts padding sw ss sc lw ls lc fit clear has zeros =
    let len : length (bits_of_words n (number_in 8 words)) ≡ n = length-bits_of_words n (number_in 8 words) in
    record {
      len = sym len;
      words_are = rw len (numbers_of_8_are (words_in n) (word_at (bits_of_words n (number_in 8 words))) words lw sw
          (λ k h. sym (word_at-bits_of_words n (number_in 8 words) k h (fit k h) clear)));
      superblocks_are = rw len (numbers_of_8_are (superblocks_in n) (superblock_count (bits_of_words n (number_in 8 words))) superblocks ls ss
          (λ k h. has.superblock k (rw len h)));
      counts_are = rw len (numbers_of_2_are (words_in n) (word_count (bits_of_words n (number_in 8 words))) counts lc sc
          (λ k h. has.count k (rw len h)));
      padding_is = rw len zeros;
    }

-- the first 8 bytes are those of the number that is read there
pub number_bytes : (bytes : List ℕ) (n : ℕ) → ((i : ℕ) → get_or bytes i 0 < 256) → 8 ≤ length bytes → n ≡ big_number 8 bytes → big_bytes 8 n ≡ take 8 bytes
number_bytes bytes n small long is =
    let front : length (take 8 bytes) ≡ 8 = length-take-le 8 bytes long in
    let read : big_number 8 (take 8 bytes) ≡ big_number 8 bytes =
    sym (big_from-append 8 (take 8 bytes) (drop 8 bytes) (omega arith)) ∙ ap (big_number 8) (take-append-drop 8 bytes) in
    ap (big_bytes 8) (is ∙ sym read) ∙ only_bytes_8 (take 8 bytes) front (small-take 8 bytes small)

-- five lists joined, from the right
regroup_right : (a b c d e : List ℕ) → a ++ b ++ c ++ d ++ e ≡ a ++ (b ++ (c ++ (d ++ e)))
regroup_right a b c d e = simp append_assoc

-- bytes cut four times, joined again
pub cut_joined : (bytes words superblocks counts padding rest rest' rest'' : List ℕ) (x y z : ℕ)
    → rest ≡ drop 8 bytes → words ≡ take x rest → rest' ≡ drop x rest → superblocks ≡ take y rest' → rest'' ≡ drop y rest' → counts ≡ take z rest'' → padding ≡ drop z rest''
    → bytes ≡ take 8 bytes ++ words ++ superblocks ++ counts ++ padding
cut_joined bytes words superblocks counts padding rest rest' rest'' x y z r w r' s r'' c p =
    let last : counts ++ padding ≡ rest'' = rw (c, p) (take-append-drop z rest'') in
    let middle : superblocks ++ rest'' ≡ rest' = rw (s, r'') (take-append-drop y rest') in
    let first : words ++ rest' ≡ rest = rw (w, r') (take-append-drop x rest) in
    let whole : take 8 bytes ++ rest ≡ bytes = rw r (take-append-drop 8 bytes) in
    sym whole
    ∙ ap (λ (xs : List ℕ). take 8 bytes ++ xs) (sym first ∙ ap (λ (xs : List ℕ). words ++ xs) (sym middle ∙ ap (λ (xs : List ℕ). superblocks ++ xs) (sym last)))
    ∙ sym (regroup_right (take 8 bytes) words superblocks counts padding)

-- bytes say one list of bits
pub says_one : (bytes : List ℕ) (a b : List Bool) → BitsSay bytes a → BitsSay bytes b → a ≡ b
unfolding bit_array_of
says_one bytes a b says_a says_b =
    let n = length a in
    let words = numbers_of 8 (words_in (length a)) (word_at a) in
    let superblocks = numbers_of 8 (superblocks_in (length a)) (superblock_count a) in
    let counts = numbers_of 2 (words_in (length a)) (word_count a) in
    let padding = zeros_after (2 * words_in (length a)) in
    let split : IsSplit bytes (length a) words superblocks counts padding = record {
      whole = says_a.form;
      fits = says_a.fits;
      words_length = length-numbers_of 8 (words_in (length a)) (word_at a);
      superblocks_length = length-numbers_of 8 (superblocks_in (length a)) (superblock_count a);
      counts_length = length-numbers_of 2 (words_in (length a)) (word_count a);
      padding_length = length-replicate {A = ℕ} ((8 - 2 * words_in (length a) % 8) % 8) 0;
    } in
    sym (said_bits a (length a) words superblocks counts padding (split_says bytes a (length a) words superblocks counts padding split says_a))
    ∙ said_bits b (length a) words superblocks counts padding (split_says bytes b (length a) words superblocks counts padding split says_b)
