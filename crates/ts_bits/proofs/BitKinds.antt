-- Counts and places of the bits of one kind, ones or zeros.
use Rattle.std.proofs.Common.{◌≡◌, ℕ, suc, ◌+◌, ◌-◌, ◌*◌, ◌/◌, ◌%◌, ◌^◌, ◌<◌, ◌≤◌, Bool, true, false, Option, Some, None, List, length, get_or, refl, sym, ap, subst, ◌∙◌, arith, inl, inr}
use Rattle.std.proofs.lemmas.Bool.{cases_lt, cases_eq, cases_Bool}
use Rattle.std.proofs.lemmas.Option.{slice_get-get_or}
use Rattle.std.proofs.lemmas.Nat.{pow-add, mod-pow-add, shr_high, shr_split, ones_cat, pow_pos, leading_top, ones_le_self}
use Rattle.std.proofs.Math.Nat.{div-div-eq-div-mul, div-eq_of_lt, div-eq_of_lt-le, pow-suc, pow-succ', mod-lt}
use Rattle.std.proofs.Math.Pow.{pow_mono}
use Rattle.std.specs.Int.{div_ceil}
use Rattle.std.specs.Option.{IfSome}
use lib.Count.{ones as count_ones, ones_in, count_leading_zeros}
use Rattle.ts_bits.specs.Rank.{ones, rank}
use Rattle.ts_bits.specs.BitArray.{words_in, superblocks_in, word_at}
use Rattle.ts_bits.specs.Ranked.{number_in}
use Rattle.ts_bits.specs.BitKinds.{kind_rank, superblock_rank, before_superblock, before_word, before_place, IsPlaceOfKind, Brackets, IsNextInWord}
use Rattle.ts_bits.specs.Select.{IsPlaceOfOne, IsNextOne}
use Rattle.ts_bits.proofs.WordBits.{rank_in_word}
use Rattle.ts_bits.proofs.Ranks.{digit_of, rank-mono, rank-le, rank_more, rank-le-length, rank_whole, place_is, rank_after_place}
use Rattle.ts_bits.proofs.Lookups.{Holds, ones_before_is}

-- no bit of a kind stands before the first
pub kind_none : (kind : Bool) (bits : List Bool) → kind_rank kind bits (512 * 0) ≡ 0
kind_none true bits = let none = rank-le bits (512 * 0) in omega arith
kind_none false bits = omega arith

-- where one of a kind stands there are bits
pub kind_some : (kind : Bool) (bits : List Bool) (n : ℕ) → n < kind_rank kind bits (length bits) → 0 < length bits
kind_some true bits n some = let most = rank-le bits (length bits) in omega arith
kind_some false bits n some = omega arith

-- a longer front has no fewer bits of a kind
pub kind_mono : (kind : Bool) (bits : List Bool) (i j : ℕ) → i ≤ j → kind_rank kind bits i ≤ kind_rank kind bits j
kind_mono true bits i j h = (rank-mono bits i j h).0
kind_mono false bits i j h =
    let mono = rank-mono bits i j h in
    let le = rank-le bits i in
    omega arith

-- the count of a kind at a superblock
pub superblock_kind : (kind : Bool) (bits : List Bool) (len : ℕ) (words superblocks counts : List ℕ) → Holds bits len words superblocks counts
    → (k : ℕ) → k < superblocks_in len → before_superblock kind superblocks k ≡ kind_rank kind bits (512 * k)
superblock_kind true bits len words superblocks counts h k within = h.counted.superblock k (rw h.len within)
superblock_kind false bits len words superblocks counts h k within =
    ap (λ (x : ℕ). 512 * k - x) (h.counted.superblock k (rw h.len within))

-- the counts of a kind at a word together
pub word_kind : (kind : Bool) (bits : List Bool) (len : ℕ) (words superblocks counts : List ℕ) → Holds bits len words superblocks counts
    → (k : ℕ) → 64 * k < length bits → before_superblock kind superblocks (k / 8) + before_word kind counts k ≡ kind_rank kind bits (64 * k)
word_kind true bits len words superblocks counts h k within = ones_before_is bits len words superblocks counts h k within
word_kind false bits len words superblocks counts h k within =
    let both = ones_before_is bits len words superblocks counts h k within in
    let block = h.counted.superblock (k / 8) (omega arith) in
    let block_le = rank-le bits (512 * (k / 8)) in
    let mono = rank-mono bits (512 * (k / 8)) (64 * k) (omega arith) in
    let parts : 64 * k ≡ 512 * (k / 8) + 64 * (k % 8) = omega arith in
    omega arith

-- those of a kind before a place within a word
pub place_kind : (kind : Bool) (bits : List Bool) (word k p : ℕ) → word ≡ word_at bits k → p ≤ 64
    → kind_rank kind bits (64 * k + p) ≡ kind_rank kind bits (64 * k) + before_place kind word p
place_kind true bits word k p is within = rank_in_word bits word k p (64 - p) is (omega arith)
place_kind false bits word k p is within =
    let front = rank_in_word bits word k p (64 - p) is (omega arith) in
    let le = rank-le bits (64 * k) in
    let mono = rank-mono bits (64 * k) (64 * k + p) (omega arith) in
    omega arith

-- a bit that is no one is a zero
not_one : (bits : List Bool) (n place : ℕ) → place < length bits → place - rank bits place ≤ n → n < (place + 1) - rank bits (place + 1)
    → IsPlaceOfKind false bits n place
not_one bits n place within low high =
    let more = rank_more bits place within in
    let le = rank-le bits place in
    elim (cases_Bool (get_or bits place false)) [
      | inl is_one ↦
          let digit : digit_of (get_or bits place false) ≡ 1 = ap digit_of is_one in
          absurd (omega (arith, more, digit))
      | inr is_zero ↦
          let digit : digit_of (get_or bits place false) ≡ 0 = ap digit_of is_zero in
          record {
            bit = slice_get-get_or bits place false within ∙ ap (λ (b : Bool). Some b) is_zero;
            before = omega (arith, more, digit, le);
          }
    ]

not_zero : (bits : List Bool) (n place : ℕ) → place < length bits → rank bits place ≤ n → n < rank bits (place + 1) → IsPlaceOfKind true bits n place
not_zero bits n place within low high =
    let more = rank_more bits place within in
    elim (cases_Bool (get_or bits place false)) [
      | inl is_one ↦
          let digit : digit_of (get_or bits place false) ≡ 1 = ap digit_of is_one in
          record {
            bit = slice_get-get_or bits place false within ∙ ap (λ (b : Bool). Some b) is_one;
            before = omega (arith, more, digit);
          }
      | inr is_zero ↦
          let digit : digit_of (get_or bits place false) ≡ 0 = ap digit_of is_zero in
          absurd (omega (arith, more, digit))
    ]

-- the place behind which those of a kind are more than n
pub place_of_kind : (kind : Bool) (bits : List Bool) (n place : ℕ) → n < kind_rank kind bits (length bits)
    → kind_rank kind bits place ≤ n → n < kind_rank kind bits (place + 1) → IsPlaceOfKind kind bits n place
place_of_kind kind bits n place some low high = elim (cases_lt place (length bits)) [
  | inr behind ↦ let mono = kind_mono kind bits (length bits) place behind in absurd (omega (arith, mono, some, low))
  | inl within ↦ elim kind as (λ k. kind_rank k bits place ≤ n → n < kind_rank k bits (place + 1) → IsPlaceOfKind k bits n place) [
    | true ↦ λ l h. not_zero bits n place within l h
    | false ↦ λ l h. not_one bits n place within l h
  ] low high
]

-- the word that the two searches find
pub record IsWordOfKind (kind : Bool) (bits : List Bool) (n k before : ℕ) : Type 0 where
  pub before_is : before ≡ kind_rank kind bits (64 * k)
  pub low : kind_rank kind bits (64 * k) ≤ n
  pub high : n < kind_rank kind bits (64 * (k + 1))

pub word_of_kind : (kind : Bool) (bits : List Bool) (len : ℕ) (words superblocks counts : List ℕ) → Holds bits len words superblocks counts
    → (n block k : ℕ) → n < kind_rank kind bits (length bits)
    → Brackets (before_superblock kind superblocks) (superblocks_in len) n block (block + 1)
    → k < words_in len → k / 8 ≡ block
    → before_word kind counts k ≤ n - before_superblock kind superblocks block
    → (k + 1 < words_in len → (k + 1) / 8 ≡ block → n - before_superblock kind superblocks block < before_word kind counts (k + 1))
    → IsWordOfKind kind bits n k (before_superblock kind superblocks block + before_word kind counts k)
word_of_kind kind bits len words superblocks counts h n block k some found within there low high =
    let before = word_kind kind bits len words superblocks counts h k (omega (arith, h.len)) in
    let at : before_superblock kind superblocks (k / 8) ≡ before_superblock kind superblocks block = ap (before_superblock kind superblocks) there in
    let below = found.below in
    record {
      before_is = ap (λ (x : ℕ). x + before_word kind counts k) (sym at) ∙ before;
      low = omega (arith, before, at, below, low);
      high = elim (cases_lt (k + 1) (words_in len)) [
        | inl more ↦
            let next = word_kind kind bits len words superblocks counts h (k + 1) (omega (arith, h.len)) in
            elim (cases_eq ((k + 1) / 8) block) [
              | inl same ↦
                  let at_next : before_superblock kind superblocks ((k + 1) / 8) ≡ before_superblock kind superblocks block = ap (before_superblock kind superblocks) same in
                  omega (arith, next, at_next, below, high more same)
              | inr other ↦
                  let e : (k + 1) / 8 ≡ block + 1 = omega arith in
                  let at_next : before_superblock kind superblocks ((k + 1) / 8) ≡ before_superblock kind superblocks (block + 1) = ap (before_superblock kind superblocks) e in
                  omega (arith, next, at_next, found.above (omega arith))
            ]
        | inr last ↦
            let mono = kind_mono kind bits (length bits) (64 * (k + 1)) (omega (arith, h.len)) in
            omega (arith, mono, some)
      ];
    }

-- those that are left are in the word
pub left_of_kind : (kind : Bool) (bits : List Bool) (len : ℕ) (words superblocks counts : List ℕ) → Holds bits len words superblocks counts
    → (n k before word : ℕ) → IsWordOfKind kind bits n k before → k < words_in len → word < 2 ^ 64 → word ≡ number_in 8 words k
    → n - before < before_place kind word 64
left_of_kind kind bits len words superblocks counts h n k before word found within fits is =
    let at : word ≡ word_at bits k = is ∙ h.word k within (rw (← is) fits) in
    let whole = place_kind kind bits word k 64 at (omega arith) in
    let e : 64 * k + 64 ≡ 64 * (k + 1) = omega arith in
    let next = ap (kind_rank kind bits) e in
    omega (arith, whole, next, found.before_is, found.low, found.high)

-- a word that has more of the kind than are asked for behind those before it
pub word_in : (kind : Bool) (bits : List Bool) (len : ℕ) (words superblocks counts : List ℕ) → Holds bits len words superblocks counts
    → (n k before word : ℕ) → k < words_in len → word < 2 ^ 64 → word ≡ number_in 8 words k
    → before ≡ before_superblock kind superblocks (k / 8) + before_word kind counts k
    → before ≤ n → n - before < before_place kind word 64 → IsWordOfKind kind bits n k before
word_in kind bits len words superblocks counts h n k before word within fits is counted low high =
    let at : word ≡ word_at bits k = is ∙ h.word k within (rw (← is) fits) in
    let whole = place_kind kind bits word k 64 at (omega arith) in
    let e : 64 * k + 64 ≡ 64 * (k + 1) = omega arith in
    let next = ap (kind_rank kind bits) e in
    let base = word_kind kind bits len words superblocks counts h k (omega (arith, h.len)) in
    record {
      before_is = counted ∙ base;
      low = omega (arith, counted, base, low);
      high = omega (arith, counted, base, whole, next, low, high);
    }

-- no more stand before a place than there are places
pub kind-le : (kind : Bool) (bits : List Bool) (i : ℕ) → kind_rank kind bits i ≤ i
kind-le true bits i = rank-le bits i
kind-le false bits i = omega arith

-- and the search in the word finds the bit
pub bit_of_kind : (kind : Bool) (bits : List Bool) (len : ℕ) (words superblocks counts : List ℕ) → Holds bits len words superblocks counts
    → (n k before word place : ℕ) → n < kind_rank kind bits (length bits) → IsWordOfKind kind bits n k before → k < words_in len → word < 2 ^ 64 → word ≡ number_in 8 words k
    → place < 64 → before_place kind word place ≤ n - before → n - before < before_place kind word (place + 1)
    → IsPlaceOfKind kind bits n (64 * k + place)
bit_of_kind kind bits len words superblocks counts h n k before word place some found within fits is inside low high =
    let at : word ≡ word_at bits k = is ∙ h.word k within (rw (← is) fits) in
    let here = place_kind kind bits word k place at (omega arith) in
    let next = place_kind kind bits word k (place + 1) at (omega arith) in
    let e : 64 * k + (place + 1) ≡ (64 * k + place) + 1 = omega arith in
    let after = ap (kind_rank kind bits) e in
    place_of_kind kind bits n (64 * k + place) some
    (omega (arith, here, found.before_is, found.low, low))
    (omega (arith, next, after, found.before_is, found.low, high))

-- a range of superblocks that holds a range of places
pub range_brackets : (kind : Bool) (bits : List Bool) (from to n end : ℕ) → from ≤ to → to ≤ length bits
    → kind_rank kind bits from ≤ n → n < kind_rank kind bits to → end ≡ div_ceil to 512
    → Brackets (superblock_rank kind bits) (superblocks_in (length bits)) n (from / 512) end
range_brackets kind bits from to n end order within low high is =
    let first = kind_mono kind bits (512 * (from / 512)) from (omega arith) in
    let last = kind_mono kind bits to (512 * end) (omega arith) in
    let some : from < to = elim (cases_lt from to) [
      | inl less ↦ less
      | inr more ↦ let back = kind_mono kind bits to from more in absurd (omega (arith, back, low, high))
    ] in
    record {
      order = omega arith;
      within = omega arith;
      below = omega (arith, first, low);
      above = λ _. omega (arith, last, high);
    }

-- the counts at superblocks as the bytes say them
pub said_brackets : (kind : Bool) (bits : List Bool) (len : ℕ) (words superblocks counts : List ℕ) → Holds bits len words superblocks counts
    → (n low high : ℕ) → Brackets (superblock_rank kind bits) (superblocks_in (length bits)) n low high
    → Brackets (before_superblock kind superblocks) (superblocks_in len) n low high
said_brackets kind bits len words superblocks counts h n low high between =
    let end : superblocks_in (length bits) ≡ superblocks_in len = ap (λ (m : ℕ). superblocks_in m) h.len in
    let order = between.order in
    let within = between.within in
    record {
      order = order;
      within = omega (arith, end, within);
      below = omega (arith, superblock_kind kind bits len words superblocks counts h low (omega (arith, end, within, order)), between.below);
      above = λ more. omega (arith, superblock_kind kind bits len words superblocks counts h high more, between.above (omega (arith, end, more)));
    }

pub held_brackets : (kind : Bool) (bits : List Bool) (len : ℕ) (words superblocks counts : List ℕ) → Holds bits len words superblocks counts
    → (n low high : ℕ) → Brackets (before_superblock kind superblocks) (superblocks_in len) n low high
    → Brackets (superblock_rank kind bits) (superblocks_in (length bits)) n low high
held_brackets kind bits len words superblocks counts h n low high between =
    let end : superblocks_in (length bits) ≡ superblocks_in len = ap (λ (m : ℕ). superblocks_in m) h.len in
    let order = between.order in
    let within = between.within in
    record {
      order = order;
      within = omega (arith, end, within);
      below = omega (arith, superblock_kind kind bits len words superblocks counts h low (omega (arith, within, order)), between.below);
      above = λ more. omega (arith, superblock_kind kind bits len words superblocks counts h high (omega (arith, end, more)), between.above (omega (arith, end, more)));
    }

-- all superblocks, where one of the kind is left
pub kind_brackets : (kind : Bool) (bits : List Bool) (n : ℕ) → n < kind_rank kind bits (length bits)
    → Brackets (superblock_rank kind bits) (superblocks_in (length bits)) n 0 (superblocks_in (length bits))
kind_brackets kind bits n some =
    let none : kind_rank kind bits (512 * 0) ≡ 0 = kind_none kind bits in
    record {
      order = omega (arith, kind_some kind bits n some);
      within = omega arith;
      below = omega (arith, none);
      above = λ less. absurd (omega (arith, less));
    }

-- the lowest digits
mod_pow_lt : (n k : ℕ) → n % 2 ^ k < 2 ^ k
mod_pow_lt n k = mod-lt n (pow_pos k)

ones_of_one : count_ones 1 ≡ 1
unfolding count_ones ones_in
ones_of_one = refl

-- the ones of a shifted number, and of the digits that a longer shift drops
count_shr : (word i k : ℕ) → i ≤ k → count_ones (word / 2 ^ i) ≡ count_ones (word / 2 ^ k) + count_ones (word % 2 ^ k / 2 ^ i)
count_shr word i k h =
    let e : k ≡ (k - i) + i = omega arith in
    let low : word % 2 ^ k ≡ (word / 2 ^ i % 2 ^ (k - i)) * 2 ^ i + word % 2 ^ i =
    ap (λ (m : ℕ). word % 2 ^ m) e ∙ mod-pow-add word (k - i) i in
    let middle : word % 2 ^ k / 2 ^ i ≡ word / 2 ^ i % 2 ^ (k - i) =
    ap (λ (x : ℕ). x / 2 ^ i) low ∙ shr_high (word / 2 ^ i % 2 ^ (k - i)) i (word % 2 ^ i) (mod_pow_lt word i) in
    let high : word / 2 ^ i / 2 ^ (k - i) ≡ word / 2 ^ k =
    div-div-eq-div-mul word (2 ^ i) (2 ^ (k - i)) ∙ ap (λ (x : ℕ). word / x) (sym (pow-add 2 i (k - i)) ∙ ap (λ (m : ℕ). 2 ^ m) (omega arith)) in
    sym (ap count_ones (shr_split (word / 2 ^ i) (k - i)))
    ∙ ones_cat (k - i) (word / 2 ^ i / 2 ^ (k - i)) (word / 2 ^ i % 2 ^ (k - i)) (mod_pow_lt (word / 2 ^ i) (k - i))
    ∙ ap (λ (x : ℕ). count_ones x + count_ones (word / 2 ^ i % 2 ^ (k - i))) high
    ∙ ap (λ (x : ℕ). count_ones (word / 2 ^ k) + count_ones x) (sym middle)

-- a word with no one from place `from` on
pub next_none : (word from : ℕ) → word % 2 ^ (64 - from) ≡ 0 → before_place true word 64 ≡ before_place true word from
next_none word from clear =
    let none : word % 2 ^ (64 - from) / 2 ^ 0 ≡ 0 = ap (λ (x : ℕ). x / 2 ^ 0) clear in
    count_shr word 0 (64 - from) (omega arith) ∙ ap (λ (x : ℕ). count_ones (word / 2 ^ (64 - from)) + count_ones x) none ∙ omega (arith, ones_le_self 0)

-- the highest digit among those from place `from` on
pub next_some : (word from rest : ℕ) → from < 64 → rest ≡ word % 2 ^ (64 - from) → 0 < rest → IsNextInWord word from (count_leading_zeros 64 rest)
next_some word from rest inside is some =
    let k = 64 - from in
    let fits : rest < 2 ^ (64 - from) = rw is (mod_pow_lt word (64 - from)) in
    let wide : rest < 2 ^ 64 = omega (arith, fits, pow_mono {i = 64 - from} {j = 64} (omega arith)) in
    let top = leading_top 64 rest some wide in
    let j = top.0 in
    let place : count_leading_zeros 64 rest + suc top.0 ≡ 64 = top.1 in
    let low : 2 ^ top.0 ≤ rest = top.2 in
    let high : rest < 2 ^ suc top.0 = top.3 in
    let within : suc top.0 ≤ 64 - from = elim (cases_lt top.0 (64 - from)) [
      | inl less ↦ less
      | inr more ↦ absurd (omega (arith, fits, low, pow_mono {i = 64 - from} {j = top.0} more))
    ] in
    let here : 64 - count_leading_zeros 64 rest ≡ suc top.0 = omega arith in
    let next : 64 - (count_leading_zeros 64 rest + 1) ≡ top.0 = omega arith in
    let none : word % 2 ^ (64 - from) / 2 ^ suc top.0 ≡ 0 = ap (λ (x : ℕ). x / 2 ^ suc top.0) (sym is) ∙ div-eq_of_lt high in
    let one : word % 2 ^ (64 - from) / 2 ^ top.0 ≡ 1 =
    ap (λ (x : ℕ). x / 2 ^ top.0) (sym is) ∙ div-eq_of_lt-le {k = 1} (2 ^ top.0) (omega (arith, low)) (omega (arith, high, pow-suc 2 top.0)) in
    record {
      after = omega arith;
      within = omega arith;
      between = ap (λ (m : ℕ). count_ones (word / 2 ^ m)) here ∙ count_shr word (suc top.0) (64 - from) within
          ∙ ap (λ (x : ℕ). count_ones (word / 2 ^ (64 - from)) + count_ones x) none ∙ omega (arith, ones_le_self 0);
      one = ap (λ (m : ℕ). count_ones (word / 2 ^ m)) next ∙ count_shr word top.0 (64 - from) (omega arith)
          ∙ ap (λ (x : ℕ). count_ones (word / 2 ^ (64 - from)) + count_ones x) one ∙ ap (λ (x : ℕ). count_ones (word / 2 ^ (64 - from)) + x) ones_of_one;
    }

-- the next one in the word at a place is the next one of the bits
pub next_in_bits : (bits : List Bool) (len : ℕ) (words superblocks counts : List ℕ) → Holds bits len words superblocks counts
    → (i word place : ℕ) → i < length bits → word < 2 ^ 64 → word ≡ number_in 8 words (i / 64) → IsNextInWord word (i % 64) place
    → IsNextOne bits i (64 * (i / 64) + place)
next_in_bits bits len words superblocks counts h i word place inside fits is next =
    let k = i / 64 in
    let at : word ≡ word_at bits (i / 64) = is ∙ h.word (i / 64) (omega (arith, h.len)) (rw (← is) fits) in
    let within = next.within in
    let after = next.after in
    let start = place_kind true bits word (i / 64) (i % 64) at (omega arith) in
    let here = place_kind true bits word (i / 64) place at (omega arith) in
    let behind = place_kind true bits word (i / 64) (place + 1) at (omega arith) in
    let e : 64 * (i / 64) + i % 64 ≡ i = omega arith in
    let begins = ap (rank bits) e in
    let f : 64 * (i / 64) + (place + 1) ≡ (64 * (i / 64) + place) + 1 = omega arith in
    let ends = ap (rank bits) f in
    let same : rank bits (64 * (i / 64) + place) ≡ rank bits i = omega (arith, start, here, begins, next.between) in
    let found = place_is bits (rank bits i) (64 * (i / 64) + place) (omega (arith, same)) (omega (arith, start, behind, begins, ends, next.one)) in
    record { after = omega arith; one = found.one; between = same }

-- a word with none from place i on: there may be one behind it
pub next_behind : (bits : List Bool) (i place : ℕ) → i ≤ length bits → IsPlaceOfOne bits (rank bits i) place → IsNextOne bits i place
next_behind bits i place within is = record {
  after = elim (cases_lt place i) [
    | inr after ↦ after
    | inl before ↦
        let mono = rank-mono bits (place + 1) i (omega arith) in
        absurd (omega (arith, mono.0, rank_after_place bits (rank bits i) place is))
  ];
  one = is.one;
  between = is.before;
}

-- all of a word's digits are those from place 0 on
pub mod_small : (word from : ℕ) → from ≡ 0 → word < 2 ^ 64 → word ≡ word % 2 ^ (64 - from)
mod_small word from first fits = rw first (omega arith)

-- the ones before a place, by the word in which it stands
pub rank_at : (bits : List Bool) (len : ℕ) (words superblocks counts : List ℕ) → Holds bits len words superblocks counts
    → (i word before : ℕ) → i < length bits → word < 2 ^ 64 → word ≡ number_in 8 words (i / 64) → before ≡ rank bits (64 * (i / 64))
    → before + count_ones (word / 2 / 2 ^ (63 - i % 64)) ≡ rank bits i
rank_at bits len words superblocks counts h i word before inside fits is before_is =
    let at : word ≡ word_at bits (i / 64) = is ∙ h.word (i / 64) (omega (arith, h.len)) (rw (← is) fits) in
    let shift : word / 2 / 2 ^ (63 - i % 64) ≡ word / 2 ^ (64 - i % 64) =
    div-div-eq-div-mul word 2 (2 ^ (63 - i % 64))
    ∙ ap (λ (x : ℕ). word / x) (sym (pow-succ' 2 (63 - i % 64)) ∙ ap (λ (m : ℕ). 2 ^ m) (omega arith)) in
    let e : 64 * (i / 64) + i % 64 ≡ i = omega arith in
    ap (λ (x : ℕ). before + count_ones x) shift ∙ ap (λ (x : ℕ). x + count_ones (word / 2 ^ (64 - i % 64))) before_is
    ∙ sym (place_kind true bits word (i / 64) (i % 64) at (omega arith)) ∙ ap (rank bits) e

-- no word stands before the first of a superblock
pub first_word : (kind : Bool) (bits : List Bool) (len : ℕ) (words superblocks counts : List ℕ) → Holds bits len words superblocks counts
    → (block : ℕ) → 512 * block < length bits → before_word kind counts (8 * block) ≡ 0
first_word kind bits len words superblocks counts h block within =
    let count = h.counted.count (8 * block) (omega arith) in
    let e : 64 * (8 * block) ≡ 512 * (8 * block / 8) = omega arith in
    let same = ap (rank bits) e in
    let zero : number_in 2 counts (8 * block) ≡ 0 = omega (arith, count, same) in
    let z : 64 * (8 * block % 8) ≡ 0 = omega arith in
    elim kind as (λ k. before_word k counts (8 * block) ≡ 0) [
      | true ↦ zero
      | false ↦ omega arith
    ]

-- all superblocks, where some one is left
pub whole_brackets : (bits : List Bool) (n : ℕ) → n < ones bits → (end : ℕ) → end ≡ superblocks_in (length bits) → Brackets (superblock_rank true bits) (superblocks_in (length bits)) n 0 end
whole_brackets bits n some end is =
    let most = rank-le-length bits (length bits) in
    let whole = rank_whole bits (length bits) (omega arith) in
    let none = rank-le bits (512 * 0) in
    record {
      order = omega arith;
      within = omega arith;
      below = omega arith;
      above = λ less. absurd (omega arith);
    }

-- where the next one is selected by the ones before place i
pub next_selected : (bits : List Bool) (i n : ℕ) (found : Option ℕ) → i ≤ length bits → n ≡ rank bits i → IfSome found (IsPlaceOfOne bits n) → IfSome found (IsNextOne bits i)
next_selected bits i n None within is selected = tt
next_selected bits i n (Some place) within is selected = next_behind bits i place within (subst (λ (m : ℕ). IsPlaceOfOne bits m place) is selected)
