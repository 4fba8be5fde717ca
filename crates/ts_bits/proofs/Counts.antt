-- The check of the counts, a word at a time.
use Rattle.std.proofs.Common.{◌≡◌, ℕ, ◌+◌, ◌*◌, ◌/◌, ◌%◌, ◌<◌, Bool, List, length, sym, ap, ◌∙◌, arith, inl, inr}
use Rattle.std.proofs.lemmas.Bool.{cases_eq, cases_lt}
use Rattle.ts_bits.specs.Rank.{rank}
use Rattle.ts_bits.specs.BitArray.{words_in, superblock_count, word_count}
use Rattle.ts_bits.specs.Ranked.{number_in, HasCounts, Agrees}
use Rattle.ts_bits.proofs.Ranks.{rank-mono}

-- the counts are those of the bits at the words before word k, and so are the superblocks that begin there
pub record HasCountsUpTo (bits : List Bool) (superblocks counts : List ℕ) (k : ℕ) : Type 0 where
  pub superblock : (j : ℕ) → 8 * j < k → number_in 8 superblocks j ≡ superblock_count bits j
  pub count : (j : ℕ) → j < k → number_in 2 counts j ≡ word_count bits j

pub counts_none : (bits : List Bool) (superblocks counts : List ℕ) → HasCountsUpTo bits superblocks counts 0
counts_none bits superblocks counts = record {
  superblock = λ j h. absurd (omega arith);
  count = λ j h. absurd (omega arith);
}

-- the superblock of word k
superblock_of_word : (bits : List Bool) (superblocks counts : List ℕ) (k : ℕ) → HasCountsUpTo bits superblocks counts k
    → Agrees superblocks counts k (rank bits (64 * k)) → number_in 8 superblocks (k / 8) ≡ superblock_count bits (k / 8)
superblock_of_word bits superblocks counts k before here = elim (cases_eq (k % 8) 0) [
  | inl first ↦
      let e : 64 * k ≡ 512 * (k / 8) = omega arith in
      here.first first ∙ ap (rank bits) e
  | inr later ↦ before.superblock (k / 8) (omega arith)
]

-- one word more
pub counts_more : (bits : List Bool) (superblocks counts : List ℕ) (k : ℕ) → HasCountsUpTo bits superblocks counts k
    → Agrees superblocks counts k (rank bits (64 * k)) → HasCountsUpTo bits superblocks counts (k + 1)
counts_more bits superblocks counts k before here =
    let block = superblock_of_word bits superblocks counts k before here in
    record {
      superblock = λ j h. elim (cases_eq j (k / 8)) [
        | inl same ↦ rw same block
        | inr other ↦ before.superblock j (omega arith)
      ];
      count = λ j h. elim (cases_lt j k) [
        | inl lower ↦ before.count j lower
        | inr upper ↦
            let e : j ≡ k = omega arith in
            rw e (omega (arith, here.both, block))
      ];
    }

-- every word
pub counts_all : (bits : List Bool) (superblocks counts : List ℕ) → HasCountsUpTo bits superblocks counts (words_in (length bits)) → HasCounts bits superblocks counts
counts_all bits superblocks counts all = record {
  superblock = λ k h. all.superblock k (omega arith);
  count = all.count;
}

-- where the counts are those of the bits, each word agrees
pub agrees_from_counts : (bits : List Bool) (superblocks counts : List ℕ) (k total : ℕ) → HasCounts bits superblocks counts → k < words_in (length bits)
    → total ≡ rank bits (64 * k) → Agrees superblocks counts k total
agrees_from_counts bits superblocks counts k total has h e =
    let block = has.superblock (k / 8) (omega arith) in
    let count = has.count k h in
    let mono = rank-mono bits (512 * (k / 8)) (64 * k) (omega arith) in
    record {
      first = λ z. let same : 512 * (k / 8) ≡ 64 * k = omega arith in block ∙ ap (rank bits) same ∙ sym e;
      both = omega (arith, block, count, mono.0);
    }
