use Rattle.std.proofs.Common.{ℕ, List, ◌++◌, sym, ap, ◌∙◌, arith, refl}
use Rattle.ts_bits.proofs.Arrays.{array_length, says_length, number_bytes, cut_joined}
use Rattle.ts_bits.proofs.parts.Parts.split.Goals as goal

pub returns-then-bytes-lt8-clause-none : goal.returns-then-bytes-lt8-clause-none
returns-then-bytes-lt8-clause-none c = λ bits said. omega (arith, says_length _ bits said)

pub returns-then-bytes-words-clause-none : goal.returns-then-bytes-words-clause-none
returns-then-bytes-words-clause-none c = λ bits said.
    c.if-bytes-words.true
    (says_length _ bits said ∙ ap array_length (sym c.read_u64-len.ensures) ∙ rw (c.div_ceil-superblocks.ensures, c.div_ceil-words.ensures) refl)

pub returns-clause-some : goal.returns-clause-some
returns-clause-some c = record {
  whole =
      let words = c.split_at-2.result.0.now in
      let superblocks = c.split_at-3.result.0.now in
      let counts = c.split_at-4.result.0.now in
      let padding = c.split_at-4.result.1.now in
      cut_joined c.args.bytes.now words superblocks counts padding c.split_at.result.1.now c.split_at-2.result.1.now c.split_at-3.result.1.now _ _ _
      c.split_at.ensures.back c.split_at-2.ensures.front c.split_at-2.ensures.back c.split_at-3.ensures.front c.split_at-3.ensures.back c.split_at-4.ensures.front c.split_at-4.ensures.back
      ∙ ap (λ (head : List ℕ). head ++ words ++ superblocks ++ counts ++ padding)
      (sym (number_bytes c.args.bytes.now c.read_u64-len.result (λ i. omega (arith, c.type_inv.bytes i)) c.if-bytes-lt8.false c.read_u64-len.ensures));
  fits = omega arith;
  words_length = omega arith;
  superblocks_length = omega arith;
  counts_length = omega arith;
  padding_length = omega arith;
}
