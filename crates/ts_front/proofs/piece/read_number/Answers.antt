use Rattle.std.proofs.Common.{◌≡◌, ◌+◌, ◌-◌, ◌<◌, ◌≤◌, ℕ, List, [], ◌∷◌, length, get_or, take, sym, ◌∙◌, ap, arith, rules}
use Rattle.ts_vbyte.specs.Spelling.{NumberSays}
use Rattle.ts_vbyte.proofs.SpellingLemmas.{spelling_last}
use Rattle.ts_front.proofs.piece.read_number.Goals as goal

-- a byte with the bit of the last one is a number
one_byte : (bytes : List ℕ) → 0 < length bytes → 128 ≤ get_or bytes 0 0 → get_or bytes 0 0 < 256
    → (1 ≤ length bytes) × NumberSays (take 1 bytes) (get_or bytes 0 0 - 128)
one_byte [] some low high = absurd (omega arith)
one_byte (byte ∷ bytes) some low high =
    let marked : byte ≡ 128 + (byte - 128) = omega arith in (
      omega arith,
      record {
        spelled = ap (λ b. b ∷ []) marked ∙ sym (spelling_last (byte - 128) (omega arith));
        fits = omega arith;
      },
    )

pub returns-then-bytes-ge-LAST-clause-some : goal.returns-then-bytes-ge-LAST-clause-some
returns-then-bytes-ge-LAST-clause-some c =
    let bytes = c.args.bytes.now in
    let some : 0 < length bytes = search rules in
    rw c.from.ensures (one_byte bytes some c.if-bytes-ge-LAST.true (c.type_inv.bytes 0).fits)
