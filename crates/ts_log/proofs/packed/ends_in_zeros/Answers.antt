use Rattle.std.proofs.Common.{◌≡◌, ◌≤◌, ◌^◌, ◌%◌, length, arith, refl}
use Rattle.std.proofs.lemmas.Nat.{one_shl}
use Rattle.std.proofs.lemmas.Bool.Decides.{nat_tests}
use Rattle.ts_log.specs.Groups.{joined}
use Rattle.ts_log.proofs.ElementLemmas.{Below_bytes, last_digits, no_digits}
use Rattle.ts_log.proofs.packed.ends_in_zeros.Goals as goal

pub returns-then-is_empty : goal.returns-then-is_empty
returns-then-is_empty c =
    let none : length c.args.words.now ≡ 0 = grind (arith, nat_tests) in
    (λ _. no_digits c.args.count c.args.words.now none, λ _. refl)

pub returns : goal.returns
returns c =
    let some : 8 ≤ length c.args.words.now = grind (arith, nat_tests) in
    let same : joined 8 c.args.words.now % 2 ^ c.args.count ≡ c.word_at-last.result % 2 ^ c.args.count =
    last_digits c.args.count c.word_at-last.result c.args.words.now (Below_bytes c.args.words.now c.type_inv.words) some (omega arith) c.word_at-last.ensures in
    rw (one_shl c.args.count 64 c.requires.within, same) (grind (arith, nat_tests))
