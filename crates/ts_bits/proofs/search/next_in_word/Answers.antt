use Rattle.std.proofs.Common.{◌≡◌, ◌%◌, ◌^◌, ◌-◌, ℕ, sym, ap, ◌∙◌, arith}
use Rattle.std.proofs.lemmas.Nat.{one_shl}
use Rattle.ts_bits.proofs.BitKinds.{mod_small, next_none, next_some}
use Rattle.ts_bits.proofs.search.next_in_word.Goals as goal
use Rattle.ts_bits.proofs.search.next_in_word.Goals.{then-from-eq0, else-from-eq0}

pub returns-then-rest-eq0-clause-none : goal.returns-then-rest-eq0-clause-none
returns-then-rest-eq0-clause-none c =
    let rest : c.if-from-eq0.rest ≡ c.args.word % 2 ^ (64 - c.args.from) = elim c.if-from-eq0.branch [
      | then-from-eq0 w ↦ w.rest-is ∙ mod_small c.args.word c.args.from w.if-from-eq0.true (omega arith)
      | else-from-eq0 w ↦ w.rest-is ∙ ap (λ (m : ℕ). c.args.word % m) (one_shl (64 - c.args.from) 64 (omega arith))
    ] in
    next_none c.args.word c.args.from (sym rest ∙ c.if-rest-eq0.true)

pub returns-else-rest-eq0-clause-some : goal.returns-else-rest-eq0-clause-some
returns-else-rest-eq0-clause-some c =
    let rest : c.if-from-eq0.rest ≡ c.args.word % 2 ^ (64 - c.args.from) = elim c.if-from-eq0.branch [
      | then-from-eq0 w ↦ w.rest-is ∙ mod_small c.args.word c.args.from w.if-from-eq0.true (omega arith)
      | else-from-eq0 w ↦ w.rest-is ∙ ap (λ (m : ℕ). c.args.word % m) (one_shl (64 - c.args.from) 64 (omega arith))
    ] in
    rw c.from.ensures (next_some c.args.word c.args.from c.if-from-eq0.rest c.requires rest (omega arith))
