use Rattle.std.proofs.Common.{◌≡◌, length, drop, sym, ◌∙◌, ap, subst, refl, false}
use Rattle.std.specs.Prelude.{IsTrue}
use Rattle.std.proofs.lemmas.List.{take_rest}
use Rattle.ts_log.specs.LogArray.{LogSays}
use Rattle.ts_idmap.specs.Permutation.{AreInverse, Permutes, inverse_of}
use Rattle.ts_idmap.proofs.MapLemmas.{halves_of, says_by_halves, halves_found}
use Rattle.ts_idmap.proofs.view.IdMapView.open.Goals as goal
use Rattle.ts_idmap.proofs.view.IdMapView.open.Goals.{else-len-via-then-len+else-are_inverse, else-len-via-else-len}

pub returns-in_err-numbers-clause-none : goal.returns-in_err-numbers-clause-none
returns-in_err-numbers-clause-none c = rw c.from_residual.ensures (λ outer long says.
    c.in_err-numbers.ensures.none _ outer (halves_of c.args.bytes.now outer says).first)

pub returns-in_err-entries-clause-none : goal.returns-in_err-entries-clause-none
returns-in_err-entries-clause-none c = rw c.from_residual-in_err-entries.ensures (λ outer long says.
    let bytes = c.args.bytes.now in
    let size = c.in_ok-numbers.size in
    let found = halves_found bytes outer c.in_ok-numbers.numbers size c.in_ok-numbers.ensures.only says in
    c.in_err-entries.ensures.none (inverse_of outer) (subst (λ l. LogSays l (inverse_of outer)) (sym (take_rest bytes size)) found.1))

pub returns-then-are_inverse-clause-some : goal.returns-then-are_inverse-clause-some
returns-then-are_inverse-clause-some c =
    let bytes = c.args.bytes.now in
    let size = c.in_ok-numbers.size in
    let second : LogSays (drop size bytes) c.in_ok-entries.entries =
    subst (λ l. LogSays l c.in_ok-entries.entries) (take_rest bytes size) c.in_ok-entries.ensures.some in
    let are : AreInverse c.in_ok-numbers.numbers c.in_ok-entries.entries = c.if-are_inverse.ensures.0 refl in (
      sym c.len.ensures ∙ c.if-len.true,
      says_by_halves bytes c.in_ok-numbers.numbers c.in_ok-entries.entries size c.in_ok-numbers.ensures.some.1 second are,
    )

pub returns-then-are_inverse-clause-only : goal.returns-then-are_inverse-clause-only
returns-then-are_inverse-clause-only c = λ others says.
    (halves_found c.args.bytes.now others c.in_ok-numbers.numbers c.in_ok-numbers.size c.in_ok-numbers.ensures.only says).0

pub returns-else-len-clause-none : goal.returns-else-len-clause-none
returns-else-len-clause-none c = λ outer long says.
    let bytes = c.args.bytes.now in
    let size = c.in_ok-numbers.size in
    let found = halves_found bytes outer c.in_ok-numbers.numbers size c.in_ok-numbers.ensures.only says in
    let second : inverse_of outer ≡ c.in_ok-entries.entries =
    c.in_ok-entries.ensures.only (inverse_of outer) (subst (λ l. LogSays l (inverse_of outer)) (sym (take_rest bytes size)) found.1) in
    let are : AreInverse c.in_ok-numbers.numbers c.in_ok-entries.entries = record {
      permutes = subst Permutes found.0 says.permutes;
      inverts = sym second ∙ ap inverse_of found.0;
    } in
    elim c.else-len.branch [
      | else-len-via-then-len+else-are_inverse w ↦ (let yes : IsTrue false = w.if-are_inverse.ensures.1 are in cc)
      | else-len-via-else-len w ↦ w.if-len.false (c.len.ensures ∙ ap length (sym found.0) ∙ long)
    ]
