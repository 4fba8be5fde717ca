use Rattle.std.proofs.Common.{◌≡◌, ◌<◌, length, get_or, sym, ◌∙◌, ap, subst, arith, refl}
use Rattle.ts_idmap.proofs.PermutationLemmas.{LeadsBack, inverse_by, leads_back, length_of_inverse}
use Rattle.ts_idmap.proofs.view.are_inverse.Goals as goal
use Rattle.ts_idmap.proofs.view.are_inverse.Goals.{then-number-len-via-then-number-len, then-number-len-via-else-number-len+then-get-entry}

pub returns-then-len : goal.returns-then-len
returns-then-len c = (
  λ never. absurd (grind arith),
  λ are. absurd (c.if-len.true (c.len.ensures ∙ length_of_inverse c.args.numbers.now c.args.entries.now are ∙ sym c.len-len.ensures)),
)

pub returns-then-number-len : goal.returns-then-number-len
returns-then-number-len c = (
  λ never. absurd (grind arith),
  λ are.
      let before : c.loop-entry.entry < length c.args.numbers.now = omega arith in
      let leads = leads_back c.args.numbers.now c.args.entries.now c.loop-entry.entry are before in
      absurd (elim c.then-number-len.branch [
        | then-number-len-via-then-number-len w ↦ omega (arith, leads.0)
        | then-number-len-via-else-number-len+then-get-entry w ↦
            w.if-get-entry.true (w.get.ensures ∙ ap (λ n. get_or c.args.entries.now n 0) c.get-number.ensures ∙ leads.1)
      ]),
)

pub returns : goal.returns
returns c =
    let numbers = c.args.numbers.now in
    let entries = c.args.entries.now in
    let many : length entries ≡ length numbers = omega arith in
    let all : c.loop-entry.entry ≡ length numbers = omega arith in
    let leads : LeadsBack numbers entries (length numbers) = subst (LeadsBack numbers entries) all c.loop-entry.invariant in
    (λ holds. inverse_by numbers entries many leads, λ are. refl)
