use Rattle.std.proofs.Common.{◌+◌, ◌<◌, ◌≤◌, drop, arith, sym, ◌∙◌, ap, length-drop}
use Rattle.std.proofs.lemmas.List.{take_rest}
use Rattle.ts_front.specs.Shared.{shared_length}
use Rattle.ts_front.proofs.SharedLemmas.{shared_le_right, compares_within, compares_past}
use Rattle.ts_front.proofs.compare.go_on.Goals as goal

pub returns-then-piece-before-clause-compares : goal.returns-then-piece-before-clause-compares
returns-then-piece-before-clause-compares c = λ entry fits known.
    let s = c.args.piece.shared in
    let rest = c.args.piece.suffix.now in
    let text = c.args.text.now in
    let past : shared_length entry text < s = omega (arith, known.shares, c.if-piece-before.true) in
    let both = compares_past s entry rest text fits past in
    record { shares = known.shares ∙ sym both.0; ordered = known.ordered ∙ sym both.1 }

pub returns-clause-compares : goal.returns-clause-compares
returns-clause-compares c = λ entry fits known.
    let s = c.args.piece.shared in
    let rest = c.args.piece.suffix.now in
    let text = c.args.text.now in
    let within : s ≤ shared_length entry text = omega (arith, known.shares, c.if-piece-before.false) in
    let both = compares_within s entry rest text fits within in
    let found = rw (take_rest text s) at c.compare_texts-rest.ensures in
    record { shares = ap (λ n. s + n) found.shares ∙ sym both.0; ordered = found.ordered ∙ sym both.1 }

pub returns-clause-inside : goal.returns-clause-inside
returns-clause-inside c =
    let s = c.args.piece.shared in
    let rest = c.args.piece.suffix.now in
    let text = c.args.text.now in
    let found = rw (take_rest text s) at c.compare_texts-rest.ensures in
    omega (arith, found.shares, shared_le_right rest (drop s text), length-drop s text, c.requires, c.if-piece-before.false)

pub overflow_add-result : goal.overflow_add-result
overflow_add-result c =
    let s = c.args.piece.shared in
    let rest = c.args.piece.suffix.now in
    let text = c.args.text.now in
    let found = rw (take_rest text s) at c.compare_texts-rest.ensures in
    record { fits = omega (arith, found.shares, shared_le_right rest (drop s text), length-drop s text, c.requires, c.if-piece-before.false) }
