use Rattle.std.proofs.Common.{◌+◌, ◌≤◌, ◌++◌, length, arith, sym, ◌∙◌, ap, length-drop, refl}
use Rattle.std.proofs.lemmas.List.{take_rest}
use Rattle.ts_vbyte.specs.Spelling.{spelling}
use Rattle.ts_front.proofs.EntriesLemmas.{piece_first}
use Rattle.ts_front.proofs.PieceLemmas.{shared_says, shared_read, piece_of_parts}
use Rattle.ts_front.proofs.piece.read_piece.Goals as goal

pub returns-in_err-suffix-clause-none : goal.returns-in_err-suffix-clause-none
returns-in_err-suffix-clause-none c = rw (c.from_residual.ensures, c.if-head.true) (λ shared suffix rest small fits e.
    c.in_err-suffix.ensures.none suffix rest fits (e ∙ ap (λ l. l ++ rest) (piece_first shared suffix)))

pub returns-then-head-clause-some : goal.returns-then-head-clause-some
returns-then-head-clause-some c =
    let found = c.in_ok-suffix.ensures.some in
    rw c.if-head.true (found.0, found.1 ∙ sym (piece_first 0 c.in_ok-suffix.suffix.now), λ _. refl)

pub returns-in_err-shared-clause-none : goal.returns-in_err-shared-clause-none
returns-in_err-shared-clause-none c = rw (c.from_residual-in_err-shared.ensures, c.if-head.false) (λ shared suffix rest small fits e.
    c.in_err-shared.ensures.none (length (spelling shared)) shared (shared_says c.args.bytes.now suffix rest shared small e))

pub returns-in_err-suffix-2-clause-none : goal.returns-in_err-suffix-2-clause-none
returns-in_err-suffix-2-clause-none c = rw (c.from_residual-in_err-suffix-2.ensures, c.if-head.false) (λ shared suffix rest small fits e.
    let found = c.in_ok-shared.ensures.some in
    c.in_err-suffix-2.ensures.none suffix rest fits
    (take_rest c.args.bytes.now c.in_ok-shared.size ∙ shared_read c.args.bytes.now suffix rest shared c.in_ok-shared.size c.in_ok-shared.shared e found.1))

pub returns-clause-some : goal.returns-clause-some
returns-clause-some c =
    let bytes = c.args.bytes.now in
    let size = c.in_ok-shared.size in
    let found = c.in_ok-shared.ensures.some in
    let rest = rw (take_rest bytes size) at c.in_ok-suffix-2.ensures.some in
    let total : size + c.in_ok-suffix-2.more ≤ length bytes = omega (arith, rest.0, length-drop size bytes, found.0) in
    rw c.if-head.false
    (total, piece_of_parts bytes c.in_ok-suffix-2.suffix.now c.in_ok-shared.shared size c.in_ok-suffix-2.more found.1 rest.1, λ no. absurd (cc))
