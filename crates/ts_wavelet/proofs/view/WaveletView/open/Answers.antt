use Rattle.std.proofs.Common.{◌≡◌, ℕ, ◌*◌, length, sym, ap, ◌∙◌, arith}
use Rattle.std.proofs.lemmas.Bool.{both_ways}
use Rattle.ts_bits.specs.BitArray.{bit_array_of}
use Rattle.ts_bits.specs.Rank.{rank}
use Rattle.ts_wavelet.specs.Nodes.{tops_in}
use Rattle.ts_wavelet.specs.Sequence.{occurrences}
use Rattle.ts_wavelet.specs.WaveletTree.{tree_bits}
use Rattle.ts_wavelet.proofs.Trees.{length-tops}
use Rattle.ts_wavelet.proofs.Says.{none_since, says_control, found, found_tree, found_sequence, found_width, opened, top_low, positive_none}
use Rattle.ts_wavelet.proofs.view.WaveletView.open.Goals as goal
use Rattle.ts_wavelet.proofs.view.WaveletView.open.Goals.{else-width-gt1-via-then-width-gt1+else-rank1-eq0, else-width-gt1-via-else-width-gt1}

pub returns-in_err-width-clause-none : goal.returns-in_err-width-clause-none
returns-in_err-width-clause-none c = none_since c.from_residual.result (λ xs long says.
    c.in_err-width.ensures.none says.width (bit_array_of (tree_bits says.width xs)) (says_control c.args.bytes.now xs says))

pub returns-in_err-bits-clause-none : goal.returns-in_err-bits-clause-none
returns-in_err-bits-clause-none c = none_since c.from_residual-in_err-bits.result (λ xs long says.
    c.in_err-bits.ensures.none (tree_bits c.in_ok-width.width xs) (found c.args.bytes.now xs c.in_ok-width.width c.in_ok-width.rest.now c.in_ok-width.ensures.some says).bits)

pub returns-then-not-is_product-clause-none : goal.returns-then-not-is_product-clause-none
returns-then-not-is_product-clause-none c = λ xs long says.
    let tree = found_tree c.args.bytes.now xs c.in_ok-width.width c.in_ok-width.rest.now c.in_ok-bits.bits c.in_ok-width.ensures.some c.in_ok-bits.ensures.some says in
    let whole : c.in_ok-width.width * c.args.len ≡ c.len.result = ap (λ (m : ℕ). c.in_ok-width.width * m) (sym long) ∙ sym tree.whole ∙ sym c.len.ensures in
    both_ways c.is_product.result c.if-not-is_product.true (c.is_product.ensures.1 whole)

pub returns-then-rank1-eq0-clause-none : goal.returns-then-rank1-eq0-clause-none
returns-then-rank1-eq0-clause-none c = λ xs long says.
    let control = c.in_ok-width.ensures.some in
    let tree = found_tree c.args.bytes.now xs c.in_ok-width.width c.in_ok-width.rest.now c.in_ok-bits.bits c.in_ok-width.ensures.some c.in_ok-bits.ensures.some says in
    let is_width = found_width c.args.bytes.now xs c.in_ok-width.width c.in_ok-width.rest.now c.in_ok-width.ensures.some says in
    let none : rank c.in_ok-bits.bits (length xs) ≡ 0 = ap (rank c.in_ok-bits.bits) long ∙ sym c.rank1.ensures ∙ omega arith in
    is_width.least (omega arith) (top_low c.in_ok-width.width c.in_ok-bits.bits xs tree control.some none)

pub returns-then-rank-gt0-clause-none : goal.returns-then-rank-gt0-clause-none
returns-then-rank-gt0-clause-none c = λ xs long says.
    let same = found_sequence c.args.bytes.now xs c.in_ok-width.width c.args.len c.in_ok-width.rest.now c.in_ok-bits.bits c.in_ok-width.ensures.some c.in_ok-bits.ensures.some says long in
    let none : occurrences (tops_in c.args.len c.in_ok-bits.bits c.in_ok-width.width) 0 c.args.len ≡ 0 =
    ap (λ ys. occurrences ys 0 c.args.len) same ∙ ap (occurrences xs 0) (sym long) ∙ positive_none xs says.positive in
    omega (arith, none, c.rank.ensures)

pub returns-clause-says : goal.returns-clause-says
returns-clause-says c =
    opened c.args.bytes.now c.in_ok-width.width c.args.len c.in_ok-width.rest.now c.in_ok-bits.bits c.in_ok-width.ensures.some c.in_ok-bits.ensures.some
    (c.is_product.ensures.0 c.if-not-is_product.false ∙ c.len.ensures)
    (elim c.else-width-gt1.branch [
      | else-width-gt1-via-then-width-gt1+else-rank1-eq0 w ↦ λ more none. w.if-rank1-eq0.false (w.rank1.ensures ∙ none)
      | else-width-gt1-via-else-width-gt1 w ↦ λ more none. absurd (omega (arith, w.if-width-gt1.false, more))
    ])
    (sym c.rank.ensures ∙ omega arith)

pub returns-clause-len : goal.returns-clause-len
returns-clause-len c = length-tops c.args.len c.in_ok-bits.bits c.in_ok-width.width

pub returns-clause-only : goal.returns-clause-only
returns-clause-only c = λ others long says.
    sym (found_sequence c.args.bytes.now others c.in_ok-width.width c.args.len c.in_ok-width.rest.now c.in_ok-bits.bits c.in_ok-width.ensures.some c.in_ok-bits.ensures.some says
    (long ∙ length-tops c.args.len c.in_ok-bits.bits c.in_ok-width.width))
