use Rattle.std.proofs.Common.{◌≡◌, ℕ, ◌*◌, length, sym, ap, subst, ◌∙◌, arith}
use Rattle.ts_bits.specs.BitArray.{bit_array_of}
use Rattle.ts_wavelet.specs.WaveletTree.{tree_bits, WaveletSays}
use Rattle.ts_wavelet.proofs.Trees.{length-tops}
use Rattle.ts_wavelet.proofs.Says.{says_control, found, found_tree, found_sequence}
use Rattle.ts_wavelet.proofs.view.WaveletView.of_checked.Goals as goal

pub of_checked-requires : goal.of_checked-requires
of_checked-requires c =
    let xs = c.requires.0 in
    (tree_bits c.in-Some.width c.requires.0, (found c.args.bytes.now c.requires.0 c.in-Some.width c.in-Some.rest.now c.in-Some.ensures.some c.requires.2).bits)

pub invariant_of-result : goal.invariant_of-result
invariant_of-result c =
    let is = found c.args.bytes.now c.requires.0 c.in-Some.width c.in-Some.rest.now c.in-Some.ensures.some c.requires.2 in
    let tree = found_tree c.args.bytes.now c.requires.0 c.in-Some.width c.in-Some.rest.now c.of_checked.result c.in-Some.ensures.some c.of_checked.ensures.says c.requires.2 in
    let count : c.requires.2.width * length c.requires.0 ≡ c.in-Some.width * c.args.len =
    ap (λ (w : ℕ). w * length c.requires.0) is.width_is ∙ ap (λ (m : ℕ). c.in-Some.width * m) c.requires.1 in
    record {
      len_fits = omega arith;
      some = c.in-Some.ensures.some.some;
      narrow = c.in-Some.ensures.some.narrow;
      whole = tree.whole ∙ ap (λ (m : ℕ). c.in-Some.width * m) c.requires.1;
      fits = omega (arith, count, c.requires.2.fits);
    }

pub unreachable-requires : goal.unreachable-requires
unreachable-requires c =
    c.in-None.ensures.none c.requires.2.width (bit_array_of (tree_bits c.requires.2.width c.requires.0)) (says_control c.args.bytes.now c.requires.0 c.requires.2)

pub returns-clause-says : goal.returns-clause-says
returns-clause-says c =
    let same = found_sequence c.args.bytes.now c.requires.0 c.in-Some.width c.args.len c.in-Some.rest.now c.of_checked.result c.in-Some.ensures.some c.of_checked.ensures.says c.requires.2 c.requires.1 in
    subst (WaveletSays c.args.bytes.now) (sym same) c.requires.2

pub returns-clause-len : goal.returns-clause-len
returns-clause-len c = length-tops c.args.len c.of_checked.result c.in-Some.width

pub returns-clause-only : goal.returns-clause-only
returns-clause-only c = λ others long says.
    sym (found_sequence c.args.bytes.now others c.in-Some.width c.args.len c.in-Some.rest.now c.of_checked.result c.in-Some.ensures.some c.of_checked.ensures.says says
    (long ∙ length-tops c.args.len c.of_checked.result c.in-Some.width))
