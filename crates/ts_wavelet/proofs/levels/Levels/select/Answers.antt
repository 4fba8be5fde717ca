use Rattle.std.proofs.Common.{◌<◌, ◌^◌, ◌-◌, sym, arith, inl, inr}
use Rattle.std.proofs.lemmas.Bool.{cases_lt}
use Rattle.ts_wavelet.specs.Nodes.{tops_in}
use Rattle.ts_wavelet.proofs.Trees.{tree_of_bits, length-tops}
use Rattle.ts_wavelet.proofs.Descents.{wide_none, first_spot, select_found}
use Rattle.ts_wavelet.proofs.levels.Levels.select.Goals as goal

pub returns-then-is_wide-clause-none : goal.returns-then-is_wide-clause-none
returns-then-is_wide-clause-none c =
    let v = c.args.self.now in
    let tree = tree_of_bits v.width v.bits v.len v.whole in
    omega (arith, wide_none v.width (tops_in v.len v.bits v.width) c.args.p v.len tree.fits (c.is_wide.ensures.0 (cc)) (omega (arith, length-tops v.len v.bits v.width)))

pub select_from-requires-clause-node : goal.select_from-requires-clause-node
select_from-requires-clause-node c =
    let v = c.args.self.now in
    let tree = tree_of_bits v.width v.bits v.len v.whole in
    let fits : c.args.p < 2 ^ v.width = elim (cases_lt c.args.p (2 ^ v.width)) [
      | inl less ↦ less
      | inr more ↦ let wide = c.is_wide.ensures.1 more in absurd (cc)
    ] in
    (first_spot v.width v.bits (tops_in v.len v.bits v.width) tree c.args.p 0 0 v.len 0 fits (omega arith) (omega arith) (sym (length-tops v.len v.bits v.width)) (omega arith)).node

pub returns-clause-some : goal.returns-clause-some
returns-clause-some c =
    let v = c.args.self.now in
    let tree = tree_of_bits v.width v.bits v.len v.whole in
    let fits : c.args.p < 2 ^ v.width = elim (cases_lt c.args.p (2 ^ v.width)) [
      | inl less ↦ less
      | inr more ↦ let wide = c.is_wide.ensures.1 more in absurd (cc)
    ] in
    select_found v.width v.bits (tops_in v.len v.bits v.width) tree v.len (v.width - 0) c.args.p c.args.n c.select_from.result (length-tops v.len v.bits v.width) (omega arith) fits
    c.select_from.ensures.fewer c.select_from.ensures.some
