use Rattle.std.proofs.Common.{◌≡◌, ◌+◌, ◌-◌, ◌*◌, ◌<◌, ◌≤◌, ◌^◌, length, take, drop, IsTrue, sym, ◌∙◌, ap, subst, arith}
use Rattle.std.specs.Int.{w32, w64}
use Rattle.std.proofs.lemmas.List.{length-drop, length-take-le}
use Rattle.ts_bits.specs.BitArray.{zeros_after}
use Rattle.ts_part.specs.Places.{padding}
use Rattle.ts_part.specs.Read.{number_at}
use Rattle.ts_part.proofs.LayoutLemmas.{RowTells, row_says, row_told, zeros_behind, zeros_inside}
use Rattle.ts_part.proofs.NumberLemmas.{bytes_drop, bytes_take}
use Rattle.ts_part.proofs.table.row_size.Goals as goal
use Rattle.ts_part.proofs.table.row_size.Goals.{then-from-i-via-then-from-i, then-from-i-via-else-from-i+then-u32_at-ne0, then-from-i-via-else-from-i+else-u32_at-ne0+then-u64_at-start}

pub returns-then-from-i-clause-none : goal.returns-then-from-i-clause-none
returns-then-from-i-clause-none c = λ size is.
    let n = 88 + 24 * c.args.i + 24 - (88 + 24 * c.args.i) in
    let short : length c.args.file.now < 2 ^ 64 = omega arith in
    let tells = row_says c.args.file.now c.args.i c.args.start size n (omega arith) c.requires.few short is in
    elim c.then-from-i.branch [
      | then-from-i-via-then-from-i w ↦ omega (arith, tells.kind_is, c.u32_at.ensures, c.from.ensures, w.if-from-i.true)
      | then-from-i-via-else-from-i+then-u32_at-ne0 w ↦ omega (arith, tells.zero_is, w.u32_at-else-from-i.ensures, w.if-u32_at-ne0.true)
      | then-from-i-via-else-from-i+else-u32_at-ne0+then-u64_at-start w ↦ omega (arith, tells.start_is, w.u64_at.ensures, w.if-u64_at-start.true)
    ]

pub returns-then-size-file-clause-none : goal.returns-then-size-file-clause-none
returns-then-size-file-clause-none c = λ size is.
    let n = 88 + 24 * c.args.i + 24 - (88 + 24 * c.args.i) in
    let short : length c.args.file.now < 2 ^ 64 = omega arith in
    let tells = row_says c.args.file.now c.args.i c.args.start size n (omega arith) c.requires.few short is in
    omega (arith, tells.size_is, is.inside, c.u64_at-size.ensures, c.if-size-file.true)

pub returns-then-ends_in_zeros-clause-some : goal.returns-then-ends_in_zeros-clause-some
returns-then-ends_in_zeros-clause-some c =
    let file = c.args.file.now in
    let i = c.args.i in
    let start = c.args.start in
    let size = c.u64_at-size.result in
    let n = 88 + 24 * i + 24 - (88 + 24 * i) in
    let whole : n ≡ 24 = omega arith in
    let bytes = take n (drop (88 + 24 * i) file) in
    let kind_is : number_at w32 (take n (drop (88 + 24 * i) file)) 0 ≡ i + 1 = omega (arith, c.u32_at.ensures, c.from.ensures, c.if-from-i.false) in
    let zero_is : number_at w32 (take n (drop (88 + 24 * i) file)) 4 ≡ 0 = sym c.u32_at-else-from-i.ensures ∙ c.if-u32_at-ne0.false in
    let start_is : number_at w64 (take n (drop (88 + 24 * i) file)) 8 ≡ start = sym c.u64_at.ensures ∙ c.if-u64_at-start.false in
    let tells : RowTells (take n (drop (88 + 24 * i) file)) (i + 1) start size =
    record { kind_is = kind_is; zero_is = zero_is; start_is = start_is; size_is = sym c.u64_at-size.ensures } in
    let long : length (take n (drop (88 + 24 * i) file)) ≡ 24 =
    length-take-le n (drop (88 + 24 * i) file) (omega (arith, length-drop (88 + 24 * i) file, c.requires.row)) ∙ whole in
    let zeros : take (padding size) (drop (start + size) file) ≡ zeros_after size =
    sym (zeros_behind file start size) ∙ c.ends_in_zeros.ensures.0 c.if-ends_in_zeros.true in
    let fits : start + size ≤ length file = omega (arith, c.if-size-file.false, c.requires.inside) in
    record {
      spelled = ap (λ k. take k (drop (88 + 24 * i) file)) (sym whole)
          ∙ row_told (take n (drop (88 + 24 * i) file)) (i + 1) start size
          (bytes_take n (drop (88 + 24 * i) file) (bytes_drop (88 + 24 * i) file (λ k. (c.type_inv.file k).fits))) long tells;
      inside = zeros_inside file start size fits zeros;
      zeros = zeros;
    }

pub returns-else-ends_in_zeros-clause-none : goal.returns-else-ends_in_zeros-clause-none
returns-else-ends_in_zeros-clause-none c = λ size is.
    let file = c.args.file.now in
    let start = c.args.start in
    let n = 88 + 24 * c.args.i + 24 - (88 + 24 * c.args.i) in
    let short : length c.args.file.now < 2 ^ 64 = omega arith in
    let tells = row_says c.args.file.now c.args.i c.args.start size n (omega arith) c.requires.few short is in
    let same : size ≡ c.u64_at-size.result = sym tells.size_is ∙ sym c.u64_at-size.ensures in
    let found : IsTrue c.ends_in_zeros.result =
    c.ends_in_zeros.ensures.1 (subst (λ k. take (padding k) (drop k (take (length file - start) (drop start file))) ≡ zeros_after k) same
    (zeros_behind file start size ∙ is.zeros)) in
    cc
