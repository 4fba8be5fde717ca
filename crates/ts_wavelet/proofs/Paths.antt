-- The way of a number through the levels, kept in two rows, and the way up by it.
use Rattle.std.proofs.Common.{◌≡◌, ℕ, suc, ◌+◌, ◌-◌, ◌*◌, ◌/◌, ◌%◌, ◌^◌, ◌<◌, ◌≤◌, Bool, List, length, get_or, set, refl, sym, ap, subst, arith, inl, inr}
use Rattle.std.proofs.lemmas.Bool.{cases_lt, cases_eq}
use Rattle.std.proofs.lemmas.List.{get_or-set_same, get_or-set_other}
use Rattle.ts_bits.specs.BitKinds.{kind_rank, IsPlaceOfKind}
use Rattle.ts_bits.proofs.BitKinds.{kind_mono}
use Rattle.ts_wavelet.specs.Sequence.{occurrences, IsPlaceOf}
use Rattle.ts_wavelet.specs.Nodes.{lesser, among, digit_of, tops_in, IsNode, IsOffsetOf, IsRung}
use Rattle.ts_wavelet.proofs.Trees.{tree_of_bits, length-tops}
use Rattle.ts_wavelet.proofs.Descents.{level_fits, node_end, wide_none, select_some, select_back, top_offset}

-- a level more
pub next_rung : (width len : ℕ) (bits : List Bool) (p l start before : ℕ) (starts ones : List ℕ) → l < length starts → l < length ones
    → IsRung width len bits p l start before
    → ((k : ℕ) → k < l → IsRung width len bits p k (get_or starts k 0) (get_or ones k 0))
    → (k : ℕ) → k < l + 1 → IsRung width len bits p k (get_or (set starts l start) k 0) (get_or (set ones l before) k 0)
next_rung width len bits p l start before starts ones in_starts in_ones rung rungs k h = elim (cases_eq k l) [
  | inl here ↦
      subst (λ (k : ℕ). IsRung width len bits p k (get_or (set starts l start) k 0) (get_or (set ones l before) k 0)) (sym here)
      (rw (get_or-set_same starts l start 0 in_starts, get_or-set_same ones l before 0 in_ones) rung)
  | inr other ↦ rw (get_or-set_other starts l k start 0 other, get_or-set_other ones l k before 0 other) (rungs k (omega arith))
]

-- what stands somewhere is no wide number
pub stands_fits : (width : ℕ) (xs : List ℕ) (p j : ℕ) → ((k : ℕ) → get_or xs k 0 < 2 ^ width) → j ≤ length xs → 0 < occurrences xs p j → p < 2 ^ width
stands_fits width xs p j fits within some = elim (cases_lt p (2 ^ width)) [
  | inl less ↦ less
  | inr more ↦ absurd (omega (arith, some, wide_none width xs p j fits more within))
]

-- the part of a level with the numbers that agree with p
abbrev begin_of : ℕ → ℕ → List Bool → ℕ → ℕ → ℕ
begin_of width len bits p k = lesser (tops_in len bits width) (width - k) (p / 2 ^ (width - k))

abbrev end_of : ℕ → ℕ → List Bool → ℕ → ℕ → ℕ
end_of width len bits p k =
    begin_of width len bits p k + among (tops_in len bits width) (width - k) (p / 2 ^ (width - k)) (length (tops_in len bits width))

part_of : (width len : ℕ) (bits : List Bool) (p k : ℕ)
    → IsNode (tops_in len bits width) (width - k) (p / 2 ^ (width - k)) (begin_of width len bits p k) (end_of width len bits p k)
part_of width len bits p k = record { starts = refl; ends = refl }

-- the bits have one more of the kind behind the first of a part
pub climb_some : (width len : ℕ) (bits : List Bool) → length bits ≡ width * len → (p n k t start ones offset : ℕ) (kind : Bool) → k + suc t ≡ width
    → IsRung width len bits p k start ones → digit_of kind ≡ p / 2 ^ (width - (k + 1)) % 2 → IsOffsetOf (tops_in len bits width) t p n offset
    → n < occurrences (tops_in len bits width) p len
    → kind_rank kind bits start + offset < kind_rank kind bits (length bits)
climb_some width len bits whole p n k t start ones offset kind e rung digit is some =
    let tree = tree_of_bits width bits len whole in
    let long = length-tops len bits width in
    let u : width - (k + 1) ≡ t = omega arith in
    let digit' = subst (λ (m : ℕ). digit_of kind ≡ p / 2 ^ m % 2) u digit in
    let node = part_of width len bits p k in
    let more = select_some width bits (tops_in len bits width) tree len (width - k) t k p n (begin_of width len bits p k) (end_of width len bits p k) offset kind
    long (omega arith) (omega arith) node digit' is some in
    let end = node_end (tops_in len bits width) (width - k) (p / 2 ^ (width - k)) (begin_of width len bits p k) (end_of width len bits p k) node in
    let level = level_fits k width len (omega arith) in
    let mono = kind_mono kind bits (k * len + end_of width len bits p k) (length bits) (omega (arith, end, long, level, whole)) in
    let at = ap (kind_rank kind bits) rung.begins in
    omega (arith, more, mono, at)

-- and the bit that is found is the place on its level
pub climb_back : (width len : ℕ) (bits : List Bool) → length bits ≡ width * len → (p n k t start ones offset found : ℕ) (kind : Bool) → k + suc t ≡ width
    → IsRung width len bits p k start ones → digit_of kind ≡ p / 2 ^ (width - (k + 1)) % 2 → IsOffsetOf (tops_in len bits width) t p n offset
    → start ≤ found → IsPlaceOfKind kind bits (kind_rank kind bits start + offset) found
    → IsOffsetOf (tops_in len bits width) (width - k) p n (found - start)
climb_back width len bits whole p n k t start ones offset found kind e rung digit is after there =
    let tree = tree_of_bits width bits len whole in
    let u : width - (k + 1) ≡ t = omega arith in
    let digit' = subst (λ (m : ℕ). digit_of kind ≡ p / 2 ^ m % 2) u digit in
    let same : found ≡ start + (found - start) = omega arith in
    let there' = subst (λ (m : ℕ). IsPlaceOfKind kind bits (kind_rank kind bits m + offset) (m + (found - start))) rung.begins
    (subst (λ (q : ℕ). IsPlaceOfKind kind bits (kind_rank kind bits start + offset) q) same there) in
    select_back width bits (tops_in len bits width) tree len (width - k) t k p n (begin_of width len bits p k) (end_of width len bits p k) offset (found - start) kind
    (length-tops len bits width) (omega arith) (omega arith) (part_of width len bits p k) digit' is there'

-- above all levels the place is that in the sequence
pub climbed : (width len : ℕ) (bits : List Bool) → length bits ≡ width * len → (p n s offset : ℕ) → s ≡ width
    → n < occurrences (tops_in len bits width) p len → IsOffsetOf (tops_in len bits width) s p n offset → IsPlaceOf (tops_in len bits width) p n offset
climbed width len bits whole p n s offset e some is =
    let tree = tree_of_bits width bits len whole in
    let long = length-tops len bits width in
    let fits = stands_fits width (tops_in len bits width) p len tree.fits (omega (arith, long)) (omega (arith, some)) in
    top_offset width bits (tops_in len bits width) tree s p n offset e fits (subst (λ (m : ℕ). n < occurrences (tops_in len bits width) p m) (sym long) some) is
