use Rattle.std.proofs.Common.{◌≡◌, ◌%◌, ◌<◌, get_or, arith, ◌⊎◌, inl, inr}
use Rattle.ts_vbyte.proofs.ReadLemmas.{shifted, value_fits, tenth_says, tenth_refused, last_says, more_read, read_empty, read_cut}
use Rattle.ts_vbyte.proofs.SpellingLemmas.{only_front}
use Rattle.ts_vbyte.proofs.get.Goals as goal

pub returns-then-byte-clause-some : goal.returns-then-byte-clause-some
returns-then-byte-clause-some c =
    tenth_says c.args.bytes.now c.loop-place.place c.loop-place.value c.loop-place.invariant.0 c.if-place-eq-TENTH.true c.loop-place-test.true c.if-byte.true

pub returns-else-byte-clause-none : goal.returns-else-byte-clause-none
returns-else-byte-clause-none c =
    tenth_refused c.args.bytes.now c.loop-place.place c.loop-place.value c.loop-place.invariant.0 c.if-place-eq-TENTH.true c.loop-place-test.true c.if-byte.false

pub overflow_add-value : goal.overflow_add-value
overflow_add-value c =
    let group : c.from-group.result < 128 = omega arith in
    let early : c.loop-place.place < 9 = omega (arith, c.loop-place.invariant.1) in
    rw (shifted c.from-group.result c.loop-place.place group early)
    (record { fits = value_fits c.args.bytes.now c.from-group.result c.loop-place.place c.loop-place.value c.loop-place.invariant.0 group early })

pub returns-then-place-gt0-clause-none : goal.returns-then-place-gt0-clause-none
returns-then-place-gt0-clause-none c = λ size x says.
    let byte = get_or c.args.bytes.now c.loop-place.place 0 in
    let fits : byte < 256 = (c.type_inv.bytes c.loop-place.place).fits in
    let empty : byte ≡ 128 = omega arith in
    read_empty c.args.bytes.now c.loop-place.place c.loop-place.value c.loop-place.invariant.0 c.loop-place-test.true c.if-place-gt0.true empty size x says.spelled

pub returns-else-group-eq0-clause-some : goal.returns-else-group-eq0-clause-some
returns-else-group-eq0-clause-some c =
    let byte = get_or c.args.bytes.now c.loop-place.place 0 in
    let fits : byte < 256 = (c.type_inv.bytes c.loop-place.place).fits in
    let group : c.from-group.result < 128 = omega arith in
    let early : c.loop-place.place < 9 = omega (arith, c.loop-place.invariant.1) in
    let some : (c.loop-place.place ≡ 0) ⊎ (0 < byte % 128) =
    elim c.else-group-eq0.either [ inl only ↦ inl (omega (arith, only.1)) | inr group_some ↦ inr (omega (arith, c.from-group.ensures, group_some)) ] in (
      omega arith,
      rw (shifted c.from-group.result c.loop-place.place group early, c.from-group.ensures)
          (last_says c.args.bytes.now c.loop-place.place c.loop-place.value c.loop-place.invariant.0 c.loop-place-test.true early c.if-byte-ge128.true fits some),
    )

pub loop-place-preserved : goal.loop-place-preserved
loop-place-preserved c =
    let group : c.from-group.result < 128 = omega arith in
    let early : c.loop-place.place < 9 = omega (arith, c.loop-place.invariant.1) in (
      rw (shifted c.from-group.result c.loop-place.place group early, c.from-group.ensures)
          (more_read c.args.bytes.now c.loop-place.place c.loop-place.value c.loop-place.invariant.0 c.loop-place-test.true c.if-byte-ge128.false),
      omega arith,
    )

pub returns-clause-none : goal.returns-clause-none
returns-clause-none c = λ size x says.
    read_cut c.args.bytes.now c.loop-place.place c.loop-place.value c.loop-place.invariant.0 c.loop-place-test.false size x says.spelled

pub returns-then-byte-clause-only : goal.returns-then-byte-clause-only
returns-then-byte-clause-only c =
    let says = returns-then-byte-clause-some c in
    only_front _ _ _ says.0 says.1

pub returns-else-group-eq0-clause-only : goal.returns-else-group-eq0-clause-only
returns-else-group-eq0-clause-only c =
    let says = returns-else-group-eq0-clause-some c in
    only_front _ _ _ says.0 says.1
