use Rattle.std.proofs.Common.{◌≡◌, ◌+◌, ◌-◌, ◌*◌, ◌^◌, ◌<◌, take, get_or, arith, subst}
use Rattle.std.proofs.lemmas.Nat.{shl_whole, one_shl, shr_below, shl_below}
use Rattle.std.proofs.lemmas.List.{take_more, take_all}
use Rattle.ts_log.proofs.GroupsLemmas.{Below-from_get_or}
use Rattle.ts_log.proofs.StreamLemmas.{stream_start, stream_partial, stream_word, stream_end, stream_end_whole, pushed_small}
use Rattle.ts_log.proofs.write.write_words.Goals as goal
use Rattle.ts_log.proofs.write.write_words.Goals.{then-filled-ge64+in_ok-append_word, else-filled-ge64}

pub loop-x-init : goal.loop-x-init
loop-x-init c = stream_start c.args.width c.args.into.now.items

pub overflow_cast-pending-then-filled-ge64 : goal.overflow_cast-pending-then-filled-ge64
overflow_cast-pending-then-filled-ge64 c =
    let s = c.loop-x.invariant in
    let w = c.args.width in
    let p = c.loop-x.pending in
    let f = c.loop-x.filled in
    let rest = f + w - 64 in
    let x = get_or c.args.numbers.now c.loop-x.x-index 0 in
    let fits : x < 2 ^ w = c.requires.fit c.loop-x.x-index 0 c.loop-x-test.true in
    let sum : f + w ≡ 64 + rest = omega arith in
    let small : p * 2 ^ w + x < 2 ^ (64 + rest) = subst (λ k. p * 2 ^ w + x < 2 ^ k) sum (pushed_small w x p f s.small fits) in
    rw (shl_whole p f w 128 s.small (omega arith), c.from.ensures) (record { fits = shr_below (p * 2 ^ w + x) 64 rest small })

pub loop-x-preserved : goal.loop-x-preserved
loop-x-preserved c =
    let s = c.loop-x.invariant in
    let w = c.args.width in
    let p = c.loop-x.pending in
    let f = c.loop-x.filled in
    let rest = f + w - 64 in
    let i = c.loop-x.x-index in
    let xs = c.args.numbers.now in
    let x = get_or xs i 0 in
    let fits : x < 2 ^ w = c.requires.fit i 0 c.loop-x-test.true in
    let next = take_more xs i 0 c.loop-x-test.true in
    let shifted = shl_whole p f w 128 s.small (omega arith) in
    elim c.if-filled-ge64.branch [
      | then-filled-ge64+in_ok-append_word b ↦
          rw (next, b.into-is, b.in_ok-append_word.ensures.appended, b.pending-is, b.filled-is, shifted, c.from.ensures, one_shl rest 128 (omega (arith, s.partial)))
          (stream_word w x (take i xs) c.args.into.now.items c.loop-x.into.items p f rest s fits c.requires.narrow (omega arith))
      | else-filled-ge64 b ↦ rw (next, b.into-is, b.pending-is, b.filled-is, shifted, c.from.ensures) (stream_partial w x (take i xs) c.args.into.now.items c.loop-x.into.items p f s fits (omega arith))
    ]

pub overflow_cast-pending-then-filled-gt0 : goal.overflow_cast-pending-then-filled-gt0
overflow_cast-pending-then-filled-gt0 c =
    let s = c.loop-x.invariant in
    let p = c.loop-x.pending in
    let f = c.loop-x.filled in
    let all : f + (64 - f) ≡ 64 = omega (arith, s.partial) in
    rw (shl_whole p f (64 - f) 128 s.small (omega arith))
    (record { fits = subst (λ k. p * 2 ^ (64 - f) < 2 ^ k) all (shl_below p f (64 - f) s.small) })

pub returns-in_ok-append_word-2-clause-written : goal.returns-in_ok-append_word-2-clause-written
returns-in_ok-append_word-2-clause-written c =
    let xs = c.args.numbers.now in
    let w = c.args.width in
    let p = c.loop-x.pending in
    let f = c.loop-x.filled in
    let below = Below-from_get_or (2 ^ w) xs (λ i h. c.requires.fit i 0 h) in
    let s = rw (take_all c.loop-x.x-index xs c.loop-x-test.false) at c.loop-x.invariant in
    rw (c.in_ok-append_word-2.ensures.appended, shl_whole p f (64 - f) 128 s.small (omega arith))
    (stream_end w xs c.args.into.now.items c.loop-x.into.items p f below s c.if-filled-gt0.true)

pub returns-else-filled-gt0-clause-written : goal.returns-else-filled-gt0-clause-written
returns-else-filled-gt0-clause-written c =
    let xs = c.args.numbers.now in
    let w = c.args.width in
    let p = c.loop-x.pending in
    let f = c.loop-x.filled in
    let below = Below-from_get_or (2 ^ w) xs (λ i h. c.requires.fit i 0 h) in
    let s = rw (take_all c.loop-x.x-index xs c.loop-x-test.false) at c.loop-x.invariant in
    stream_end_whole w xs c.args.into.now.items c.loop-x.into.items p f below s (omega arith)
