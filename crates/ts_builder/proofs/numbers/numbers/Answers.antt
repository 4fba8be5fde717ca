use Rattle.std.proofs.Common.{◌<◌, ℕ, IfNone, Option, None, Some, arith, sym, subst, take, ◌+◌, List}
use Rattle.std.specs.List.{AllZip}
use Rattle.ts_model.specs.Limits.{number_limit}
use Rattle.ts_builder.specs.Counting.{count_of}
use Rattle.ts_builder.specs.Numbering.{IsNumberOf}
use Rattle.ts_builder.specs.declared.terms.Found.{Found}
use Rattle.ts_builder.proofs.NumberLemmas.{count_below, count_more, number_is}
use Rattle.ts_builder.proofs.ZipLemmas.{zip_more}
use Rattle.ts_builder.proofs.numbers.numbers.Goals as goal

far_below : (o : Option ℕ) (n : ℕ) → IfNone o (n < number_limit) → IfNone o (n < 18446744073709551615)
far_below None n below = omega arith
far_below (Some x) n below = tt

pub number_of-requires : goal.number_of-requires
number_of-requires c =
    let one = c.one-item.result in
    far_below one.id (count_of one.term.now.kind c.loop-one.last)
    (count_below c.args.new.now c.args.found.now c.loop-one.one-index one (count_of one.term.now.kind c.loop-one.last) c.requires.fits c.requires.new c.loop-one-test.true c.one-item.is
    (c.loop-one.invariant.counts one.term.now.kind))

pub loop-one-preserved : goal.loop-one-preserved
loop-one-preserved c =
    let new = c.args.new.now in
    let found = c.args.found.now in
    let i = c.loop-one.one-index in
    let one = c.one-item.result in
    let R = λ (one : Found) (number : ℕ). IsNumberOf new one.term.now one.id number in
    record {
      counts = λ kind.
          let moved = c.number_of.ensures.counts kind in
          let before = c.loop-one.invariant.counts kind in
          let more = count_more kind found i one c.loop-one-test.true c.one-item.is in
          omega arith;
      numbers = subst (AllZip R (take (i + 1) found)) (sym {A = List ℕ} c.in_ok-push.ensures.items)
          (zip_more R found c.loop-one.numbers.items i one c.number_of.result c.loop-one-test.true c.one-item.is c.loop-one.invariant.numbers
          (number_is new found i one c.number_of.result (count_of one.term.now.kind c.loop-one.last) c.last_of-last.ensures.layer c.requires.new c.loop-one-test.true c.one-item.is
          (c.loop-one.invariant.counts one.term.now.kind) c.number_of.ensures.known c.number_of.ensures.next));
    }
