use Rattle.std.proofs.Common.{◌≡◌, ◌-◌, sym, ◌∙◌, ap, take, arith}
use Rattle.std.specs.Ordering.{nat_cmp}
use Rattle.std.specs.Cmp.Lexicographic.{slice_cmp}
use Rattle.std.specs.FinMap.{get, get-empty}
use Rattle.ts_site.specs.Folder.{no_files}
use Rattle.ts_site.specs.Call.{with_files}
use Rattle.ts_site.proofs.CallLemmas.{take_last, with_files-push, get_made, get_made_other}
use Rattle.ts_site.proofs.call.settled_range.Goals as goal

pub returns-then-eq-clause-range : goal.returns-then-eq-clause-range
returns-then-eq-clause-range c store =
    c.loop-i.invariant.rest store
    ∙ ap (λ files. get (with_files store files no_files) c.args.name.now) (take_last c.args.settled.now c.loop-i.i c.index-settled-i.result c.loop-i-test.true c.loop-i.invariant.within c.index-settled-i.is)
    ∙ ap (λ folder. get folder c.args.name.now) (with_files-push store (take (c.loop-i.i - 1) c.args.settled.now) c.index-settled-i.result no_files)
    ∙ get_made _ _ _ _ (sym c.eq.ensures ∙ c.if-eq.true)

pub loop-i-preserved : goal.loop-i-preserved
loop-i-preserved c = record {
  within = omega arith;
  rest = λ store. c.loop-i.invariant.rest store
      ∙ ap (λ files. get (with_files store files no_files) c.args.name.now) (take_last c.args.settled.now c.loop-i.i c.index-settled-i.result c.loop-i-test.true c.loop-i.invariant.within c.index-settled-i.is)
      ∙ ap (λ folder. get folder c.args.name.now) (with_files-push store (take (c.loop-i.i - 1) c.args.settled.now) c.index-settled-i.result no_files)
      ∙ get_made_other _ _ _ _ (sym c.eq.ensures ∙ c.if-eq.false);
}

pub returns-clause-range : goal.returns-clause-range
returns-clause-range c store =
    let none : c.loop-i.i ≡ 0 = omega arith in
    c.loop-i.invariant.rest store ∙ ap (λ k. get (with_files store (take k c.args.settled.now) no_files) c.args.name.now) none ∙ get-empty (slice_cmp nat_cmp) c.args.name.now
