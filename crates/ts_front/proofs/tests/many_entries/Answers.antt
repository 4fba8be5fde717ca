use Rattle.std.proofs.Common.{◌≡◌, true, sym, ◌∙◌, rules}
use Rattle.std.specs.Cmp.Lexicographic.{slice_cmp}
use Rattle.std.specs.Ordering.{nat_cmp}
use Rattle.std.specs.declared.cmp.Ordering.TheVariants.{Less}
use Rattle.ts_front.proofs.OrderLemmas.{less_is}
use Rattle.ts_front.proofs.PushLemmas.{ends_none, may_push, after_push}
use Rattle.ts_front.proofs.tests.many_entries.Goals as goal

pub loop-number-init : goal.loop-number-init
loop-number-init g c = rw c.new-builder.ensures (ends_none _)

pub push-requires : goal.push-requires
push-requires g c =
    let last = c.loop-number.last in
    let entry = c.digits_of-entry.result in
    let below : c.is_below.result ≡ true = search rules in
    let less : slice_cmp nat_cmp last entry ≡ Less = less_is (slice_cmp nat_cmp last entry) (sym c.is_below.ensures ∙ below) in
    may_push c.loop-number.builder last entry c.loop-number.invariant less

pub loop-number-preserved : goal.loop-number-preserved
loop-number-preserved g c =
    let last = c.loop-number.last in
    let entry = c.digits_of-entry.result in
    let below : c.is_below.result ≡ true = search rules in
    let less : slice_cmp nat_cmp last entry ≡ Less = less_is (slice_cmp nat_cmp last entry) (sym c.is_below.ensures ∙ below) in
    after_push c.loop-number.builder c.push.new.self last entry c.loop-number.invariant less c.in_ok-push.ensures.pushed
