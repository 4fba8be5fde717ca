use Rattle.std.proofs.Common.{◌≡◌, ◌≢◌, ◌+◌, ◌^◌, ◌≤◌, length, take, drop, sym, ◌∙◌, ap, arith, length-drop}
use Rattle.std.specs.Cmp.Lexicographic.{slice_cmp}
use Rattle.std.specs.Ordering.{nat_cmp}
use Rattle.std.proofs.lemmas.List.{drop-drop}
use Rattle.ts_log.specs.Groups.{joined}
use Rattle.ts_log.proofs.GroupsLemmas.{Below-drop}
use Rattle.ts_log.proofs.ElementLemmas.{Below_bytes}
use Rattle.ts_front.proofs.WordOrderLemmas.{words_apart, words_same}
use Rattle.ts_front.proofs.order.order_of.Goals as goal

pub returns-then-word-other : goal.returns-then-word-other
returns-then-word-other c =
    let at = c.loop-at.at in
    let a = c.args.a.now in
    let b = c.args.b.now in
    let long : 8 ≤ length (drop at a) = omega (arith, length-drop at a) in
    let far : 8 ≤ length (drop at b) = omega (arith, length-drop at b) in
    let other : joined 8 (take 8 (drop at a)) ≢ joined 8 (take 8 (drop at b)) =
    λ same. c.if-word-other.true (c.word_at-word.ensures ∙ same ∙ sym c.word_at-other.ensures) in
    c.cmp.ensures
    ∙ ap (λ n. nat_cmp n c.word_at-other.result) c.word_at-word.ensures
    ∙ ap (nat_cmp (joined 8 (take 8 (drop at a)))) c.word_at-other.ensures
    ∙ words_apart (drop at a) (drop at b) (Below-drop (2 ^ 8) at a (Below_bytes a c.type_inv.a)) (Below-drop (2 ^ 8) at b (Below_bytes b c.type_inv.b)) long far other
    ∙ sym c.loop-at.invariant.same

pub loop-at-preserved : goal.loop-at-preserved
loop-at-preserved c =
    let at = c.loop-at.at in
    let a = c.args.a.now in
    let b = c.args.b.now in
    let long : 8 ≤ length (drop at a) = omega (arith, length-drop at a) in
    let far : 8 ≤ length (drop at b) = omega (arith, length-drop at b) in
    let same : joined 8 (take 8 (drop at a)) ≡ joined 8 (take 8 (drop at b)) =
    sym c.word_at-word.ensures ∙ c.if-word-other.false ∙ c.word_at-other.ensures in
    record {
      within = omega arith;
      there = omega arith;
      same = c.loop-at.invariant.same
          ∙ words_same (drop at a) (drop at b) (Below-drop (2 ^ 8) at a (Below_bytes a c.type_inv.a)) (Below-drop (2 ^ 8) at b (Below_bytes b c.type_inv.b)) long far same
          ∙ ap (λ l. slice_cmp nat_cmp l (drop 8 (drop at b))) (drop-drop 8 at a)
          ∙ ap (slice_cmp nat_cmp (drop (at + 8) a)) (drop-drop 8 at b);
    }
