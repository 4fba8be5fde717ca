use Rattle.std.proofs.Common.{◌≡◌, ℕ, ◌-◌, ◌≤◌, List, length, refl, sym, ◌∙◌, subst, arith}
use Rattle.std.specs.List.Sorted.{IsPermutation}
use Rattle.ts_builder.specs.Ranks.{placed}
use Rattle.ts_builder.proofs.HeadLemmas.{Occurrence, part_moves, same_many, sort_moves}
use Rattle.ts_builder.proofs.heads.+arrange_from.Goals as goal
use borrow.Rule.Slice.PartMut.{mid_of, put_mid}

pub loop-start-init : goal.loop-start-init
loop-start-init t c =
    let sorted = c.sort_unstable_by.new.self in
    record {
      moved = subst (λ before. IsPermutation before (placed sorted)) c.set_heads.ensures (sort_moves c.set_heads.new.part sorted c.sort_unstable_by.ensures.permutation);
      many = refl;
      within = omega arith;
    }

abbrev Kept : List Occurrence → List Occurrence → List Occurrence → ℕ → Type 0
Kept given sorted part end = record { moved : IsPermutation (placed given) (placed part); many : length part ≡ length sorted; within : end ≤ length part }

-- what the loop keeps, where the run is put in order
run_moves : (given sorted part run : List Occurrence) (start end : ℕ) → IsPermutation (placed given) (placed part) → length part ≡ length sorted → end ≤ length part
    → IsPermutation (placed (mid_of start (end - start) part)) (placed run) → Kept given sorted (put_mid start (end - start) part run) end
run_moves given sorted part run start end before many within moved =
    let after = put_mid start (end - start) part run in
    let all = part_moves given part run start (end - start) before moved in
    let same : length after ≡ length part = same_many given after all ∙ sym (same_many given part before) in
    record { moved = all; many = same ∙ many; within = subst (λ n. end ≤ n) (sym same) within }

pub loop-start-preserved-then-run-le-FEW : goal.loop-start-preserved-then-run-le-FEW
loop-start-preserved-then-run-le-FEW t c =
    let before = c.loop-start.invariant in
    run_moves c.args.part.now c.sort_unstable_by.new.self c.loop-start.part c.sort_few.new.run c.loop-start.start c.end_of_run-end.result before.moved before.many c.end_of_run-end.ensures.within c.sort_few.ensures

pub loop-start-preserved-then-goes_on : goal.loop-start-preserved-then-goes_on
loop-start-preserved-then-goes_on t c =
    let before = c.loop-start.invariant in
    run_moves c.args.part.now c.sort_unstable_by.new.self c.loop-start.part c.arrange_from.new.part c.loop-start.start c.end_of_run-end.result before.moved before.many c.end_of_run-end.ensures.within c.arrange_from.ensures
