use Rattle.std.proofs.Common.{◌≡◌, ℕ, ◌+◌, suc, List, length, get_or, set, Ok, Err, ap, ◌∙◌, subst, arith, nat_cmp}
use Rattle.std.specs.List.Sorted.{IsBinarySearchResult}
use Rattle.std.proofs.lemmas.List.{length-set}
use Rattle.ts_squash.proofs.Places.{distinct_order, found_at, found_none, one_absent, one_found}
use Rattle.ts_squash.proofs.renumber.Renumbered.of.Goals.{in-Ok, in_default}
use Rattle.ts_squash.proofs.renumber.Renumbered.of.Goals as goal

pub loop-i-preserved : goal.loop-i-preserved
loop-i-preserved c =
    let old : List ℕ = c.args.old.items in
    let order : List ℕ = c.args.order.now in
    let new : List ℕ = c.loop-i.new.items in
    let i : ℕ = c.loop-i.i in
    let apart = distinct_order old order c.requires.rise c.requires.same in
    let next : i + 1 ≡ suc i = omega arith in
    elim c.match-binary_search.branch [
      | in-Ok w ↦
          let items : c.match-binary_search.new.items ≡ set new w.in-Ok.place (i + 1) = ap (λ v. v.items) w.new-is in
          let there : IsBinarySearchResult (λ y. nat_cmp y (get_or order i 0)) old (Ok w.in-Ok.place) =
          subst (λ xs. IsBinarySearchResult (λ y. nat_cmp y (get_or order i 0)) xs (Ok w.in-Ok.place)) c.deref.ensures.value w.in-Ok.ensures.position in
          let at = found_at old (get_or order i 0) w.in-Ok.place c.requires.rise there in
          record {
            counted = ap length items ∙ length-set new w.in-Ok.place (i + 1) ∙ c.loop-i.invariant.counted;
            so_far = λ q within. ap (λ xs. get_or xs q 0) items
                ∙ one_found old new order i (i + 1) next c.loop-i-test.true apart c.loop-i.invariant.so_far w.in-Ok.place at.0 at.1 c.loop-i.invariant.counted c.requires.rise q within;
          }
      | in_default w ↦
          let items : c.match-binary_search.new.items ≡ new = ap (λ v. v.items) w.new-is in
          let there : IsBinarySearchResult (λ y. nat_cmp y (get_or order i 0)) old (Err w.in_default.field-0) =
          subst (λ xs. IsBinarySearchResult (λ y. nat_cmp y (get_or order i 0)) xs (Err w.in_default.field-0)) c.deref.ensures.value w.in_default.ensures.position in
          record {
            counted = ap length items ∙ c.loop-i.invariant.counted;
            so_far = λ q within. ap (λ xs. get_or xs q 0) items
                ∙ one_absent old new order i (i + 1) next c.loop-i-test.true apart c.loop-i.invariant.so_far
                (λ q within. found_none old (get_or order i 0) w.in_default.field-0 q c.requires.rise there within) q within;
          }
    ]
