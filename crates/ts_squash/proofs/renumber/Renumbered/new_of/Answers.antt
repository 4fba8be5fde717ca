use Rattle.std.proofs.Common.{length, Err, subst, ap, arith, nat_cmp}
use Rattle.std.specs.List.Sorted.{IsBinarySearchResult}
use Rattle.ts_squash.proofs.Places.{new_absent}
use Rattle.ts_squash.proofs.renumber.Renumbered.new_of.Goals as goal

pub index-requires : goal.index-requires
index-requires c =
    let as_many = c.requires in
    let same = ap length c.deref.ensures.value in
    let within = c.in-Ok.ensures.bound in
    omega arith

pub returns-in-Err : goal.returns-in-Err
returns-in-Err c = λ order are.
    new_absent c.args.self.now.old.items order c.args.id c.in-Err.field-0 are.rise are.same
    (subst (λ xs. IsBinarySearchResult (λ y. nat_cmp y c.args.id) xs (Err c.in-Err.field-0)) c.deref.ensures.value c.in-Err.ensures.position)
