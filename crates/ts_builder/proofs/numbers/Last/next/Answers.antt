use Rattle.std.proofs.Common.{◌<◌, arith, subst}
use Rattle.ts_builder.specs.Counting.{count_of}
use Rattle.ts_builder.proofs.numbers.Last.next.Goals as goal

pub overflow_add-self : goal.overflow_add-self
overflow_add-self c = let small : c.args.self.now.node < 18446744073709551615 = subst (λ kind. count_of kind c.args.self.now < 18446744073709551615) c.in-Node.is c.requires in omega arith

pub overflow_add-self-in-Predicate : goal.overflow_add-self-in-Predicate
overflow_add-self-in-Predicate c =
    let small : c.args.self.now.predicate < 18446744073709551615 = subst (λ kind. count_of kind c.args.self.now < 18446744073709551615) c.in-Predicate.is c.requires in omega arith

pub overflow_add-self-in-Value : goal.overflow_add-self-in-Value
overflow_add-self-in-Value c = let small : c.args.self.now.value < 18446744073709551615 = subst (λ kind. count_of kind c.args.self.now < 18446744073709551615) c.in-Value.is c.requires in omega arith
