use Rattle.std.proofs.Common.{IsTrue, false, ◌∙◌}
use Rattle.std.proofs.lemmas.Bool.{false≢true}
use Rattle.ts_part.proofs.TermFaults.{no_dictionary, other_dictionary}
use Rattle.ts_part.proofs.terms.terms_fault.Goals as goal

pub returns-in_default-clause-some : goal.returns-in_default-clause-some
returns-in_default-clause-some c =
    no_dictionary c.args.kind c.args.count c.args.starts.now c.args.bytes.now c.starts_fault.result c.starts_fault.ensures.one_of_two
    c.starts_fault.ensures.first c.starts_fault.ensures.second c.in_default.ensures.none

pub returns-then-len-count-clause-some : goal.returns-then-len-count-clause-some
returns-then-len-count-clause-some c =
    other_dictionary c.args.kind c.args.count c.args.starts.now c.args.bytes.now c.in-Some.texts c.in-Some.ensures.some c.in-Some.ensures.only
    (λ e all. c.if-len-count.true (c.len.ensures ∙ e))

pub returns-else-branch-clause-some : goal.returns-else-branch-clause-some
returns-else-branch-clause-some c =
    other_dictionary c.args.kind c.args.count c.args.starts.now c.args.bytes.now c.in-Some.texts c.in-Some.ensures.some c.in-Some.ensures.only
    (λ e all. (let found : IsTrue c.in_ok-are_terms.field-0 = c.in_ok-are_terms.ensures.terms.1 all in let wrong : IsTrue false = cc in false≢true wrong))
