use Rattle.std.proofs.Common.{ℕ, subst}
use Rattle.std.proofs.lemmas.Bool.{both_ways}
use Rattle.ts_part.specs.Places.{ArePlaces}
use Rattle.ts_part.proofs.KeptFacts.{facts_of, kept_facts}
use Rattle.ts_part.proofs.LoadLemmas.{facts_fault, keeps_of}
use Rattle.ts_part.proofs.part.check_file.Goals as goal

pub keep_together-requires : goal.keep_together-requires
keep_together-requires c =
    let file = c.args.file.now in
    let h = c.args.header.now in
    let keep = c.in-Ok.ensures.keep in
    let placed = subst (λ (n : ℕ). ArePlaces file n c.in-Some.places) c.sections.ensures c.in-Some.ensures.places in
    (facts_of h keep.0, kept_facts file c.in-Some.places h _ keep.0 (c.has_header.ensures.0 c.if-not-has_header.false) placed placed.lie keep.1)

pub returns-then-not-keep_together-clause-fault : goal.returns-then-not-keep_together-clause-fault
returns-then-not-keep_together-clause-fault c =
    let file = c.args.file.now in
    let h = c.args.header.now in
    let keep = c.in-Ok.ensures.keep in
    let placed = subst (λ (n : ℕ). ArePlaces file n c.in-Some.places) c.sections.ensures c.in-Some.ensures.places in
    let tells = kept_facts file c.in-Some.places h _ keep.0 (c.has_header.ensures.0 c.if-not-has_header.false) placed placed.lie keep.1 in
    facts_fault file c.in-Some.places h (facts_of h keep.0) tells
    (λ rules. both_ways c.keep_together.result c.if-not-keep_together.true ((c.keep_together.ensures (facts_of h keep.0) tells).1 rules))

pub returns-clause-keeps : goal.returns-clause-keeps
returns-clause-keeps c =
    let file = c.args.file.now in
    let h = c.args.header.now in
    let keep = c.in-Ok.ensures.keep in
    let placed = subst (λ (n : ℕ). ArePlaces file n c.in-Some.places) c.sections.ensures c.in-Some.ensures.places in
    let tells = kept_facts file c.in-Some.places h _ keep.0 (c.has_header.ensures.0 c.if-not-has_header.false) placed placed.lie keep.1 in
    keeps_of file c.in-Some.places h (facts_of h keep.0) tells ((c.keep_together.ensures (facts_of h keep.0) tells).0 c.if-not-keep_together.false)
