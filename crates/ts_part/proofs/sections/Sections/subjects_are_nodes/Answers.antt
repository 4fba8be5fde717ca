use Rattle.std.proofs.Common.{◌<◌, ◌≤◌, ◌+◌, slice_index, length, sym, subst, arith}
use Rattle.std.proofs.lemmas.Bool.{both_ways}
use Rattle.ts_plane.proofs.RowSteps.{confirmed, each_more, refuted}
use Rattle.ts_part.specs.Views.{IsNodeNumber}
use Rattle.ts_part.proofs.ToldPlanes.{additions_within}
use Rattle.ts_part.proofs.UsedLemmas.{each_node, nodes_each, subject_within}
use Rattle.ts_part.proofs.sections.Sections.subjects_are_nodes.Goals as goal

pub loop-i-init : goal.loop-i-init
loop-i-init c = λ facts tells k h new. absurd (omega (arith, h))

pub may_be_subject-requires-clause-within : goal.may_be_subject-requires-clause-within
may_be_subject-requires-clause-within c =
    let h = c.args.self.now.header.now in
    let within : c.loop-i.i < length c.subjects-subjects.result = omega arith in
    subst (λ n. n ≤ h.terms_before + h.nodes + h.values) (sym c.get.ensures)
    (subject_within c.requires.0 c.subjects-subjects.result c.loop-i.i (h.terms_before + h.nodes + h.values) (h.predicates_before + h.predicates)
    (c.subjects-subjects.ensures c.requires.0 c.requires.1) within (additions_within c.args.self.now c.requires.0 c.requires.1))

pub returns-then-not-may_be_subject : goal.returns-then-not-may_be_subject
returns-then-not-may_be_subject c = λ facts tells.
    let within : c.loop-i.i < length c.subjects-subjects.result = omega arith in
    refuted (λ nodes. both_ways c.may_be_subject.result c.if-not-may_be_subject.true ((c.may_be_subject.ensures facts tells).1
    (λ new. subst (IsNodeNumber facts) (sym c.get.ensures)
    (each_node facts c.subjects-subjects.result c.loop-i.i (c.subjects-subjects.ensures facts tells) within nodes
    (subst (λ n. facts.terms_before < n) c.get.ensures new)))))

pub loop-i-preserved : goal.loop-i-preserved
loop-i-preserved c = λ facts tells.
    each_more (λ k. facts.terms_before < slice_index c.subjects-subjects.result k → IsNodeNumber facts (slice_index c.subjects-subjects.result k)) c.loop-i.i
    (c.loop-i.invariant facts tells)
    (λ new. subst (IsNodeNumber facts) c.get.ensures
    ((c.may_be_subject.ensures facts tells).0 c.if-not-may_be_subject.false (subst (λ n. facts.terms_before < n) (sym c.get.ensures) new)))

pub returns : goal.returns
returns c = λ facts tells.
    confirmed (nodes_each facts c.subjects-subjects.result (c.subjects-subjects.ensures facts tells)
    (λ k within new. c.loop-i.invariant facts tells k (omega (arith, within)) new))
