use Rattle.std.proofs.Common.{refl, inl, inr, ◌≡◌, ℕ, ◌+◌, ◌≤◌, List, All, length, drop, sym, ◌∙◌, ap, subst, arith}
use Rattle.std.proofs.lemmas.List.Elements.{All-drop, All-take}
use Rattle.std.proofs.lemmas.Result.{err_from_is_err_and}
use Rattle.ts_model.specs.declared.term.TermKind.TheVariants.{Node, Predicate, Value}
use Rattle.ts_plane.specs.Parts.{PlaneParts}
use Rattle.ts_plane.specs.Plane.{cut}
use Rattle.ts_part.specs.Faults.{IsPlaneFault, IsTermsFault}
use Rattle.ts_part.specs.Header.{section_count}
use Rattle.ts_part.specs.Layout.{of_kind, plane_from}
use Rattle.ts_part.specs.Sectioned.{sections_at}
use Rattle.ts_part.specs.Sections.{IsFirstFault, PlaneRule}
use Rattle.ts_part.proofs.CheckLemmas.{additions_fault, additions_step, all_kept, memory_error, nodes_fault, nodes_step, none_there, predicate_map_fault, predicates_fault, predicates_step, removals_fault, removals_step, some_there, start_kept, term_map_fault, term_map_step, values_fault, values_step}
use Rattle.ts_part.proofs.check.check_sections.Goals as goal

pub overflow_add-result : goal.overflow_add-result
overflow_add-result c =
    let h = c.args.s.now.header.now in
    let sections = sections_at c.args.s.now in
    let is = some_there (IsTermsFault Node h.nodes (of_kind sections 1) (of_kind sections 2)) c.in_ok-later.field-0 c.in-Some.later c.in-Some.is c.in_ok-later.ensures.some in
    omega (arith, is.one_of_two)

pub returns-in-Some-clause-fault : goal.returns-in-Some-clause-fault
returns-in-Some-clause-fault c =
    let h = c.args.s.now.header.now in
    let sections = sections_at c.args.s.now in
    let kept0 = start_kept h sections in
    nodes_fault h sections kept0.0 c.in-Some.later kept0.1 (some_there (IsTermsFault Node h.nodes (of_kind sections 1) (of_kind sections 2)) c.in_ok-later.field-0 c.in-Some.later c.in-Some.is c.in_ok-later.ensures.some)

pub overflow_add-result-in-Some-2 : goal.overflow_add-result-in-Some-2
overflow_add-result-in-Some-2 c =
    let h = c.args.s.now.header.now in
    let sections = sections_at c.args.s.now in
    let is = some_there (IsTermsFault Predicate h.predicates (of_kind sections 3) (of_kind sections 4)) c.in_ok-later-2.field-0 c.in-Some-2.later c.in-Some-2.is c.in_ok-later-2.ensures.some in
    omega (arith, is.one_of_two)

pub returns-in-Some-2-clause-fault : goal.returns-in-Some-2-clause-fault
returns-in-Some-2-clause-fault c =
    let h = c.args.s.now.header.now in
    let sections = sections_at c.args.s.now in
    let kept0 = start_kept h sections in
    let kept2 = nodes_step h sections kept0 (none_there c.in_ok-later.field-0 c.in-None.is c.in_ok-later.ensures.none) in
    predicates_fault h sections kept2.0 c.in-Some-2.later kept2.1 (some_there (IsTermsFault Predicate h.predicates (of_kind sections 3) (of_kind sections 4)) c.in_ok-later-2.field-0 c.in-Some-2.later c.in-Some-2.is c.in_ok-later-2.ensures.some)

pub overflow_add-result-in-Some-3 : goal.overflow_add-result-in-Some-3
overflow_add-result-in-Some-3 c =
    let h = c.args.s.now.header.now in
    let sections = sections_at c.args.s.now in
    let is = some_there (IsTermsFault Value h.values (of_kind sections 5) (of_kind sections 6)) c.in_ok-later-3.field-0 c.in-Some-3.later c.in-Some-3.is c.in_ok-later-3.ensures.some in
    omega (arith, is.one_of_two)

pub returns-in-Some-3-clause-fault : goal.returns-in-Some-3-clause-fault
returns-in-Some-3-clause-fault c =
    let h = c.args.s.now.header.now in
    let sections = sections_at c.args.s.now in
    let kept0 = start_kept h sections in
    let kept2 = nodes_step h sections kept0 (none_there c.in_ok-later.field-0 c.in-None.is c.in_ok-later.ensures.none) in
    let kept4 = predicates_step h sections kept2 (none_there c.in_ok-later-2.field-0 c.in-None-2.is c.in_ok-later-2.ensures.none) in
    values_fault h sections kept4.0 c.in-Some-3.later kept4.1 (some_there (IsTermsFault Value h.values (of_kind sections 5) (of_kind sections 6)) c.in_ok-later-3.field-0 c.in-Some-3.later c.in-Some-3.is c.in_ok-later-3.ensures.some)

pub overflow_add-result-in-Some-4 : goal.overflow_add-result-in-Some-4
overflow_add-result-in-Some-4 c =
    let h = c.args.s.now.header.now in
    let sections = sections_at c.args.s.now in
    let is = some_there (IsPlaneFault (h.terms_before + h.nodes + h.values) (h.predicates_before + h.predicates) h.additions (plane_from sections 7)) c.in_ok-later-4.field-0 c.in-Some-4.later c.in-Some-4.is c.in_ok-later-4.ensures.some in
    omega (arith, is.one_of_eight)

pub returns-in-Some-4-clause-fault : goal.returns-in-Some-4-clause-fault
returns-in-Some-4-clause-fault c =
    let h = c.args.s.now.header.now in
    let sections = sections_at c.args.s.now in
    let kept0 = start_kept h sections in
    let kept2 = nodes_step h sections kept0 (none_there c.in_ok-later.field-0 c.in-None.is c.in_ok-later.ensures.none) in
    let kept4 = predicates_step h sections kept2 (none_there c.in_ok-later-2.field-0 c.in-None-2.is c.in_ok-later-2.ensures.none) in
    let kept6 = values_step h sections kept4 (none_there c.in_ok-later-3.field-0 c.in-None-3.is c.in_ok-later-3.ensures.none) in
    additions_fault h sections kept6.0 c.in-Some-4.later kept6.1
    (some_there (IsPlaneFault (h.terms_before + h.nodes + h.values) (h.predicates_before + h.predicates) h.additions (plane_from sections 7)) c.in_ok-later-4.field-0 c.in-Some-4.later c.in-Some-4.is c.in_ok-later-4.ensures.some)

pub overflow_add-result-in-Some-5 : goal.overflow_add-result-in-Some-5
overflow_add-result-in-Some-5 c =
    let h = c.args.s.now.header.now in
    let sections = sections_at c.args.s.now in
    let is = some_there (IsPlaneFault h.terms_before h.predicates_before h.removals (plane_from sections 15)) c.in_ok-later-5.field-0 c.in-Some-5.later c.in-Some-5.is c.in_ok-later-5.ensures.some in
    omega (arith, is.one_of_eight)

pub returns-in-Some-5-clause-fault : goal.returns-in-Some-5-clause-fault
returns-in-Some-5-clause-fault c =
    let h = c.args.s.now.header.now in
    let sections = sections_at c.args.s.now in
    let kept0 = start_kept h sections in
    let kept2 = nodes_step h sections kept0 (none_there c.in_ok-later.field-0 c.in-None.is c.in_ok-later.ensures.none) in
    let kept4 = predicates_step h sections kept2 (none_there c.in_ok-later-2.field-0 c.in-None-2.is c.in_ok-later-2.ensures.none) in
    let kept6 = values_step h sections kept4 (none_there c.in_ok-later-3.field-0 c.in-None-3.is c.in_ok-later-3.ensures.none) in
    let kept14 = additions_step h sections kept6 (none_there c.in_ok-later-4.field-0 c.in-None-4.is c.in_ok-later-4.ensures.none) in
    removals_fault h sections kept14.0 c.in-Some-5.later kept14.1
    (some_there (IsPlaneFault h.terms_before h.predicates_before h.removals (plane_from sections 15)) c.in_ok-later-5.field-0 c.in-Some-5.later c.in-Some-5.is c.in_ok-later-5.ensures.some)

pub overflow_add-result-in-Some-fault_of_map : goal.overflow_add-result-in-Some-fault_of_map
overflow_add-result-in-Some-fault_of_map c = omega (arith, c.in-Some-fault_of_map.ensures.some.0)

pub returns-in-Some-fault_of_map-clause-fault : goal.returns-in-Some-fault_of_map-clause-fault
returns-in-Some-fault_of_map-clause-fault c =
    let h = c.args.s.now.header.now in
    let sections = sections_at c.args.s.now in
    let kept0 = start_kept h sections in
    let kept2 = nodes_step h sections kept0 (none_there c.in_ok-later.field-0 c.in-None.is c.in_ok-later.ensures.none) in
    let kept4 = predicates_step h sections kept2 (none_there c.in_ok-later-2.field-0 c.in-None-2.is c.in_ok-later-2.ensures.none) in
    let kept6 = values_step h sections kept4 (none_there c.in_ok-later-3.field-0 c.in-None-3.is c.in_ok-later-3.ensures.none) in
    let kept14 = additions_step h sections kept6 (none_there c.in_ok-later-4.field-0 c.in-None-4.is c.in_ok-later-4.ensures.none) in
    let kept22 = removals_step h sections kept14 (none_there c.in_ok-later-5.field-0 c.in-None-5.is c.in_ok-later-5.ensures.none) in
    let there : 23 ≡ 23 + c.in-Some-fault_of_map.later = omega (arith, c.in-Some-fault_of_map.ensures.some.0) in
    subst (IsFirstFault h sections) there (term_map_fault h sections kept22.0 c.in-Some-fault_of_map.ensures.some.1 kept22.1 c.in-Some-fault_of_map.ensures.some.2)

pub overflow_add-result-in-Some-fault_of_map-2 : goal.overflow_add-result-in-Some-fault_of_map-2
overflow_add-result-in-Some-fault_of_map-2 c = omega (arith, c.in-Some-fault_of_map-2.ensures.some.0)

pub returns-in-Some-fault_of_map-2-clause-fault : goal.returns-in-Some-fault_of_map-2-clause-fault
returns-in-Some-fault_of_map-2-clause-fault c =
    let h = c.args.s.now.header.now in
    let sections = sections_at c.args.s.now in
    let kept0 = start_kept h sections in
    let kept2 = nodes_step h sections kept0 (none_there c.in_ok-later.field-0 c.in-None.is c.in_ok-later.ensures.none) in
    let kept4 = predicates_step h sections kept2 (none_there c.in_ok-later-2.field-0 c.in-None-2.is c.in_ok-later-2.ensures.none) in
    let kept6 = values_step h sections kept4 (none_there c.in_ok-later-3.field-0 c.in-None-3.is c.in_ok-later-3.ensures.none) in
    let kept14 = additions_step h sections kept6 (none_there c.in_ok-later-4.field-0 c.in-None-4.is c.in_ok-later-4.ensures.none) in
    let kept22 = removals_step h sections kept14 (none_there c.in_ok-later-5.field-0 c.in-None-5.is c.in_ok-later-5.ensures.none) in
    let kept23 = term_map_step h sections kept22 (c.in-None-fault_of_map.ensures.none c.in-Some-fault_of_map-2.ensures.some.1) in
    let there : 24 ≡ 24 + c.in-Some-fault_of_map-2.later = omega (arith, c.in-Some-fault_of_map-2.ensures.some.0) in
    subst (IsFirstFault h sections) there (predicate_map_fault h sections kept23.0 c.in-Some-fault_of_map-2.ensures.some.1 kept23.1 c.in-Some-fault_of_map-2.ensures.some.2)

pub returns-clause-keep : goal.returns-clause-keep
returns-clause-keep c =
    let h = c.args.s.now.header.now in
    let sections = sections_at c.args.s.now in
    let kept0 = start_kept h sections in
    let kept2 = nodes_step h sections kept0 (none_there c.in_ok-later.field-0 c.in-None.is c.in_ok-later.ensures.none) in
    let kept4 = predicates_step h sections kept2 (none_there c.in_ok-later-2.field-0 c.in-None-2.is c.in_ok-later-2.ensures.none) in
    let kept6 = values_step h sections kept4 (none_there c.in_ok-later-3.field-0 c.in-None-3.is c.in_ok-later-3.ensures.none) in
    let kept14 = additions_step h sections kept6 (none_there c.in_ok-later-4.field-0 c.in-None-4.is c.in_ok-later-4.ensures.none) in
    let kept22 = removals_step h sections kept14 (none_there c.in_ok-later-5.field-0 c.in-None-5.is c.in_ok-later-5.ensures.none) in
    all_kept h sections kept22.0 kept22.1 c.in-None-fault_of_map.ensures.none c.in-None-fault_of_map-2.ensures.none

pub returns-in_err-later-clause-fault : goal.returns-in_err-later-clause-fault
returns-in_err-later-clause-fault c =
    let h = c.args.s.now.header.now in
    let sections = sections_at c.args.s.now in
    let kept0 = start_kept h sections in
    let p = err_from_is_err_and c.from_residual.result c.from_residual.ensures.1 in
    rw (p.1, p.2) (memory_error h sections _ c.in_err-later.ensures.memory.0 (record { first = 1; read = kept0.0; before = kept0.1; needs = inl (refl, c.in_err-later.ensures.memory.1) }))

pub returns-in_err-later-2-clause-fault : goal.returns-in_err-later-2-clause-fault
returns-in_err-later-2-clause-fault c =
    let h = c.args.s.now.header.now in
    let sections = sections_at c.args.s.now in
    let kept0 = start_kept h sections in
    let kept2 = nodes_step h sections kept0 (none_there c.in_ok-later.field-0 c.in-None.is c.in_ok-later.ensures.none) in
    let p = err_from_is_err_and c.from_residual-in_err-later-2.result c.from_residual-in_err-later-2.ensures.1 in
    rw (p.1, p.2) (memory_error h sections _ c.in_err-later-2.ensures.memory.0 (record { first = 3; read = kept2.0; before = kept2.1; needs = inr (inl (refl, c.in_err-later-2.ensures.memory.1)) }))

pub returns-in_err-later-3-clause-fault : goal.returns-in_err-later-3-clause-fault
returns-in_err-later-3-clause-fault c =
    let h = c.args.s.now.header.now in
    let sections = sections_at c.args.s.now in
    let kept0 = start_kept h sections in
    let kept2 = nodes_step h sections kept0 (none_there c.in_ok-later.field-0 c.in-None.is c.in_ok-later.ensures.none) in
    let kept4 = predicates_step h sections kept2 (none_there c.in_ok-later-2.field-0 c.in-None-2.is c.in_ok-later-2.ensures.none) in
    let p = err_from_is_err_and c.from_residual-in_err-later-3.result c.from_residual-in_err-later-3.ensures.1 in
    rw (p.1, p.2) (memory_error h sections _ c.in_err-later-3.ensures.memory.0 (record { first = 5; read = kept4.0; before = kept4.1; needs = inr (inr (inl (refl, c.in_err-later-3.ensures.memory.1))) }))

pub returns-in_err-later-4-clause-fault : goal.returns-in_err-later-4-clause-fault
returns-in_err-later-4-clause-fault c =
    let h = c.args.s.now.header.now in
    let sections = sections_at c.args.s.now in
    let kept0 = start_kept h sections in
    let kept2 = nodes_step h sections kept0 (none_there c.in_ok-later.field-0 c.in-None.is c.in_ok-later.ensures.none) in
    let kept4 = predicates_step h sections kept2 (none_there c.in_ok-later-2.field-0 c.in-None-2.is c.in_ok-later-2.ensures.none) in
    let kept6 = values_step h sections kept4 (none_there c.in_ok-later-3.field-0 c.in-None-3.is c.in_ok-later-3.ensures.none) in
    let p = err_from_is_err_and c.from_residual-in_err-later-4.result c.from_residual-in_err-later-4.ensures.1 in
    rw (p.1, p.2) (memory_error h sections _ c.in_err-later-4.ensures.memory.0 (record { first = 7; read = kept6.0; before = kept6.1; needs = inr (inr (inr (inl (refl, c.in_err-later-4.ensures.memory.1, c.in_err-later-4.ensures.memory.2)))) }))

pub returns-in_err-later-5-clause-fault : goal.returns-in_err-later-5-clause-fault
returns-in_err-later-5-clause-fault c =
    let h = c.args.s.now.header.now in
    let sections = sections_at c.args.s.now in
    let kept0 = start_kept h sections in
    let kept2 = nodes_step h sections kept0 (none_there c.in_ok-later.field-0 c.in-None.is c.in_ok-later.ensures.none) in
    let kept4 = predicates_step h sections kept2 (none_there c.in_ok-later-2.field-0 c.in-None-2.is c.in_ok-later-2.ensures.none) in
    let kept6 = values_step h sections kept4 (none_there c.in_ok-later-3.field-0 c.in-None-3.is c.in_ok-later-3.ensures.none) in
    let kept14 = additions_step h sections kept6 (none_there c.in_ok-later-4.field-0 c.in-None-4.is c.in_ok-later-4.ensures.none) in
    let p = err_from_is_err_and c.from_residual-in_err-later-5.result c.from_residual-in_err-later-5.ensures.1 in
    rw (p.1, p.2) (memory_error h sections _ c.in_err-later-5.ensures.memory.0 (record { first = 15; read = kept14.0; before = kept14.1; needs = inr (inr (inr (inr ((refl, c.in_err-later-5.ensures.memory.1, c.in_err-later-5.ensures.memory.2))))) }))
