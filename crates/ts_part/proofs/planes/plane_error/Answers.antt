use Rattle.std.proofs.Common.{◌≡◌, length, sym, ◌∙◌, subst, arith}
use Rattle.ts_bits.specs.BitArray.{BitsSay}
use Rattle.ts_plane.specs.Parts.{parts_of}
use Rattle.ts_plane.specs.Plane.{cut}
use Rattle.ts_plane.specs.Rules.{IsFirstFault}
use Rattle.ts_plane.specs.Unmarked.{IsOpenError, IsUnmarked}
use Rattle.ts_plane.proofs.SectionFaults.{section_at}
use Rattle.ts_part.proofs.PlaneFaults.{length-object_ends, plane_kept, wrong_count}
use Rattle.ts_part.proofs.planes.plane_error.Goals as goal

pub returns-then-len-count-clause-none : goal.returns-then-len-count-clause-none
returns-then-len-count-clause-none c = (
  parts_of c.in-Ok.triples,
  plane_kept (cut c.args.file.now c.args.places.now) c.args.terms c.args.predicates c.args.count c.in-Ok.triples c.in-Ok.ensures.keep
      (sym c.len.ensures ∙ c.if-len-count.true),
)

pub returns-else-len-count-clause-some : goal.returns-else-len-count-clause-some
returns-else-len-count-clause-some c =
    wrong_count (cut c.args.file.now c.args.places.now) c.args.terms c.args.predicates c.args.count 8 (parts_of c.in-Ok.triples) (omega arith) c.in-Ok.ensures.keep
    (λ e. c.if-len-count.false (c.len.ensures ∙ sym (length-object_ends c.in-Ok.triples) ∙ e))

pub returns-then-ends_in-count-clause-some : goal.returns-then-ends_in-count-clause-some
returns-then-ends_in-count-clause-some c =
    let sections = cut c.args.file.now c.args.places.now in
    let first : IsFirstFault (cut c.args.file.now c.args.places.now) c.args.terms c.args.predicates c.in-Err-Fault.fault =
    subst (IsOpenError (cut c.args.file.now c.args.places.now) c.args.terms c.args.predicates) c.in-Err-Fault.field-0-is c.in-Err-Fault.ensures.fault in
    let at3 = section_at c.args.file.now c.args.places.now 3 (0, 0) (omega (arith, c.told-places)) in
    let count_is : c.ends_in.result ≡ length first.parts.object_ends =
    c.ends_in.ensures first.parts.object_ends (subst (λ b. BitsSay b first.parts.object_ends) at3 (first.before.object_ends c.if-fault-gt3.true).says) in
    wrong_count sections c.args.terms c.args.predicates c.args.count c.in-Err-Fault.fault first.parts c.if-fault-gt3.true first.before
    (λ e. c.if-ends_in-count.true (count_is ∙ e))

pub returns-else-ends_in-count-2-clause-some : goal.returns-else-ends_in-count-2-clause-some
returns-else-ends_in-count-2-clause-some c =
    let sections = cut c.args.file.now c.args.places.now in
    let unmarked : IsUnmarked (cut c.args.file.now c.args.places.now) c.args.terms c.args.predicates c.in-Err-Unmarked.later =
    subst (IsOpenError (cut c.args.file.now c.args.places.now) c.args.terms c.args.predicates) c.in-Err-Unmarked.field-0-is c.in-Err-Unmarked.ensures.fault in
    let at3 = section_at c.args.file.now c.args.places.now 3 (0, 0) (omega (arith, c.told-places)) in
    let count_is : c.ends_in-in-Err-Unmarked.result ≡ length unmarked.parts.object_ends =
    c.ends_in-in-Err-Unmarked.ensures unmarked.parts.object_ends (subst (λ b. BitsSay b unmarked.parts.object_ends) at3 (unmarked.before.object_ends (omega arith)).says) in
    wrong_count sections c.args.terms c.args.predicates c.args.count 5 unmarked.parts (omega arith) unmarked.before
    (λ e. c.if-ends_in-count-2.false (count_is ∙ e))

pub returns-then-ends_in-count-2-clause-some : goal.returns-then-ends_in-count-2-clause-some
returns-then-ends_in-count-2-clause-some c =
    let unmarked : IsUnmarked (cut c.args.file.now c.args.places.now) c.args.terms c.args.predicates c.in-Err-Unmarked.later =
    subst (IsOpenError (cut c.args.file.now c.args.places.now) c.args.terms c.args.predicates) c.in-Err-Unmarked.field-0-is c.in-Err-Unmarked.ensures.fault in
    let at3 = section_at c.args.file.now c.args.places.now 3 (0, 0) (omega (arith, c.told-places)) in
    let count_is : c.ends_in-in-Err-Unmarked.result ≡ length unmarked.parts.object_ends =
    c.ends_in-in-Err-Unmarked.ensures unmarked.parts.object_ends (subst (λ b. BitsSay b unmarked.parts.object_ends) at3 (unmarked.before.object_ends (omega arith)).says) in
    record { unmarked = unmarked; counted = sym count_is ∙ c.if-ends_in-count-2.true }
