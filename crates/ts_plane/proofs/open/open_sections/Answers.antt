use Rattle.std.proofs.Common.{◌≡◌, [], length, sym, ◌∙◌, ap, subst, arith}
use Rattle.std.proofs.lemmas.Result.{err_from_is_err_and}
use Rattle.ts_adjacency.specs.Rows.{IsClosed}
use Rattle.ts_bits.specs.BitArray.{BitsSay}
use Rattle.ts_bits.specs.Rank.{ones}
use Rattle.ts_log.specs.LogArray.{LogSays}
use Rattle.ts_wavelet.specs.WaveletTree.{WaveletSays}
use Rattle.ts_plane.specs.Objects.{IsObjectsError, KeepsObjects, with_objects}
use Rattle.ts_plane.specs.Parts.{PlaneParts}
use Rattle.ts_plane.specs.Plane.{cut}
use Rattle.ts_plane.specs.Rules.{section, IsBounded, RisesInRows}
use Rattle.ts_plane.proofs.FirstFaults.{KeepsFront}
use Rattle.ts_plane.proofs.Hints.{none_at}
use Rattle.ts_plane.proofs.SectionFaults.{section_at, subjects_fault, pair_ends_fault, pair_predicates_fault, object_ends_fault, pair_objects_fault, objects_error, all_keep}
use Rattle.ts_plane.proofs.open.open_sections.Goals as goal

pub returns-in_default-clause-fault : goal.returns-in_default-clause-fault
returns-in_default-clause-fault c =
    let at0 = section_at c.args.file.now c.args.places.now 0 _ (omega (arith, c.told-places)) ∙ sym c.bytes_at.ensures in
    let parts : PlaneParts = record { subjects = []; pair_ends = []; pair_predicates = []; object_ends = []; pair_objects = []; objects = []; object_pair_ends = []; object_pairs = [] } in
    let front : KeepsFront (cut c.args.file.now c.args.places.now) c.args.terms c.args.predicates parts 0 = record {
      subjects = λ h. absurd (omega arith);
      pair_ends = λ h. absurd (omega arith);
      pair_predicates = λ h. absurd (omega arith);
      object_ends = λ h. absurd (omega arith);
      pair_objects = λ h. absurd (omega arith);
    } in
    subjects_fault (cut c.args.file.now c.args.places.now) c.args.terms c.args.predicates parts front (λ xs says. none_at c.open_subjects.result c.in_default.not-Some c.open_subjects.ensures.none xs (subst (λ b. LogSays b xs) at0 says))

pub returns-in_default-open_ends-clause-fault : goal.returns-in_default-open_ends-clause-fault
returns-in_default-open_ends-clause-fault c =
    let at0 = section_at c.args.file.now c.args.places.now 0 _ (omega (arith, c.told-places)) ∙ sym c.bytes_at.ensures in
    let at1 = section_at c.args.file.now c.args.places.now 1 _ (omega (arith, c.told-places)) ∙ sym c.bytes_at-2.ensures in
    let parts : PlaneParts = record { subjects = c.in-Some.subjects; pair_ends = []; pair_predicates = []; object_ends = []; pair_objects = []; objects = []; object_pair_ends = []; object_pairs = [] } in
    let front : KeepsFront (cut c.args.file.now c.args.places.now) c.args.terms c.args.predicates parts 1 = record {
      subjects = λ h. record { says = subst (λ b. LogSays b c.in-Some.subjects) (sym at0) c.in-Some.ensures.says; rising = c.in-Some.ensures.rising; bounded = c.in-Some.ensures.bounded };
      pair_ends = λ h. absurd (omega arith);
      pair_predicates = λ h. absurd (omega arith);
      object_ends = λ h. absurd (omega arith);
      pair_objects = λ h. absurd (omega arith);
    } in
    pair_ends_fault (cut c.args.file.now c.args.places.now) c.args.terms c.args.predicates parts front (λ xs says counted. none_at c.open_ends.result c.in_default-open_ends.not-Some c.open_ends.ensures.none xs (subst (λ b. BitsSay b xs) at1 says) (counted ∙ sym c.len.ensures))

pub returns-in_default-open_predicates-clause-fault : goal.returns-in_default-open_predicates-clause-fault
returns-in_default-open_predicates-clause-fault c =
    let at0 = section_at c.args.file.now c.args.places.now 0 _ (omega (arith, c.told-places)) ∙ sym c.bytes_at.ensures in
    let at1 = section_at c.args.file.now c.args.places.now 1 _ (omega (arith, c.told-places)) ∙ sym c.bytes_at-2.ensures in
    let at2 = section_at c.args.file.now c.args.places.now 2 _ (omega (arith, c.told-places)) ∙ sym c.bytes_at-3.ensures in
    let parts : PlaneParts = record { subjects = c.in-Some.subjects; pair_ends = c.of_checked-pairs.result; pair_predicates = []; object_ends = []; pair_objects = []; objects = []; object_pair_ends = []; object_pairs = [] } in
    let front : KeepsFront (cut c.args.file.now c.args.places.now) c.args.terms c.args.predicates parts 2 = record {
      subjects = λ h. record { says = subst (λ b. LogSays b c.in-Some.subjects) (sym at0) c.in-Some.ensures.says; rising = c.in-Some.ensures.rising; bounded = c.in-Some.ensures.bounded };
      pair_ends = λ h. record { says = subst (BitsSay (section (cut c.args.file.now c.args.places.now) 1)) (sym c.of_checked-pairs.ensures) (subst (λ b. BitsSay b c.in-Some-open_ends.pair_ends) (sym at1) c.in-Some-open_ends.ensures.says); counted = ap ones c.of_checked-pairs.ensures ∙ c.in-Some-open_ends.ensures.counted ∙ c.len.ensures; closed = subst IsClosed (sym c.of_checked-pairs.ensures) c.in-Some-open_ends.ensures.closed };
      pair_predicates = λ h. absurd (omega arith);
      object_ends = λ h. absurd (omega arith);
      pair_objects = λ h. absurd (omega arith);
    } in
    pair_predicates_fault (cut c.args.file.now c.args.places.now) c.args.terms c.args.predicates parts front (λ xs says. none_at c.open_predicates.result c.in_default-open_predicates.not-Some c.open_predicates.ensures.none xs (subst (λ b. WaveletSays b xs) at2 says))

pub returns-in_default-open_ends-2-clause-fault : goal.returns-in_default-open_ends-2-clause-fault
returns-in_default-open_ends-2-clause-fault c =
    let at0 = section_at c.args.file.now c.args.places.now 0 _ (omega (arith, c.told-places)) ∙ sym c.bytes_at.ensures in
    let at1 = section_at c.args.file.now c.args.places.now 1 _ (omega (arith, c.told-places)) ∙ sym c.bytes_at-2.ensures in
    let at2 = section_at c.args.file.now c.args.places.now 2 _ (omega (arith, c.told-places)) ∙ sym c.bytes_at-3.ensures in
    let at3 = section_at c.args.file.now c.args.places.now 3 _ (omega (arith, c.told-places)) ∙ sym c.bytes_at-4.ensures in
    let parts : PlaneParts = record { subjects = c.in-Some.subjects; pair_ends = c.of_checked-pairs.result; pair_predicates = c.in-Some-open_predicates.symbols; object_ends = []; pair_objects = []; objects = []; object_pair_ends = []; object_pairs = [] } in
    let front : KeepsFront (cut c.args.file.now c.args.places.now) c.args.terms c.args.predicates parts 3 = record {
      subjects = λ h. record { says = subst (λ b. LogSays b c.in-Some.subjects) (sym at0) c.in-Some.ensures.says; rising = c.in-Some.ensures.rising; bounded = c.in-Some.ensures.bounded };
      pair_ends = λ h. record { says = subst (BitsSay (section (cut c.args.file.now c.args.places.now) 1)) (sym c.of_checked-pairs.ensures) (subst (λ b. BitsSay b c.in-Some-open_ends.pair_ends) (sym at1) c.in-Some-open_ends.ensures.says); counted = ap ones c.of_checked-pairs.ensures ∙ c.in-Some-open_ends.ensures.counted ∙ c.len.ensures; closed = subst IsClosed (sym c.of_checked-pairs.ensures) c.in-Some-open_ends.ensures.closed };
      pair_predicates = λ h. record { says = subst (λ b. WaveletSays b c.in-Some-open_predicates.symbols) (sym at2) c.in-Some-open_predicates.ensures.says; counted = c.in-Some-open_predicates.ensures.counted; rising = c.in-Some-open_predicates.ensures.rising; bounded = c.in-Some-open_predicates.ensures.bounded };
      object_ends = λ h. absurd (omega arith);
      pair_objects = λ h. absurd (omega arith);
    } in
    object_ends_fault (cut c.args.file.now c.args.places.now) c.args.terms c.args.predicates parts front (λ xs says counted. none_at c.open_ends-2.result c.in_default-open_ends-2.not-Some c.open_ends-2.ensures.none xs (subst (λ b. BitsSay b xs) at3 says) (counted ∙ sym c.len-2.ensures.counted))

pub returns-in_default-open_pair_objects-clause-fault : goal.returns-in_default-open_pair_objects-clause-fault
returns-in_default-open_pair_objects-clause-fault c =
    let at0 = section_at c.args.file.now c.args.places.now 0 _ (omega (arith, c.told-places)) ∙ sym c.bytes_at.ensures in
    let at1 = section_at c.args.file.now c.args.places.now 1 _ (omega (arith, c.told-places)) ∙ sym c.bytes_at-2.ensures in
    let at2 = section_at c.args.file.now c.args.places.now 2 _ (omega (arith, c.told-places)) ∙ sym c.bytes_at-3.ensures in
    let at3 = section_at c.args.file.now c.args.places.now 3 _ (omega (arith, c.told-places)) ∙ sym c.bytes_at-4.ensures in
    let at4 = section_at c.args.file.now c.args.places.now 4 _ (omega (arith, c.told-places)) ∙ sym c.bytes_at-5.ensures in
    let parts : PlaneParts = record { subjects = c.in-Some.subjects; pair_ends = c.of_checked-pairs.result; pair_predicates = c.in-Some-open_predicates.symbols; object_ends = c.in-Some-open_ends-2.object_ends; pair_objects = []; objects = []; object_pair_ends = []; object_pairs = [] } in
    let front : KeepsFront (cut c.args.file.now c.args.places.now) c.args.terms c.args.predicates parts 4 = record {
      subjects = λ h. record { says = subst (λ b. LogSays b c.in-Some.subjects) (sym at0) c.in-Some.ensures.says; rising = c.in-Some.ensures.rising; bounded = c.in-Some.ensures.bounded };
      pair_ends = λ h. record { says = subst (BitsSay (section (cut c.args.file.now c.args.places.now) 1)) (sym c.of_checked-pairs.ensures) (subst (λ b. BitsSay b c.in-Some-open_ends.pair_ends) (sym at1) c.in-Some-open_ends.ensures.says); counted = ap ones c.of_checked-pairs.ensures ∙ c.in-Some-open_ends.ensures.counted ∙ c.len.ensures; closed = subst IsClosed (sym c.of_checked-pairs.ensures) c.in-Some-open_ends.ensures.closed };
      pair_predicates = λ h. record { says = subst (λ b. WaveletSays b c.in-Some-open_predicates.symbols) (sym at2) c.in-Some-open_predicates.ensures.says; counted = c.in-Some-open_predicates.ensures.counted; rising = c.in-Some-open_predicates.ensures.rising; bounded = c.in-Some-open_predicates.ensures.bounded };
      object_ends = λ h. record { says = subst (λ b. BitsSay b c.in-Some-open_ends-2.object_ends) (sym at3) c.in-Some-open_ends-2.ensures.says; counted = c.in-Some-open_ends-2.ensures.counted ∙ c.len-2.ensures.counted; closed = c.in-Some-open_ends-2.ensures.closed };
      pair_objects = λ h. absurd (omega arith);
    } in
    pair_objects_fault (cut c.args.file.now c.args.places.now) c.args.terms c.args.predicates parts front (λ xs says. none_at c.open_pair_objects.result c.in_default-open_pair_objects.not-Some c.open_pair_objects.ensures.none xs (subst (λ b. LogSays b xs) at4 says))

pub returns-in_err-objects-clause-fault : goal.returns-in_err-objects-clause-fault
returns-in_err-objects-clause-fault c =
    let at0 = section_at c.args.file.now c.args.places.now 0 _ (omega (arith, c.told-places)) ∙ sym c.bytes_at.ensures in
    let at1 = section_at c.args.file.now c.args.places.now 1 _ (omega (arith, c.told-places)) ∙ sym c.bytes_at-2.ensures in
    let at2 = section_at c.args.file.now c.args.places.now 2 _ (omega (arith, c.told-places)) ∙ sym c.bytes_at-3.ensures in
    let at3 = section_at c.args.file.now c.args.places.now 3 _ (omega (arith, c.told-places)) ∙ sym c.bytes_at-4.ensures in
    let at4 = section_at c.args.file.now c.args.places.now 4 _ (omega (arith, c.told-places)) ∙ sym c.bytes_at-5.ensures in
    let at5 = section_at c.args.file.now c.args.places.now 5 _ (omega (arith, c.told-places)) ∙ sym c.bytes_at-6.ensures in
    let at6 = section_at c.args.file.now c.args.places.now 6 _ (omega (arith, c.told-places)) ∙ sym c.bytes_at-7.ensures in
    let at7 = section_at c.args.file.now c.args.places.now 7 _ (omega (arith, c.told-places)) ∙ sym c.bytes_at-8.ensures in
    let ends_are : c.of_checked-triples.result.ends ≡ c.in-Some-open_ends-2.object_ends = ap (λ t. t.ends) c.of_checked-triples.ensures in
    let rights_are : c.of_checked-triples.result.rights ≡ c.in-Some-open_pair_objects.rights = ap (λ t. t.rights) c.of_checked-triples.ensures ∙ c.copy.ensures in
    let parts : PlaneParts = record { subjects = c.in-Some.subjects; pair_ends = c.of_checked-pairs.result; pair_predicates = c.in-Some-open_predicates.symbols; object_ends = c.of_checked-triples.result.ends; pair_objects = c.of_checked-triples.result.rights; objects = []; object_pair_ends = []; object_pairs = [] } in
    let front : KeepsFront (cut c.args.file.now c.args.places.now) c.args.terms c.args.predicates parts 5 = record {
      subjects = λ h. record { says = subst (λ b. LogSays b c.in-Some.subjects) (sym at0) c.in-Some.ensures.says; rising = c.in-Some.ensures.rising; bounded = c.in-Some.ensures.bounded };
      pair_ends = λ h. record { says = subst (BitsSay (section (cut c.args.file.now c.args.places.now) 1)) (sym c.of_checked-pairs.ensures) (subst (λ b. BitsSay b c.in-Some-open_ends.pair_ends) (sym at1) c.in-Some-open_ends.ensures.says); counted = ap ones c.of_checked-pairs.ensures ∙ c.in-Some-open_ends.ensures.counted ∙ c.len.ensures; closed = subst IsClosed (sym c.of_checked-pairs.ensures) c.in-Some-open_ends.ensures.closed };
      pair_predicates = λ h. record { says = subst (λ b. WaveletSays b c.in-Some-open_predicates.symbols) (sym at2) c.in-Some-open_predicates.ensures.says; counted = c.in-Some-open_predicates.ensures.counted; rising = c.in-Some-open_predicates.ensures.rising; bounded = c.in-Some-open_predicates.ensures.bounded };
      object_ends = λ h. record { says = subst (BitsSay (section (cut c.args.file.now c.args.places.now) 3)) (sym ends_are) (subst (λ b. BitsSay b c.in-Some-open_ends-2.object_ends) (sym at3) c.in-Some-open_ends-2.ensures.says); counted = ap ones ends_are ∙ c.in-Some-open_ends-2.ensures.counted ∙ c.len-2.ensures.counted; closed = subst IsClosed (sym ends_are) c.in-Some-open_ends-2.ensures.closed };
      pair_objects = λ h. record { says = subst (LogSays (section (cut c.args.file.now c.args.places.now) 4)) (sym rights_are) (subst (λ b. LogSays b c.in-Some-open_pair_objects.rights) (sym at4) c.in-Some-open_pair_objects.ensures.says); counted = ap length rights_are ∙ c.in-Some-open_pair_objects.ensures.counted ∙ ap length (sym ends_are); rising = subst (RisesInRows c.of_checked-triples.result.ends) (sym rights_are) (subst (λ ends. RisesInRows ends c.in-Some-open_pair_objects.rights) (sym ends_are) c.in-Some-open_pair_objects.ensures.rising); bounded = subst (IsBounded c.args.terms) (sym rights_are) c.in-Some-open_pair_objects.ensures.bounded };
    } in
    let error = c.in_err-objects.field-0.0 in
    let fault : IsObjectsError (section (cut c.args.file.now c.args.places.now) 5) (section (cut c.args.file.now c.args.places.now) 6) (section (cut c.args.file.now c.args.places.now) 7) c.of_checked-triples.result error =
    subst (λ b. IsObjectsError b (section (cut c.args.file.now c.args.places.now) 6) (section (cut c.args.file.now c.args.places.now) 7) c.of_checked-triples.result error) (sym at5)
    (subst (λ b. IsObjectsError c.bytes_at-6.result.now b (section (cut c.args.file.now c.args.places.now) 7) c.of_checked-triples.result error) (sym at6)
    (subst (λ b. IsObjectsError c.bytes_at-6.result.now c.bytes_at-7.result.now b c.of_checked-triples.result error) (sym at7) c.in_err-objects.ensures.fault)) in
    let p = err_from_is_err_and c.from_residual.result c.from_residual.ensures.1 in
    rw (p.1, p.2) (objects_error (cut c.args.file.now c.args.places.now) c.args.terms c.args.predicates parts _ front fault)

pub returns-clause-keep : goal.returns-clause-keep
returns-clause-keep c =
    let at0 = section_at c.args.file.now c.args.places.now 0 _ (omega (arith, c.told-places)) ∙ sym c.bytes_at.ensures in
    let at1 = section_at c.args.file.now c.args.places.now 1 _ (omega (arith, c.told-places)) ∙ sym c.bytes_at-2.ensures in
    let at2 = section_at c.args.file.now c.args.places.now 2 _ (omega (arith, c.told-places)) ∙ sym c.bytes_at-3.ensures in
    let at3 = section_at c.args.file.now c.args.places.now 3 _ (omega (arith, c.told-places)) ∙ sym c.bytes_at-4.ensures in
    let at4 = section_at c.args.file.now c.args.places.now 4 _ (omega (arith, c.told-places)) ∙ sym c.bytes_at-5.ensures in
    let at5 = section_at c.args.file.now c.args.places.now 5 _ (omega (arith, c.told-places)) ∙ sym c.bytes_at-6.ensures in
    let at6 = section_at c.args.file.now c.args.places.now 6 _ (omega (arith, c.told-places)) ∙ sym c.bytes_at-7.ensures in
    let at7 = section_at c.args.file.now c.args.places.now 7 _ (omega (arith, c.told-places)) ∙ sym c.bytes_at-8.ensures in
    let ends_are : c.of_checked-triples.result.ends ≡ c.in-Some-open_ends-2.object_ends = ap (λ t. t.ends) c.of_checked-triples.ensures in
    let rights_are : c.of_checked-triples.result.rights ≡ c.in-Some-open_pair_objects.rights = ap (λ t. t.rights) c.of_checked-triples.ensures ∙ c.copy.ensures in
    let parts : PlaneParts = record { subjects = c.in-Some.subjects; pair_ends = c.of_checked-pairs.result; pair_predicates = c.in-Some-open_predicates.symbols; object_ends = c.of_checked-triples.result.ends; pair_objects = c.of_checked-triples.result.rights; objects = []; object_pair_ends = []; object_pairs = [] } in
    let front : KeepsFront (cut c.args.file.now c.args.places.now) c.args.terms c.args.predicates parts 5 = record {
      subjects = λ h. record { says = subst (λ b. LogSays b c.in-Some.subjects) (sym at0) c.in-Some.ensures.says; rising = c.in-Some.ensures.rising; bounded = c.in-Some.ensures.bounded };
      pair_ends = λ h. record { says = subst (BitsSay (section (cut c.args.file.now c.args.places.now) 1)) (sym c.of_checked-pairs.ensures) (subst (λ b. BitsSay b c.in-Some-open_ends.pair_ends) (sym at1) c.in-Some-open_ends.ensures.says); counted = ap ones c.of_checked-pairs.ensures ∙ c.in-Some-open_ends.ensures.counted ∙ c.len.ensures; closed = subst IsClosed (sym c.of_checked-pairs.ensures) c.in-Some-open_ends.ensures.closed };
      pair_predicates = λ h. record { says = subst (λ b. WaveletSays b c.in-Some-open_predicates.symbols) (sym at2) c.in-Some-open_predicates.ensures.says; counted = c.in-Some-open_predicates.ensures.counted; rising = c.in-Some-open_predicates.ensures.rising; bounded = c.in-Some-open_predicates.ensures.bounded };
      object_ends = λ h. record { says = subst (BitsSay (section (cut c.args.file.now c.args.places.now) 3)) (sym ends_are) (subst (λ b. BitsSay b c.in-Some-open_ends-2.object_ends) (sym at3) c.in-Some-open_ends-2.ensures.says); counted = ap ones ends_are ∙ c.in-Some-open_ends-2.ensures.counted ∙ c.len-2.ensures.counted; closed = subst IsClosed (sym ends_are) c.in-Some-open_ends-2.ensures.closed };
      pair_objects = λ h. record { says = subst (LogSays (section (cut c.args.file.now c.args.places.now) 4)) (sym rights_are) (subst (λ b. LogSays b c.in-Some-open_pair_objects.rights) (sym at4) c.in-Some-open_pair_objects.ensures.says); counted = ap length rights_are ∙ c.in-Some-open_pair_objects.ensures.counted ∙ ap length (sym ends_are); rising = subst (RisesInRows c.of_checked-triples.result.ends) (sym rights_are) (subst (λ ends. RisesInRows ends c.in-Some-open_pair_objects.rights) (sym ends_are) c.in-Some-open_pair_objects.ensures.rising); bounded = subst (IsBounded c.args.terms) (sym rights_are) c.in-Some-open_pair_objects.ensures.bounded };
    } in
    all_keep (cut c.args.file.now c.args.places.now) c.args.terms c.args.predicates parts c.in_ok-objects.objects c.in_ok-objects.by_object 8 front
    (subst (λ b. KeepsObjects b (section (cut c.args.file.now c.args.places.now) 6) (section (cut c.args.file.now c.args.places.now) 7) (with_objects c.of_checked-triples.result c.in_ok-objects.objects c.in_ok-objects.by_object) 8) (sym at5)
    (subst (λ b. KeepsObjects c.bytes_at-6.result.now b (section (cut c.args.file.now c.args.places.now) 7) (with_objects c.of_checked-triples.result c.in_ok-objects.objects c.in_ok-objects.by_object) 8) (sym at6)
    (subst (λ b. KeepsObjects c.bytes_at-6.result.now c.bytes_at-7.result.now b (with_objects c.of_checked-triples.result c.in_ok-objects.objects c.in_ok-objects.by_object) 8) (sym at7) c.in_ok-objects.ensures.keep)))
