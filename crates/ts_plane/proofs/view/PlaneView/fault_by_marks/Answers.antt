use Rattle.std.proofs.Common.{◌≡◌, sym, ◌∙◌, subst, arith}
use Rattle.std.proofs.lemmas.Bool.{both_ways}
use Rattle.std.specs.List.Sorted.{IsStrictlyIncreasing}
use Rattle.ts_log.specs.LogArray.{LogSays}
use Rattle.ts_plane.specs.Objects.{EachStands}
use Rattle.ts_plane.proofs.ObjectSets.{exact_among, exact_from}
use Rattle.ts_plane.proofs.SectionFaults.{section_at}
use Rattle.ts_plane.proofs.view.PlaneView.fault_by_marks.Goals as goal

pub all_marked-requires-clause-found : goal.all_marked-requires-clause-found
all_marked-requires-clause-found c =
    let u = c.requires.unmarked in
    let at4 = section_at c.args.file.now c.args.places.now 4 _ (omega (arith, c.told-places)) ∙ sym c.bytes_at.ensures in
    let at5 = section_at c.args.file.now c.args.places.now 5 _ (omega (arith, c.told-places)) ∙ sym c.bytes_at-2.ensures in
    let rights = c.of_checked-rights.ensures.only u.parts.pair_objects (subst (λ b. LogSays b u.parts.pair_objects) at4 (u.before.pair_objects (omega arith)).says) in
    let objects = c.of_checked-objects.ensures.only u.objects (subst (λ b. LogSays b u.objects) at5 u.say) in
    subst (λ xs. EachStands xs c.of_checked-rights.result) objects (subst (λ ys. EachStands u.objects ys) rights u.found)

pub returns-then-branch : goal.returns-then-branch
returns-then-branch c =
    let u = c.requires.unmarked in
    let at4 = section_at c.args.file.now c.args.places.now 4 _ (omega (arith, c.told-places)) ∙ sym c.bytes_at.ensures in
    let at5 = section_at c.args.file.now c.args.places.now 5 _ (omega (arith, c.told-places)) ∙ sym c.bytes_at-2.ensures in
    let rights = c.of_checked-rights.ensures.only u.parts.pair_objects (subst (λ b. LogSays b u.parts.pair_objects) at4 (u.before.pair_objects (omega arith)).says) in
    let objects = c.of_checked-objects.ensures.only u.objects (subst (λ b. LogSays b u.objects) at5 u.say) in
    let among : EachStands u.parts.pair_objects u.objects =
    subst (λ ys. EachStands ys u.objects) (sym rights)
    (subst (λ xs. EachStands c.of_checked-rights.result xs) (sym objects) (c.in_ok-all_marked.ensures.0 c.if-branch.true)) in
    u.exact (exact_from u.objects u.parts.pair_objects u.rising among u.found)

pub returns-else-branch : goal.returns-else-branch
returns-else-branch c =
    let u = c.requires.unmarked in
    let at4 = section_at c.args.file.now c.args.places.now 4 _ (omega (arith, c.told-places)) ∙ sym c.bytes_at.ensures in
    let at5 = section_at c.args.file.now c.args.places.now 5 _ (omega (arith, c.told-places)) ∙ sym c.bytes_at-2.ensures in
    let rights = c.of_checked-rights.ensures.only u.parts.pair_objects (subst (λ b. LogSays b u.parts.pair_objects) at4 (u.before.pair_objects (omega arith)).says) in
    let objects = c.of_checked-objects.ensures.only u.objects (subst (λ b. LogSays b u.objects) at5 u.say) in
    u.other (λ is. both_ways c.in_ok-all_marked.field-0 c.if-branch.false (c.in_ok-all_marked.ensures.1
    (subst (λ xs. EachStands c.of_checked-rights.result xs) objects (subst (λ ys. EachStands ys u.objects) rights (exact_among u.objects u.parts.pair_objects is)))))

pub all_marked-requires-clause-increasing : goal.all_marked-requires-clause-increasing
all_marked-requires-clause-increasing c =
    let u = c.requires.unmarked in
    let at5 = section_at c.args.file.now c.args.places.now 5 _ (omega (arith, c.told-places)) ∙ sym c.bytes_at-2.ensures in
    subst IsStrictlyIncreasing (c.of_checked-objects.ensures.only u.objects (subst (λ b. LogSays b u.objects) at5 u.say)) u.rising
