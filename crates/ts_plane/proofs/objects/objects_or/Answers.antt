use Rattle.std.proofs.Common.{refl, inl, inr}
use Rattle.std.proofs.lemmas.Bool.{both_ways}
use Rattle.ts_plane.proofs.ObjectSets.{exact_found, exact_from}
use Rattle.ts_plane.proofs.objects.objects_or.Goals as goal

pub returns-then-not-all_found : goal.returns-then-not-all_found
returns-then-not-all_found c = inr (
  (λ is. both_ways c.all_found.result c.if-not-all_found.true (c.all_found.ensures.1 (exact_found c.args.objects.now c.args.rights.now is))),
  refl,
)

pub returns-then-shown : goal.returns-then-shown
returns-then-shown c = inl (
  exact_from c.args.objects.now c.args.rights.now c.requires.increasing (c.requires.stand c.if-shown.true) (c.all_found.ensures.0 c.if-not-all_found.false),
  refl,
)
