use Rattle.std.proofs.Common.{◌∙◌, ap, subst, get_or}
use Rattle.ts_idmap.specs.Permutation.{Permutes, place_in}
use Rattle.ts_idmap.proofs.PermutationLemmas.{place_in-get_or}
use Rattle.ts_idmap.proofs.view.IdMapView.outer.Goals as goal

pub returns-clause-back : goal.returns-clause-back
returns-clause-back c =
    let permutes : Permutes c.args.self.now = subst Permutes c.self.view_is c.self.invariant.0 in
    ap (place_in c.args.self.now) (c.get.ensures ∙ ap (λ l. get_or l c.args.entry 0) c.self.view_is)
    ∙ place_in-get_or c.args.self.now c.args.entry permutes c.requires
