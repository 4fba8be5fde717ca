use Rattle.std.proofs.Common.{◌≡◌, ◌<◌, length, sym, ◌∙◌, ap, subst, get_or}
use Rattle.ts_idmap.specs.Permutation.{Permutes, inverse_of}
use Rattle.ts_idmap.proofs.PermutationLemmas.{length-inverse_of, get_or-inverse_of, place_below, get_or-place_in}
use Rattle.ts_idmap.proofs.view.IdMapView.entry.Goals as goal

pub get-requires : goal.get-requires
get-requires c =
    let many : length c.self.inside.entries ≡ length c.args.self.now =
    ap length c.self.invariant.1 ∙ length-inverse_of c.self.inside.numbers ∙ ap length c.self.view_is in
    subst (λ n. c.args.outer < n) (sym many) c.requires

pub returns-clause-value : goal.returns-clause-value
returns-clause-value c =
    let permutes : Permutes c.args.self.now = subst Permutes c.self.view_is c.self.invariant.0 in
    let inverts : c.self.inside.entries ≡ inverse_of c.args.self.now = c.self.invariant.1 ∙ ap inverse_of c.self.view_is in
    c.get.ensures ∙ ap (λ l. get_or l c.args.outer 0) inverts ∙ get_or-inverse_of c.args.self.now c.args.outer c.requires

pub returns-clause-inside : goal.returns-clause-inside
returns-clause-inside c =
    let permutes : Permutes c.args.self.now = subst Permutes c.self.view_is c.self.invariant.0 in
    subst (λ n. n < length c.args.self.now) (sym (returns-clause-value c)) (place_below c.args.self.now c.args.outer permutes c.requires)

pub returns-clause-back : goal.returns-clause-back
returns-clause-back c =
    let permutes : Permutes c.args.self.now = subst Permutes c.self.view_is c.self.invariant.0 in
    ap (λ n. get_or c.args.self.now n 0) (returns-clause-value c) ∙ get_or-place_in c.args.self.now c.args.outer permutes c.requires
