use Rattle.std.proofs.Common.{sym, subst}
use Rattle.std.proofs.lemmas.Bool.{ltb-true, lt-ltb}
use Rattle.std.specs.List.{Contains}
use Rattle.ts_plane.specs.Read.{parts_in}
use Rattle.ts_plane.proofs.KeptLemmas.{kept_of}
use Rattle.ts_plane.proofs.RangeLemmas.{contains_from, contains_since}
use Rattle.ts_plane.proofs.view.PlaneView.has.Goals as goal

pub place_of-place-requires : goal.place_of-place-requires
place_of-place-requires c = kept_of (parts_in c.self.inside.sections) c.self.invariant

pub returns : goal.returns
returns c = (
  λ yes. subst (λ triples. Contains triples c.args.t) c.self.view_is
      (contains_from (parts_in c.self.inside.sections) c.args.t c.place_of-place.result.0 c.place_of-place.result.1 c.place_of-place.ensures (ltb-true c.place_of-place.result.0 c.place_of-place.result.1 yes)),
  λ there. lt-ltb c.place_of-place.result.0 c.place_of-place.result.1
      (contains_since (parts_in c.self.inside.sections) c.args.t c.place_of-place.result.0 c.place_of-place.result.1 c.place_of-place.ensures (subst (λ triples. Contains triples c.args.t) (sym c.self.view_is) there)),
)
