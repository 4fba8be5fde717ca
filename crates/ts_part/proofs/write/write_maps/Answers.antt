use Rattle.std.proofs.Common.{◌++◌, ◌∷◌, [], refl, sym, subst, append_assoc}
use Rattle.std.proofs.lemmas.List.{append-nil}
use Rattle.ts_idmap.specs.IdMap.{map_of}
use Rattle.ts_part.specs.Sayable.{AreMaps}
use Rattle.ts_part.specs.Written.{HoldsMaps, HoldsSections}
use Rattle.ts_part.proofs.write.write_maps.Goals as goal

pub returns-in-Layer : goal.returns-in-Layer
returns-in-Layer c = λ sections holds.
    let none = subst (λ kind. AreMaps kind c.args.terms.now c.args.predicates.now) c.in-Layer.is c.requires in
    subst (λ kind. HoldsMaps kind c.args.body.now sections c.args.terms.now c.args.predicates.now) (sym c.in-Layer.is)
    (record { maps = []; counted = refl; are = none; holds = subst (HoldsSections c.args.body.now) (sym (append-nil sections)) holds })

pub returns-in_ok-write_map-in-Rollup-2 : goal.returns-in_ok-write_map-in-Rollup-2
returns-in_ok-write_map-in-Rollup-2 c = λ sections holds.
    let terms = map_of c.args.terms.now in
    let predicates = map_of c.args.predicates.now in
    let front = c.in_ok-write_map-in-Rollup.ensures.holds sections holds in
    let both = c.in_ok-write_map-in-Rollup-2.ensures.holds (sections ++ terms ∷ []) front in
    subst (λ kind. HoldsMaps kind c.write_map-in-Rollup.new.body sections c.args.terms.now c.args.predicates.now) (sym c.in-Rollup.is)
    (record {
      maps = terms ∷ predicates ∷ [];
      counted = refl;
      are = (c.in_ok-write_map-in-Rollup.ensures.says, c.in_ok-write_map-in-Rollup-2.ensures.says);
      holds = subst (HoldsSections c.write_map-in-Rollup.new.body) (append_assoc sections (terms ∷ []) (predicates ∷ [])) both;
    })
