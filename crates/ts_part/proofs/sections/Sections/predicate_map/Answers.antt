use Rattle.std.proofs.Common.{List, ℕ, sym, subst}
use Rattle.ts_idmap.specs.IdMap.{MapSays}
use Rattle.ts_part.proofs.ToldPlanes.{told_maps}
use Rattle.ts_part.proofs.sections.Sections.predicate_map.Goals as goal

pub of_checked-requires : goal.of_checked-requires
of_checked-requires c =
    let maps = told_maps c.args.self.now c.requires.told.0 c.requires.told.1 c.requires.rollup in (
      c.requires.told.0.predicate_map,
      (maps.many_predicates, subst (λ (bytes : List ℕ). MapSays bytes c.requires.told.0.predicate_map) (sym c.bytes_of.ensures) maps.predicates),
    )

pub returns : goal.returns
returns c = λ facts tells.
    sym (c.of_checked.ensures.only facts.predicate_map
    (subst (λ (bytes : List ℕ). MapSays bytes facts.predicate_map) (sym c.bytes_of.ensures) (told_maps c.args.self.now facts tells c.requires.rollup).predicates))
