use Rattle.std.proofs.Common.{◌≡◌, ◌-◌, ◌/◌, length, take, drop, sym, ◌∙◌, ap, subst}
use Rattle.std.proofs.lemmas.List.{take_rest}
use Rattle.ts_log.specs.LogArray.{LogSays}
use Rattle.ts_idmap.specs.Permutation.{Permutes, inverse_of}
use Rattle.ts_idmap.specs.IdMap.{MapSays}
use Rattle.ts_idmap.proofs.MapLemmas.{middle_of, one_map_said}
use Rattle.ts_idmap.proofs.view.IdMapView.of_checked.Goals as goal

pub of_checked-requires : goal.of_checked-requires
of_checked-requires c = (c.requires.0, (middle_of c.args.bytes.now c.requires.0 c.requires.1.1).first)

pub of_checked-requires-2 : goal.of_checked-requires-2
of_checked-requires-2 c =
    let bytes = c.args.bytes.now in
    let outer = c.requires.0 in (
      inverse_of outer,
      subst (λ l. LogSays l (inverse_of outer)) (sym (take_rest bytes (length bytes / 2))) (middle_of bytes outer c.requires.1.1).second,
    )

pub invariant_of-result : goal.invariant_of-result
invariant_of-result c =
    let bytes = c.args.bytes.now in
    let outer = c.requires.0 in
    let halves = middle_of bytes outer c.requires.1.1 in
    let first : outer ≡ c.of_checked.result = c.of_checked.ensures.only outer halves.first in
    let there : LogSays (take (length bytes - length bytes / 2) (drop (length bytes / 2) bytes)) (inverse_of outer) =
    subst (λ l. LogSays l (inverse_of outer)) (sym (take_rest bytes (length bytes / 2))) halves.second in
    let second : inverse_of outer ≡ c.of_checked-2.result = c.of_checked-2.ensures.only (inverse_of outer) there in (
      subst Permutes first c.requires.1.1.permutes,
      sym second ∙ ap inverse_of first,
    )

pub returns-clause-says : goal.returns-clause-says
returns-clause-says c =
    let first : c.requires.0 ≡ c.of_checked.result = c.of_checked.ensures.only c.requires.0 (middle_of c.args.bytes.now c.requires.0 c.requires.1.1).first in
    subst (MapSays c.args.bytes.now) first c.requires.1.1

pub returns-clause-long : goal.returns-clause-long
returns-clause-long c =
    let first : c.requires.0 ≡ c.of_checked.result = c.of_checked.ensures.only c.requires.0 (middle_of c.args.bytes.now c.requires.0 c.requires.1.1).first in
    ap length (sym first) ∙ c.requires.1.0

pub returns-clause-only : goal.returns-clause-only
returns-clause-only c = λ others says. one_map_said c.args.bytes.now others c.of_checked.result says (returns-clause-says c)
