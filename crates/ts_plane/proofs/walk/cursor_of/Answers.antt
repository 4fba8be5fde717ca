use Rattle.std.proofs.Common.{None, Some, refl, ap, ◌∙◌}
use Rattle.ts_plane.specs.Decoded.{triples_in}
use Rattle.ts_plane.specs.Pattern.{part_fits, walk_of}
use Rattle.ts_plane.specs.Read.{parts_in}
use Rattle.ts_plane.specs.Lookups.{pair_at, pair_fits}
use Rattle.ts_plane.proofs.WalkLemmas.{made_pattern, same_pattern, run_of_subject, run_of_pair, predicate_walk}
use Rattle.ts_plane.proofs.walk.cursor_of.Goals as goal

pub returns-in-None-o : goal.returns-in-None-o
returns-in-None-o c =
    c.run_after.ensures (made_pattern c.args.pattern.s None None)
    (run_of_subject (parts_in c.args.sections) c.args.pattern.s c.places_of-run.result.0 c.places_of-run.result.1
    (c.places_of-run.ensures.run (λ k. part_fits c.args.pattern.s (pair_at (parts_in c.args.sections) k).0) c.pairs_of_subject-from.ensures))
    ∙ ap (λ w. walk_of (triples_in (parts_in c.args.sections)) w c.args.after) (same_pattern c.args.pattern c.args.pattern.s None None refl c.in-None.is c.in-None-o.is)

pub returns-in-None-o-2 : goal.returns-in-None-o-2
returns-in-None-o-2 c =
    c.new-in-None-o-2.ensures ∙ predicate_walk (parts_in c.args.sections) c.in-Some.p c.args.after c.start-place.result c.start-place.ensures
    ∙ ap (λ w. walk_of (triples_in (parts_in c.args.sections)) w c.args.after) (same_pattern c.args.pattern None (Some c.in-Some.p) None c.in-None-s.is c.in-Some.is c.in-None-o-2.is)

pub returns-in-None-o-3 : goal.returns-in-None-o-3
returns-in-None-o-3 c =
    c.run_after-in-None-o-3.ensures (made_pattern (Some c.in-Some-s.s) (Some c.in-Some.p) None)
    (run_of_pair (parts_in c.args.sections) c.in-Some-s.s c.in-Some.p c.places_of-run-in-None-o-3.result.0 c.places_of-run-in-None-o-3.result.1
    (c.places_of-run-in-None-o-3.ensures.run (λ k. pair_fits (Some c.in-Some-s.s) (Some c.in-Some.p) (pair_at (parts_in c.args.sections) k)) c.pairs_of-from.ensures.run))
    ∙ ap (λ w. walk_of (triples_in (parts_in c.args.sections)) w c.args.after) (same_pattern c.args.pattern (Some c.in-Some-s.s) (Some c.in-Some.p) None c.in-Some-s.is c.in-Some.is c.in-None-o-3.is)
