use Rattle.std.proofs.Common.{◌+◌, sym, ap, subst}
use Rattle.std.specs.List.Sorted.{IsStrictlyIncreasing}
use Rattle.ts_part.proofs.ToldParts.{objects_rise, subjects_rise}
use Rattle.ts_part.proofs.ToldPlanes.{told_terms}
use Rattle.ts_part.proofs.UsedLemmas.{iff_then, terms_each}
use Rattle.ts_part.proofs.sections.Sections.terms_are_used.Goals as goal

pub are_in_either-requires-clause-one : goal.are_in_either-requires-clause-one
are_in_either-requires-clause-one c =
    subst IsStrictlyIncreasing (sym (c.subjects.ensures c.requires.0 c.requires.1)) (subjects_rise c.requires.0 c.args.self.now c.requires.1)

pub are_in_either-requires-clause-other : goal.are_in_either-requires-clause-other
are_in_either-requires-clause-other c =
    subst IsStrictlyIncreasing (sym (c.objects.ensures c.requires.0 c.requires.1)) (objects_rise c.requires.0 c.args.self.now c.requires.1)

pub returns : goal.returns
returns c = λ facts tells.
    let h = c.args.self.now.header.now in
    iff_then c.are_in_either.ensures
    (terms_each facts c.subjects.result c.objects.result h.terms_before (h.terms_before + h.nodes + h.values)
    (c.subjects.ensures facts tells) (c.objects.ensures facts tells) (ap (λ x. x.terms_before) tells.headed) (told_terms c.args.self.now facts tells))
