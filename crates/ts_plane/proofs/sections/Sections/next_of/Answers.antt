use Rattle.std.proofs.Common.{get_or, sym, ap, ◌∙◌, arith, inl, inr}
use Rattle.std.proofs.lemmas.Bool.{cases_lt}
use Rattle.std.proofs.lemmas.Option.{get_or_from_slice_get}
use Rattle.ts_plane.specs.Read.{parts_in}
use Rattle.ts_plane.proofs.ObjectLemmas.{object_pair_within}
use Rattle.ts_plane.proofs.sections.Sections.next_of.Goals as goal

pub at-requires : goal.at-requires
at-requires c =
    let kept = c.requires.kept in
    let within = object_pair_within (parts_in c.args.self.now) c.loop-next.next kept (omega (arith, c.requires.within, c.loop-next-test.true)) in
    omega (arith, within, c.right-pair.ensures, kept.predicates_counted)

pub place_behind-next-requires-clause-other : goal.place_behind-next-requires-clause-other
place_behind-next-requires-clause-other c =
    let read = get_or_from_slice_get c.args.self.now.predicates _ c.at.result 0 c.at.ensures in
    λ e. c.if-at-p.false (sym read ∙ ap (λ k. get_or c.args.self.now.predicates k 0) c.right-pair.ensures ∙ e)

pub loop-next-preserved : goal.loop-next-preserved
loop-next-preserved c = record {
  low = omega (arith, c.loop-next.invariant.low, c.place_behind-next.ensures.begins);
  high = c.place_behind-next.ensures.ends;
  none = λ q low high. elim (cases_lt q c.loop-next.next) [
    | inl before ↦ c.loop-next.invariant.none q low before
    | inr not ↦ c.place_behind-next.ensures.none q not high
  ];
}
