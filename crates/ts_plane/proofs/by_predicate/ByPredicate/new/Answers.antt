use Rattle.std.proofs.Common.{ℕ, ap, ◌∙◌, arith, inl, inr}
use Rattle.ts_plane.specs.Read.{parts_in}
use Rattle.ts_plane.specs.Cursors.{with_predicate}
use Rattle.ts_plane.proofs.PredicateWalks.{stands_behind, stands_within, pair_skip}
use Rattle.ts_plane.proofs.by_predicate.ByPredicate.new.Goals as goal
use Rattle.ts_plane.proofs.by_predicate.ByPredicate.new.Goals.{then-here-p, else-here-p}

pub invariant_of-result : goal.invariant_of-result
invariant_of-result c =
    rw c.places_from-places.ensures (stands_behind (parts_in c.args.sections) c.args.p c.args.place c.len-then-place-len.result c.requires.kept (c.if-place-len.true ∙ c.len.ensures.counted) c.len-then-place-len.ensures)

pub invariant_of-result-2 : goal.invariant_of-result-2
invariant_of-result-2 c =
    rw c.places_from-places-2.ensures (stands_within (parts_in c.args.sections) c.args.p c.args.place c.left_of-pair.result c.row-end.result.0 c.row-end.result.1 c.pair-s.result.0 c.pair-s.result.1 c.if-here-p.place c.requires.kept
    (omega (arith, c.len.ensures.counted, c.requires.within, c.if-place-len.false)) c.left_of-pair.ensures.before c.row-end.ensures
    (ap (λ (pair : ℕ × ℕ). pair.0) c.pair-s.ensures) (ap (λ (pair : ℕ × ℕ). pair.1) c.pair-s.ensures)
    (elim c.if-here-p.branch [
      | then-here-p w ↦ inl (w.if-here-p.true, w.place-is)
      | else-here-p w ↦ inr w.place-is
    ]))

pub returns : goal.returns
returns c =
    elim c.if-here-p.branch [
      | then-here-p w ↦ ap (with_predicate (parts_in c.args.sections) c.args.p) w.place-is
      | else-here-p w ↦
          ap (with_predicate (parts_in c.args.sections) c.args.p) w.place-is
          ∙ pair_skip (parts_in c.args.sections) c.args.p c.args.place c.left_of-pair.result c.row-end.result.0 c.row-end.result.1 c.pair-s.result.1
          (omega (arith, c.len.ensures.counted, c.requires.within, c.if-place-len.false)) c.left_of-pair.ensures.before c.row-end.ensures (ap (λ (pair : ℕ × ℕ). pair.1) c.pair-s.ensures) w.if-here-p.false
    ]
