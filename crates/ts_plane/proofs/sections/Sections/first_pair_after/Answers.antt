use Rattle.std.proofs.Common.{ℕ, ap, sym, ◌∙◌, arith}
use Rattle.ts_plane.specs.Read.{parts_in}
use Rattle.ts_plane.proofs.AfterLemmas.{pairs_after_other, pairs_after_same}
use Rattle.ts_plane.proofs.sections.Sections.first_pair_after.Goals as goal
use Rattle.ts_plane.proofs.sections.Sections.first_pair_after.Goals.{else-s-t-via-then-s-t+else-p-t, else-s-t-via-else-s-t}

pub returns-then-p-t : goal.returns-then-p-t
returns-then-p-t c =
    pairs_after_same (parts_in c.args.self.now) c.args.t c.first_pair-first.result c.args.o c.requires c.first_pair-first.ensures
    (omega (arith, c.first_pair-first.ensures.within, c.len.ensures.counted))
    (sym (ap (λ (pair : ℕ × ℕ). pair.0) c.pair-s.ensures) ∙ c.if-s-t.true) (sym (ap (λ (pair : ℕ × ℕ). pair.1) c.pair-s.ensures) ∙ c.if-p-t.true) (omega arith)

pub returns-else-s-t : goal.returns-else-s-t
returns-else-s-t c =
    pairs_after_other (parts_in c.args.self.now) c.args.t c.first_pair-first.result c.args.o c.requires c.first_pair-first.ensures
    (λ e f. elim c.else-s-t.branch [
      | else-s-t-via-then-s-t+else-p-t w ↦ w.if-p-t.false (ap (λ (pair : ℕ × ℕ). pair.1) c.pair-s.ensures ∙ f)
      | else-s-t-via-else-s-t w ↦ w.if-s-t.false (ap (λ (pair : ℕ × ℕ). pair.0) c.pair-s.ensures ∙ e)
    ])
