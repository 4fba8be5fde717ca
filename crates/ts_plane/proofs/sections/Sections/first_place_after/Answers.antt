use Rattle.std.proofs.Common.{ℕ, length, ap, sym, ◌∙◌, ◌≡◌, subst}
use Rattle.ts_plane.specs.Read.{parts_in}
use Rattle.ts_plane.specs.Lookups.{IsFirstPair}
use Rattle.ts_plane.proofs.AfterLemmas.{run_after_none, run_after_other, run_after_same}
use Rattle.ts_plane.proofs.sections.Sections.first_place_after.Goals as goal
use Rattle.ts_plane.proofs.sections.Sections.first_place_after.Goals.{else-s-t-via-then-s-t+else-p-t, else-s-t-via-else-s-t}

pub returns-then-pair-len : goal.returns-then-pair-len
returns-then-pair-len c =
    let none : c.first_pair-pair.result ≡ length c.args.self.now.pairs = c.if-pair-len.true ∙ c.len.ensures.counted in
    rw c.len-then-pair-len.ensures.counted (run_after_none (parts_in c.args.self.now) c.args.t c.requires
    (subst (λ k. IsFirstPair (parts_in c.args.self.now) c.args.t.s c.args.t.p k) none c.first_pair-pair.ensures))

pub returns-then-p-t : goal.returns-then-p-t
returns-then-p-t c =
    run_after_same (parts_in c.args.self.now) c.args.t c.first_pair-pair.result c.row-first.result.0 c.row-first.result.1 c.first_above.result c.requires c.first_pair-pair.ensures c.row-first.ensures
    (sym (ap (λ (pair : ℕ × ℕ). pair.0) c.pair-s.ensures) ∙ c.if-s-t.true) (sym (ap (λ (pair : ℕ × ℕ). pair.1) c.pair-s.ensures) ∙ c.if-p-t.true) c.first_above.ensures

pub returns-else-s-t : goal.returns-else-s-t
returns-else-s-t c =
    run_after_other (parts_in c.args.self.now) c.args.t c.first_pair-pair.result c.row-first.result.0 c.row-first.result.1 c.requires c.first_pair-pair.ensures c.row-first.ensures
    (λ e f. elim c.else-s-t.branch [
      | else-s-t-via-then-s-t+else-p-t w ↦ w.if-p-t.false (ap (λ (pair : ℕ × ℕ). pair.1) c.pair-s.ensures ∙ f)
      | else-s-t-via-else-s-t w ↦ w.if-s-t.false (ap (λ (pair : ℕ × ℕ). pair.0) c.pair-s.ensures ∙ e)
    ])
