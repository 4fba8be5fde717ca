use Rattle.std.proofs.Common.{◌≡◌, length, ap, ◌∙◌}
use Rattle.std.proofs.lemmas.List.Filters.{dedup_is}
use Rattle.ts_model.specs.Order.{term_cmp_total, term_cmp-IsAntisymmetric}
use Rattle.ts_model.proofs.SetLaws.{length-distinct}
use Rattle.ts_model.proofs.totals.distinct.Goals as goal

pub returns : goal.returns
returns c =
    let kept : c.dedup.new.self.items ≡ _ = dedup_is _ _ _ c.dedup.ensures.filtered in
    c.len.ensures ∙ c.dedup.new.self.ok.0 ∙ ap length kept ∙ length-distinct term_cmp_total term_cmp-IsAntisymmetric (λ term. term.now) _ _ c.sort_unstable.ensures.permutation c.sort_unstable.ensures.sorted
