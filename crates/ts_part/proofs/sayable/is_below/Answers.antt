use Rattle.std.proofs.Common.{◌≡◌, ◌∙◌, sym, ap, ap₂}
use Rattle.std.specs.Cmp.Lexicographic.{slice_cmp}
use Rattle.std.specs.Ordering.{is_lt, nat_cmp}
use Rattle.ts_front.proofs.OrderLemmas.{less_is}
use Rattle.ts_part.proofs.sayable.is_below.Goals as goal

pub returns : goal.returns
returns c =
    let order : c.cmp.result ≡ slice_cmp nat_cmp c.args.term.now.spelling c.args.other.now.spelling =
    c.cmp.ensures ∙ ap₂ (λ s t. slice_cmp nat_cmp s t) c.spelling.ensures.spelling c.spelling-2.ensures.spelling in (
      (λ h. sym order ∙ less_is c.cmp.result (sym c.is_lt.ensures ∙ h)),
      (λ below. c.is_lt.ensures ∙ ap is_lt (order ∙ below)),
    )
